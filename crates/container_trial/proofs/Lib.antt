pub mod There
pub mod Backs
pub mod SavedPlaces
