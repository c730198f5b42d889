pub mod Gained
pub mod Pieces
