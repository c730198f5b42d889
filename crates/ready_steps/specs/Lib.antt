pub mod Resting
pub mod Ready
pub mod Labels
