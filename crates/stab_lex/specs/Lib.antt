pub mod Kinds
pub mod Pieces
pub mod Place
pub mod Readings
pub mod Steps
pub mod Limits
