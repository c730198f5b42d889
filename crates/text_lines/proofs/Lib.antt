pub mod LineList
pub mod Numerals
pub mod Pieces
pub mod Splits
pub mod Values
