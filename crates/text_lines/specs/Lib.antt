pub mod Digits
pub mod Lines
pub mod Numeral
pub mod Table
