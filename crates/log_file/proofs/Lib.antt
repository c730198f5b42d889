pub mod Firm
pub mod Whole
