pub mod Adding
pub mod Leasing
pub mod Committing
pub mod Releasing
pub mod Asking
pub mod Rounding
pub mod Released
pub mod Crossing
