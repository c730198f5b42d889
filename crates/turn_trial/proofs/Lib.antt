pub mod Crossing
pub mod Left
