pub mod Layout
pub mod Saved
