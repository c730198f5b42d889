pub mod Cuts
pub mod Saved
pub mod Shown
