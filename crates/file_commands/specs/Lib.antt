pub mod Checking
pub mod Judging
pub mod Drilling
pub mod Typing
pub mod Saving
pub mod Resuming
