pub mod Reached
pub mod MarkList
pub mod Progress
