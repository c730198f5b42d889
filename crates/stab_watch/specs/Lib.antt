pub mod Counts
pub mod Known
pub mod Board
pub mod Passes
