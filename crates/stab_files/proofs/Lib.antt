pub mod Counts
pub mod Moved
pub mod Named
pub mod Puts
pub mod Telling
