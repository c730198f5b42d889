pub mod Came
pub mod Input
pub mod Sources
