pub mod Telling
pub mod Searching
pub mod Labelling
pub mod Together
