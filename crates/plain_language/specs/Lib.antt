pub mod Acts
pub mod Falls
pub mod Given
pub mod Next
pub mod Plays
pub mod Pures
pub mod Seen
pub mod View
