pub mod Following
pub mod Leaving
pub mod Rings
pub mod Held
pub mod Numbered
