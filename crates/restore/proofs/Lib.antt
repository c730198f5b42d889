pub mod Ordered
pub mod Finding
pub mod Carried
pub mod Marked
