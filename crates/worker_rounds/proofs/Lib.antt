pub mod Written
pub mod First
pub mod Closed
pub mod Sharing
