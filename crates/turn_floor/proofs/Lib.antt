pub mod Closing
pub mod Counting
pub mod Dealing
pub mod Histories
pub mod Joins
pub mod Seats
pub mod Steps
pub mod Turning
