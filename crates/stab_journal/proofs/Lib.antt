pub mod Changes
pub mod Entries
pub mod Events
pub mod Look
pub mod NumberSteps
pub mod Reading
pub mod Surviving
