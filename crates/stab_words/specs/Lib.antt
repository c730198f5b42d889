pub mod Command
pub mod Number
pub mod Given
pub mod Asked
pub mod Steps
pub mod Within
pub mod FaultText
