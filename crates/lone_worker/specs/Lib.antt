pub mod Turn
pub mod Desk
pub mod Running
pub mod Rounds
pub mod Solo
