pub mod Putting
pub mod Redexes
pub mod Heights
pub mod Outcomes
pub mod Bodies
pub mod Looks
pub mod Effects
pub mod Running
