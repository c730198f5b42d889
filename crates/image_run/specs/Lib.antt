pub mod Next
pub mod Origin
pub mod Machine
pub mod Noted
pub mod Acting
pub mod Turns
