pub mod Calls
pub mod Layout
pub mod Log
pub mod Moved
pub mod Struck
