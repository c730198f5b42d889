pub mod Entered
pub mod Known
pub mod Lines
pub mod Lost
pub mod Pass
pub mod Surviving
