pub mod Names
pub mod Noting
pub mod Stepping
pub mod Fitting
pub mod Turning
pub mod Added
