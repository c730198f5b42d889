pub mod Numbers
pub mod Lines
pub mod Ending
pub mod Serving
pub mod Taking
pub mod Rounds
pub mod Going
pub mod Stretches
