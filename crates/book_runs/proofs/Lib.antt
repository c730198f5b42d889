pub mod Led
pub mod Resting
pub mod Rounding
pub mod Played
pub mod Results
pub mod Ending
pub mod Watched
pub mod Served
