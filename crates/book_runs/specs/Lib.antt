pub mod Watching
pub mod Ending
pub mod Rounds
pub mod Playing
pub mod Serving
