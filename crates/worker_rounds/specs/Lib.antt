pub mod Rounds
pub mod Releases
pub mod Left
pub mod Shared
