pub mod Generations
pub mod Led
pub mod Parts
pub mod Replayed
pub mod Signs
pub mod Stretch
pub mod Surviving
pub mod Verdict
