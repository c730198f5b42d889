pub mod CallerLemmas
pub mod Counted
pub mod Kept
pub mod Layouts
pub mod Numbered
pub mod Placed
pub mod Recalled
pub mod Requeued
