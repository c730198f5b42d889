pub mod CallerLemmas
pub mod Lined
pub mod Numbered
pub mod Threads
