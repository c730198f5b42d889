pub mod Layout
pub mod Log
