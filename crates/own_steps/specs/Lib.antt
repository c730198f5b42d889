pub mod Own
pub mod Layout
