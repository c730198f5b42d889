pub mod Offer
pub mod Line
pub mod Nodes
pub mod Layout
