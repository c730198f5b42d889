pub mod Ready
pub mod Slot
pub mod Layout
pub mod Queues
