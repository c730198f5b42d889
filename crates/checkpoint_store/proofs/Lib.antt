pub mod Changed
pub mod Controls
pub mod Found
pub mod Order
