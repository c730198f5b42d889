pub mod Order
pub mod Script
