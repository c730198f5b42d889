pub mod Acting
pub mod Blocks
pub mod Bodies
pub mod Inside
pub mod Locals
pub mod Looking
