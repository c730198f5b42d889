pub mod ByNumber
pub mod Few
pub mod Lines
pub mod Tallying
pub mod Showing
pub mod Going
