pub mod Live
pub mod Serving
pub mod Replies
pub mod Going
