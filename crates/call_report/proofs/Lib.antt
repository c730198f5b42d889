pub mod ReadFirst
pub mod RunRead
pub mod MillFits
