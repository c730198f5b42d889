pub mod Report
pub mod Reason
pub mod Loading
pub mod Reading
pub mod Input
pub mod Call
