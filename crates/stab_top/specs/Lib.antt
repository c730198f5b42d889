pub mod Running
pub mod Milling
pub mod Serving
pub mod Call
pub mod Command
pub mod Complete
pub mod Headline
pub mod Alone
