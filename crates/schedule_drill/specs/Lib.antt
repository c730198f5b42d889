pub mod Out
pub mod Text
pub mod Played
pub mod Drilled
pub mod Alike
pub mod Solo
