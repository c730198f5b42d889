pub mod Line
pub mod Noted
pub mod Found
pub mod Left
