pub mod Disk
pub mod DiskLog
pub mod MemLog
pub mod Opened
pub mod Told
