pub mod Count
pub mod DiskFiles
pub mod Entry
pub mod Loaded
pub mod Told
pub mod MemFiles
pub mod MemSink
pub mod OutSink
