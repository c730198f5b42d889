pub mod Counting
pub mod ShortTraces
pub mod Judged
pub mod Front
