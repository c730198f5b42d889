pub mod Drilled
pub mod SourceRead
pub mod ImageRead
pub mod GoneOn
