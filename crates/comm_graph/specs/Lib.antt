pub mod Node
pub mod Edge
pub mod Line
pub mod Table
pub mod Sound
pub mod Walk
pub mod Left
