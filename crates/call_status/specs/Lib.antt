pub mod Status
pub mod Role
