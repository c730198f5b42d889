pub mod Text
pub mod FaultText
