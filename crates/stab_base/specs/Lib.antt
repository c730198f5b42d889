pub mod Datum
pub mod DatumCode
pub mod FaultName
pub mod Gain
pub mod Limits
pub mod PairFault
pub mod Printed
pub mod ShapeView
