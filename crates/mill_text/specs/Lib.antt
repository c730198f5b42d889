pub mod Mill
