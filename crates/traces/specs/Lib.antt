pub mod Rows
pub mod Trace
