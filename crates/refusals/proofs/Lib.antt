pub mod Outcomes
pub mod Range
pub mod Printed
