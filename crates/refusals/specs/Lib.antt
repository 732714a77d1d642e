pub mod Numbers
pub mod Outcomes
pub mod Printed
