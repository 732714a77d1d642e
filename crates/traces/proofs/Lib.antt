mod Rows
mod Steps
pub mod Outcomes
