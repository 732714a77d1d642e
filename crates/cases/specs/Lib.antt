pub mod Case
pub mod Worked
