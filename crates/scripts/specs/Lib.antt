pub mod Requests
pub mod Reading
pub mod Split
pub mod Lines
