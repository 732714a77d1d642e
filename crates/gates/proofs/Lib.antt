pub mod OneGate
pub mod Rows
pub mod Sheets
