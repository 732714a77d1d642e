pub mod Edge
pub mod Moves
pub mod Readings
pub mod Rule
pub mod Sheets
