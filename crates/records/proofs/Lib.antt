pub mod FaultPlaces
pub mod Limits
pub mod Lists
pub mod OneRecord
pub mod Steps
pub mod Writes
