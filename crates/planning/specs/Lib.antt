pub mod Planned
pub mod Round
pub mod Nearest
pub mod Walk
pub mod Aimed
