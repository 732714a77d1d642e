pub mod Ways
pub mod Rounds
pub mod Rules
pub mod Layers
pub mod Cases
