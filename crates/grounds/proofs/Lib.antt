pub mod Descents
pub mod Searches
pub mod Sweeps
pub mod Triangle
