pub mod Level
pub mod Reach
pub mod Sound
