pub mod Words
pub mod Orienting
pub mod Sureness
pub mod Deciding
