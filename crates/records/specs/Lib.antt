pub mod Contents
pub mod Format
pub mod Reading
pub mod Laws
pub mod Held
pub mod Writing
pub mod Printing
