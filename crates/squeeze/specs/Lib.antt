pub mod Squeeze
pub mod Sheet
pub mod Held
pub mod Valid
pub mod Reading
