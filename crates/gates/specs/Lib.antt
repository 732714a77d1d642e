pub mod Gates
pub mod Sheet
pub mod Held
pub mod Valid
pub mod Fields
