pub mod Described
pub mod Held
pub mod Valid
