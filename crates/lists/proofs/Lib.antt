pub mod Appended
pub mod Front
pub mod Lent
