pub mod Sets
pub mod Images
pub mod Ranges
