pub mod Reach
pub mod Run
pub mod Tells
pub mod Sets
pub mod Checks
