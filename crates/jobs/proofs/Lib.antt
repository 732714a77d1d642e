pub mod Checking
pub mod Making
pub mod Holding
pub mod Running
pub mod Telling
