pub mod Dial
pub mod Action
