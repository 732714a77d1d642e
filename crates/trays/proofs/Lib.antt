pub mod Relation
pub mod Counting
pub mod Passing
pub mod Moving
pub mod Format
pub mod Cellwise
