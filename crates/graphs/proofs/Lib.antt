pub mod Bounds
pub mod Certificates
pub mod Distances
pub mod Meeting
pub mod Numbering
pub mod PairRules
pub mod Sizes
pub mod PoseRules
