pub mod Graph
pub mod Distance
pub mod Certificate
pub mod Laws
pub mod Poses
pub mod Pairs
pub mod PairRule
pub mod PoseLaws
