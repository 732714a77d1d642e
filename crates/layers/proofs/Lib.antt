pub mod SeriesRows
pub mod Performing
pub mod Counting
pub mod Filling
