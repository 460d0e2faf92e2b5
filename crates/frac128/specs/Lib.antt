pub mod Lowest
pub mod Value
pub mod Line
pub mod Sizes
pub mod Difference
pub mod Spans
pub mod Ratios
pub mod Cuts
