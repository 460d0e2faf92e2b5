pub mod Counting
pub mod Counts
pub mod Generator
pub mod Made
