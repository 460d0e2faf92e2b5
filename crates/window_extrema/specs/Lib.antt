pub mod Range
pub mod Stairs
