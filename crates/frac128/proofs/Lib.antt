pub mod Fractions
pub mod Wholes
mod Carried
mod Halving
mod Making
mod Rests
mod Ratios
mod Ahead
pub mod Moves
mod Differences
mod RampDifferences
mod Meets
mod Levels
mod Plains
