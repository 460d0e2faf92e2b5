pub mod Holdings
pub mod Work
