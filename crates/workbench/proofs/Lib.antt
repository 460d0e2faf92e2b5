pub mod Endings
pub mod RunEnds
pub mod LeftByRun
pub mod StreamSteps
mod Beginnings
pub mod AtRest
pub mod ManyLines
mod Calmness
