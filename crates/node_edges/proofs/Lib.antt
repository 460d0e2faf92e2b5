pub mod DroppingLemmas
pub mod Stretches
pub mod Verdicts
mod FarLemmas
mod FarSteps
mod QueueLemmas
mod TrackLemmas
