mod MovingLemmas
mod GrowingLemmas
mod TellingLemmas
mod ReadyLemmas
mod StandingLemmas
pub mod LongerRows
