mod TurnLemmas
mod SetLemmas
mod SteppingLemmas
mod MakingLemmas
pub mod WindowPlaces
mod WindowLemmas
mod PartLemmas
mod SeeingLemmas
mod ReachLemmas
mod SpanLemmas
