mod MakingLemmas
pub mod StretchLemmas
pub mod SpanLemmas
mod BlockLemmas
pub mod StretchesJoin
pub mod GrowingLemmas
mod EndingLemmas
pub mod WindowLemmas
pub mod LoopLemmas
pub mod RunLemmas
mod SetLaws
pub mod HoldingLemmas
pub mod AddLemmas
mod SureLemmas
pub mod ReachLemmas
pub mod Gaps
pub mod Failures
mod TickLemmas
mod SharedLemmas
mod BetweenLemmas
mod LastingLemmas
mod ShowingLemmas
