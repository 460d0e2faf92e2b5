pub mod KnotLemmas
pub mod BuildingLemmas
pub mod Values
pub mod SampleLemmas
pub mod Telling
pub mod Cutting
pub mod Moving
pub mod SupLemmas
pub mod Choices
pub mod JoiningLemmas
pub mod Places
pub mod Limits
mod FaultLemmas
pub mod Kept
pub mod PlainLemmas
