pub mod BindingLemmas
pub mod Columns
pub mod SumLemmas
pub mod Signs
pub mod Crossings
pub mod Margins
pub mod GrowingSums
pub mod Readings
pub mod ValueLimits
pub mod GrowingLemmas
pub mod WayLemmas
mod MarginWayLemmas
mod LegLemmas
