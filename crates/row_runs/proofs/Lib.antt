pub mod MergedVerdicts
pub mod PartedVerdicts
pub mod GivenCut
pub mod Once
pub mod MergedOutputs
pub mod BuiltRuns
pub mod StandsByRow
