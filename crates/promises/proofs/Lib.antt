pub mod OneRequest
pub mod CompleteRuns
pub mod Due
pub mod NoForm
pub mod CheckPromises
pub mod MarginTruth
mod ExplainTexts
mod JsonTexts
pub mod OwedLaws
pub mod SureRows
pub mod SureLines
pub mod SureDecisions
pub mod SureMargins
pub mod EndsOnce
pub mod BenchesHear
mod KeepingPace
mod AccountLaw
mod TextExamples
mod SessionExamples
