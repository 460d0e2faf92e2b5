pub mod SessionsSaid
pub mod EndsSaid
pub mod OwedLines
mod PlainTexts
pub mod HearingLemmas
