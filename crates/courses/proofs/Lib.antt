pub mod CourseLemmas
pub mod PlayLemmas
pub mod FaultLemmas
