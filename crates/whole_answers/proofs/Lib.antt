pub mod Progress
pub mod CaseSignals
mod RobustAnswers
