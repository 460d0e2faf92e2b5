pub mod PartsLaw
pub mod AnswerLaw
