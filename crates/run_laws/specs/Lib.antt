pub mod OneAnswer
pub mod Crowd
