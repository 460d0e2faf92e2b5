pub mod Answers
pub mod JoinedParts
