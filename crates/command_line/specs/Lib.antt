pub mod ErrTexts
pub mod Commands
pub mod Numerals
pub mod Writing
pub mod Saying
pub mod Words
