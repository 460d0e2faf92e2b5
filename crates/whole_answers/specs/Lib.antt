pub mod FromSource
pub mod Answering
pub mod Stopping
pub mod Judging
