pub mod Streams
pub mod Cases
pub mod CaseReader
pub mod Kept
pub mod Wides
pub mod Following
