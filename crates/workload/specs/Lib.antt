pub mod Generated
pub mod Judged
