pub mod EarlyLines
pub mod Deciding
