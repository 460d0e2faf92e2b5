pub mod Courses
pub mod Pairs
