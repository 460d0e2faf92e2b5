pub mod Telling
pub mod Growing
pub mod Nodes
pub mod Rows
pub mod Standing
