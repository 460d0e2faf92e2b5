pub mod Nets
pub mod Atoms
pub mod Steps
pub mod Stretches
