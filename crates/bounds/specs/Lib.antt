pub mod Turns
pub mod Steady
pub mod Held
pub mod Rests
pub mod Books
pub mod Parts
