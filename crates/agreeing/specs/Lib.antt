pub mod Contents
pub mod Signs
pub mod Starts
pub mod Joined
pub mod Wides
