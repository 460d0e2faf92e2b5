pub mod Pendings
pub mod Quieting
pub mod Watching
