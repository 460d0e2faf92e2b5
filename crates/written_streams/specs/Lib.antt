pub mod MadeWritten
pub mod Watches
