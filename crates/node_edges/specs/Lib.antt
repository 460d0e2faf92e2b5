pub mod Members
pub mod Verdicts
pub mod Kinds
pub mod Held
pub mod Lengthening
pub mod Queues
