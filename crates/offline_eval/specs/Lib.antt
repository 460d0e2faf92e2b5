pub mod Forms
pub mod Inputs
pub mod Making
pub mod Evaluation
pub mod Places
pub mod Keeping
pub mod PlainAtoms
