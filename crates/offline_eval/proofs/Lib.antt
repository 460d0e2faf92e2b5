pub mod Forms
pub mod Along
pub mod Causes
pub mod Sound
pub mod Pointwise
pub mod Steady
pub mod NodeLemmas
pub mod Places
pub mod NextNode
pub mod Never
pub mod ToldHaveValues
pub mod WindowLemmas
pub mod OneWindow
pub mod UntilLemmas
mod ChildrenKept
pub mod PlainAtoms
pub mod SignalsAndChains
pub mod PlainChains
