pub mod AtomChains
pub mod Growing
