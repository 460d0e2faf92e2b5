mod Grown
mod MarginChains
mod TruthChains
