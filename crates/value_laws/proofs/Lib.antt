pub mod ValueLemmas
pub mod MarginLemmas
pub mod LawProofs
