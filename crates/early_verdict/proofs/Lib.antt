pub mod SetsTell
pub mod UntilSets
pub mod SinceSets
pub mod DecisiveSets
pub mod SettledBySets
pub mod NeverBoth
pub mod NodeReads
pub mod SettledSets
pub mod EndedSets
pub mod AllSets
pub mod AtomSets
mod TurningLemmas
mod BlockLemmas
mod RowAnswers
pub mod LookLemmas
pub mod FitLemmas
pub mod Places
pub mod EntryByNodes
pub mod RowLemmas
pub mod RunSets
pub mod ChildLists
pub mod MovedBack
pub mod LooksStay
pub mod DecideLemmas
pub mod EntryLemmas
pub mod GoingOn
pub mod StandingOn
pub mod PartSets
pub mod TopsLemmas
pub mod SplitLists
pub mod MadeLemmas
pub mod Undecided
pub mod NextRow
mod LivingLemmas
mod EmptySets
mod Childhood
mod LettingLemmas
mod FewerTimes
mod UntilCuts
mod UntilStands
mod CarriedRuns
mod SinceCuts
mod SinceStands
mod SinceLooks
mod AnewLemmas
mod NodeSets
mod KnownNode
mod FirstSets
