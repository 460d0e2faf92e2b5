pub mod ToldSoFar
pub mod GotLemmas
pub mod RunLaw
pub mod StayLaw
mod LowLaw
mod BelongLemmas
pub mod ReaderLemmas
mod AnsweringLemmas
mod HeldFacts
mod StepFacts
mod InputLemmas
pub mod FrameLaw
pub mod HeldLaw
mod WindowLaw
mod WindowPlaces
mod UntilLaw
mod SinceLaw
mod SettledLaw
pub mod WorkLemmas
mod SaidLemmas
mod OneVerdictMore
mod SweepLemmas
mod JoinLemmas
mod NegationLemmas
mod LooksLaw
mod UntilTurns
mod UntilPasses
mod UntilCounts
mod UntilGoes
pub mod FrontsLaw
mod SinceTurns
mod SinceEnds
mod SinceCounts
mod SinceReads
mod NetworkExamples
pub mod RisingLaw
pub mod EmittedLaw
pub mod MeetingLaw
pub mod EdgeLaw
pub mod Stretches
pub mod StretchLaw
mod StillLaw
pub mod ReadersLaw
mod KnowingOn
pub mod RowsLaw
mod PlacesOn
pub mod StandingLaw
mod AlikeLemmas
mod TellingLemmas
mod ReadLemmas
mod DueLemmas
mod WorkedLemmas
mod WindowedLemmas
mod SweptLemmas
mod UntilWorked
mod SinceWorked
mod BodyLemmas
mod AbleLemmas
mod IdleLemmas
mod DroppedLemmas
mod ReleasedLemmas
mod SteppedLemmas
mod AdvanceLemmas
mod KindLemmas
