mod RefusalsBeside
mod GivenOut
mod GivenOutGrows
mod LinesLeft
mod SignalLines
mod Readers
mod NodesGoOn
mod NetworkMoved
mod RowFacts
mod OperatorGoesOn
mod NothingNew
pub mod Leaves
mod LeafMoved
mod Loops
mod MovedTimes
mod BestWindows
mod OperatorBodies
mod NodesAtStart
mod Standings
mod RootTaken
mod StationCalls
mod EdgeTouches
mod LinesPut
pub mod StreamTexts
pub mod JoinedLemmas
pub mod LinesGone
pub mod Robustly
pub mod Builts
pub mod ChosenMargins
pub mod PointwiseLemmas
pub mod NotLemmas
pub mod TwoLemmas
mod WindowNodes
mod FirstOperators
pub mod BestPasts
pub mod PastNodes
pub mod SlideChains
pub mod SlideParts
pub mod SlidePlays
mod SlideNodes
mod SlideCauses
mod SlideSignal
mod SlideTold
mod SlideAgain
mod SlideInput
pub mod SlideWhole
mod NodeLooks
mod SlideCuts
mod SlideBodies
mod SlideReady
mod SlideTurns
mod SlideAll
mod SlideOn
mod SlideLeft
mod SlideFirst
mod SlideRefused
mod SlideMeets
mod SlideGone
mod SlideBest
mod SlideStretch
mod SlideSweeps
mod TailLemmas
mod EdgesChanged
