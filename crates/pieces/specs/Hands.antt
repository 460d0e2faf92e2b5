-- The piece at hand of a window over a function that comes piece by piece: whether it goes on, how it ends, and what is told under it.
use Rattle.std.specs.Prelude.{◌≡◌, ◌⊎◌, ◌^◌, true, [], List, Option}
use Rattle.std.specs.declared.cmp.Ordering.{Ordering}
use Rattle.rational.specs.Rational.{IsWithin, add, whole}
use Rattle.rational.specs.Time.{Rational, ◌≈◌, ◌≤ʳ◌}
use Rattle.rational.specs.Extended.{Extended, value_at, ◌≈ᵉ◌}
use Rattle.rational.specs.Affine.{AreSame}
use Rattle.rational.specs.InPlay.{IsBreakpoint}
use Rattle.rational.specs.Places.{Place, After, Upto, Before, AtMost}
use Rattle.frac128.specs.Cuts.{place}
use Rattle.frac128.specs.declared.cut.Cut.{Cut}
use Rattle.value_laws.specs.Members.{ShapeOf}
use Rattle.pieces.specs.declared.piece.Piece.{Piece}
use Rattle.pieces.specs.declared.reach.Way.{Way}
use Rattle.pl_signal.specs.declared.joining.Side.{Side}
use Rattle.pieces.specs.declared.sliding.Sliding.{Sliding}
use Rattle.pieces.specs.declared.steps.Step.{Step}
use Rattle.pieces.specs.declared.stream.Stream.{Stream}
use Rattle.pieces.specs.Best.{none_of}
use Rattle.pieces.specs.Chains.{Chain, IsWorth, end, stop}
use Rattle.pieces.specs.Meeting.{Reaches}
use Rattle.pieces.specs.Over.{Plays}
use Rattle.pieces.specs.Sliding.{last_end}
use Rattle.pieces.specs.Steps.{StepsGive}
use Rattle.pieces.specs.Streaming.{Climbs, ComesNext, CountsSoFar, FollowsSteps, StandsBy}
use Rattle.pieces.specs.Windows.{CanSlide, IsNonEmpty, IsPieceFrom, Keeps, MayClimb, Stands, high_place}

-- at the place the shape goes on as the piece: with its one value, or its function
abbrev pub GoesOnAs : {P : Type 0} → ShapeOf P → P → Place → Piece P → Type 0
GoesOnAs shape p met piece = ((met.at ≈ (end piece).at) × (value_at (shape.function p) met.at ≈ᵉ value_at (shape.function piece.shape) met.at))
    ⊎ AreSame (shape.function p) (shape.function piece.shape)

-- the steps that are left end no earlier
abbrev pub HasLeft : {P : Type 0} → Sliding P → Sliding P → Type 0
HasLeft old new = (t : Rational) → After (last_end new) t → After (last_end old) t

-- a place behind which the window's high end does not come before another
abbrev pub far_place : Way → Place → Place
far_place way c = record { at = add c.at (whole way.over.high); after = true }

-- the value is what the steps give, or that of no times where there are none
abbrev pub FirstGives : {P : Type 0} → ShapeOf P → Side → Place → List (Step P) → Rational → Extended → Type 0
FirstGives shape side from steps t v = ((steps ≡ []) × (v ≈ᵉ none_of side shape.lowest shape.highest)) ⊎ StepsGive shape side from steps t v

module _ {P : Type 0} (shape : ShapeOf P) (chain : Chain P) (way : Way) where
  -- the window is on its way over the chain, and sees something
  pub record IsOnWay (s : Sliding P) : Type 0 where
    pub can : CanSlide shape chain way.over
    pub to : AtMost (stop chain) (place way.to)
    pub within : IsWithin (2 ^ 34) (place way.to).at
    pub plays : Plays shape chain way.over (place way.to) s

  -- the piece at hand ends, and the chain goes past it
  pub record EndsHand (piece : Piece P) (trend : Ordering) (s : Sliding P) : Type 0 where
    pub on : IsOnWay s
    pub some : IsNonEmpty way.over
    pub hand : StandsBy shape chain way piece trend s
    pub last : IsBreakpoint (IsWorth shape chain) chain.from.at (stop chain).at (end piece).at
    pub ahead : Reaches shape chain way (end piece)

  -- the piece at hand, met up to the place, goes on to where the piece ends
  pub record GoesFurther (met : Cut) (piece : Piece P) (trend : Ordering) (s : Sliding P) : Type 0 where
    pub on : IsOnWay s
    pub some : IsNonEmpty way.over
    pub hand : StandsBy shape chain way (record { until = met; shape = piece.shape }) trend s
    pub more : IsPieceFrom shape chain (place met) piece

  -- it counts
  pub record IsTaken (piece : Piece P) (trend : Ordering) (s : Sliding P) : Type 0 where
    pub hand : StandsBy shape chain way piece trend s
    pub plays : Plays shape chain way.over (place way.to) s

  -- the window may tell up to the place: from no time before it a place behind what was met is seen, or the chain ends there
  pub record TellsRest (met reach upto : Place) (s : Sliding P) : Type 0 where
    pub on : IsOnWay s
    pub keeps : Keeps shape chain way met reach met s
    pub order : AtMost (stop s.out) upto
    pub inside : AtMost upto (stop chain)
    pub all : ((t : Rational) → Upto upto t → ¬ Before met (high_place way.over.high way.over.high_in t)) ⊎ (met ≡ stop chain)

  -- also under the piece that it climbs
  pub record TellsClimb (piece : Piece P) (upto : Place) (s : Sliding P) : Type 0 where
    pub on : IsOnWay s
    pub some : IsNonEmpty way.over
    pub hand : Climbs shape chain way piece s
    pub order : AtMost (stop s.out) upto
    pub inside : AtMost upto (stop chain)
    pub all : (t : Rational) → Upto upto t → ¬ Before (end piece) (high_place way.over.high way.over.high_in t)

  -- it has told up to there
  pub record HasRested (met upto : Place) (s : Sliding P) : Type 0 where
    pub keeps : Keeps shape chain way met (far_place way upto) met s
    pub near : ((t : Rational) → Upto upto t → ¬ Before met (high_place way.over.high way.over.high_in t)) → Stands shape chain way met met s
    pub plays : Plays shape chain way.over (place way.to) s

  pub record HasClimbed (piece : Piece P) (s : Sliding P) : Type 0 where
    pub hand : Climbs shape chain way piece s
    pub plays : Plays shape chain way.over (place way.to) s

  -- at the time the window's high end lies on the piece that it climbs, or at its end
  pub record ClimbsAt (piece : Piece P) (begin : Place) (t : Rational) : Type 0 where
    pub can : CanSlide shape chain way.over
    pub within : IsWithin (2 ^ 34) (place way.to).at
    pub some : IsNonEmpty way.over
    pub is : IsPieceFrom shape chain begin piece
    pub rises : MayClimb way.over way.side (shape.function piece.shape)
    pub entered : Before begin (high_place way.over.high way.over.high_in t)
    pub near : add t (whole way.over.high) ≤ʳ (end piece).at
    pub inside : Upto (place way.to) t
    pub time : IsWithin (2 ^ 34) t

  -- a window leaves the place up to which it was met, since another piece comes
  pub record Leaves (hand : Option P) (trend : Ordering) (met : Cut) (s : Sliding P) : Type 0 where
    pub on : IsOnWay s
    pub some : IsNonEmpty way.over
    pub counts : CountsSoFar shape chain way met s hand trend
    pub last : IsBreakpoint (IsWorth shape chain) chain.from.at (stop chain).at (place met).at
    pub ahead : Reaches shape chain way (place met)
    pub begins : AtMost chain.from (place met)
    pub ends : AtMost (place met) (stop chain)
    pub goes : Before (place met) (stop chain)

-- another piece comes, and the window sees something
pub record TurnsTo {P : Type 0} (shape : ShapeOf P) (chain : Chain P) (w : Stream P) (piece : Piece P) : Type 0 where
  pub follows : FollowsSteps shape chain w
  pub next : ComesNext shape chain w piece
  pub some : IsNonEmpty w.way.over
  pub last : IsBreakpoint (IsWorth shape chain) chain.from.at (stop chain).at (place w.met).at
