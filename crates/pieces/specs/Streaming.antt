-- A window on its way over a function of time that comes piece by piece, of which nothing is known past what was met: what it stands for,
-- and what comes next.
use Rattle.std.specs.Prelude.{◌≡◌, ◌⊎◌, ◌^◌, ◌<ℤ◌, ℕ, suc, length, slice_get, Option, Some, None, IsTrue, false}
use Rattle.std.specs.declared.cmp.Ordering.{Ordering}
use Rattle.std.specs.declared.cmp.Ordering.TheVariants.{Equal, Greater}
use Rattle.std.specs.Ordering.{MatchOrdering}
use Rattle.rational.specs.Rational.{IsWithin, add, whole}
use Rattle.rational.specs.Time.{Rational, ◌≤ʳ◌, ◌<ʳ◌}
use Rattle.rational.specs.Extended.{value_at, ◌≈ᵉ◌}
use Rattle.rational.specs.Affine.{IsSteady}
use Rattle.rational.specs.InPlay.{IsBreakpoint}
use Rattle.rational.specs.Places.{Place, Before, AtMost, Same}
use Rattle.frac128.specs.Cuts.{place}
use Rattle.frac128.specs.declared.cut.Cut.{Cut}
use Rattle.value_laws.specs.Members.{ShapeOf}
use Rattle.window_extrema.specs.Range.{Range}
use Rattle.pieces.specs.declared.piece.Piece.{Piece}
use Rattle.pieces.specs.declared.reach.Way.{Way}
use Rattle.pieces.specs.declared.sliding.Sliding.{Sliding}
use Rattle.pieces.specs.declared.steps.Step.{Step}
use Rattle.pieces.specs.declared.stream.Stream.{Stream}
use Rattle.pieces.specs.Best.{GetsNoBetter}
use Rattle.pieces.specs.Chains.{Chain, HasShape, IsWorth, end, stop}
use Rattle.pieces.specs.Constants.{AreAsked, CountsAll, HasReached, IsFirstBest}
use Rattle.pieces.specs.Over.{Plays}
pub use Rattle.pieces.specs.Causes.{HasPassed, InPlayBelow, IsCauseBelow, IsHeldAt, IsHeldCause, IsHeldWithin}
use Rattle.pieces.specs.Windows.{CanSlide, HasEntered, IsNonEmpty, IsPieceFrom, Keeps, MayClimb, Stands, high_place}

-- just before a time
abbrev pub before_time : Rational → Place
before_time t = record { at = t; after = false }

module _ {P : Type 0} (shape : ShapeOf P) (chain : Chain P) where
  -- a window on a way to where the chain ends, or further, may begin at the place, where the chain does
  pub record CanFollow (way : Way) (from : Place) : Type 0 where
    pub can : CanSlide shape chain way.over
    pub begins : from ≡ chain.from
    pub to : AtMost (stop chain) (place way.to)
    pub within : IsWithin (2 ^ 34) (place way.to).at

  module _ (way : Way) where
    -- what the window has told is the best, and its steps give the best of what was met; its high end has come no further than that, as
    -- long as the chain goes on there
    pub record Rests (met : Place) (s : Sliding P) : Type 0 where
      pub reach : Place
      pub keeps : Keeps shape chain way met reach met s
      pub early : Before met (stop chain) → AtMost reach met

    -- the piece at hand begins there
    pub record IsAtHand (piece : Piece P) (begin : Place) : Type 0 where
      pub is : IsPieceFrom shape chain begin piece
      pub breaks : IsBreakpoint (IsWorth shape chain) chain.from.at (stop chain).at begin.at

    -- it gets no better, and counts as far as it was met
    pub record Counts (piece : Piece P) (s : Sliding P) : Type 0 where
      pub begin : Place
      pub hand : IsAtHand piece begin
      pub falls : GetsNoBetter way.side (shape.function piece.shape)
      pub stands : Stands shape chain way (end piece) (end piece) s
      pub past : HasPassed way (end piece) s

    -- the window climbs it: its steps give the best of what lies before it
    pub record Climbs (piece : Piece P) (s : Sliding P) : Type 0 where
      pub begin : Place
      pub hand : IsAtHand piece begin
      pub rises : MayClimb way.over way.side (shape.function piece.shape)
      pub keeps : Keeps shape chain way begin (end piece) begin s
      pub entered : HasEntered shape chain way begin s

    -- the window has met constants alone: the piece at hand is one, and what counts last has its value
    pub record CountsConstant (piece : Piece P) (s : Sliding P) : Type 0 where
      pub begin : Place
      pub hand : IsAtHand piece begin
      pub steady : IsSteady (shape.function piece.shape)
      pub all : CountsAll shape chain way (end piece) s
      pub first : IsFirstBest shape way.side s.steps.items
      pub entered : HasEntered shape chain way begin s
      pub past : HasPassed way (end piece) s
      pub last : (i : ℕ) (l : Step P) → slice_get s.steps.items i ≡ Some l → suc i ≡ length s.steps.items
          → (t u : Rational) → value_at (shape.function l.shape) t ≈ᵉ value_at (shape.function piece.shape) u
      pub reached : HasReached shape chain way (end piece) s

    -- or none is at hand, where nothing was met, and where the chain ends
    pub record RestsOnConstants (met : Place) (s : Sliding P) : Type 0 where
      pub all : CountsAll shape chain way met s
      pub first : IsFirstBest shape way.side s.steps.items
      pub early : Before met (stop chain) → HasReached shape chain way met s
      pub ended : (met ≡ chain.from) ⊎ (met ≡ stop chain)

    abbrev pub CountsConstants : Cut → Sliding P → Option P → Type 0
    CountsConstants met s None = RestsOnConstants (place met) s
    CountsConstants met s (Some p) = CountsConstant (record { until = met; shape = p }) s

    -- how the piece at hand counts, by its trend towards better values
    abbrev pub StandsBy : Piece P → Ordering → Sliding P → Type 0
    StandsBy piece trend s = MatchOrdering trend (Counts piece s) (Counts piece s) (Climbs piece s)

    -- how it counts, if there is one; there is none where the window sees nothing, where nothing was met, and where the chain ends
    abbrev pub CountsSoFar : Cut → Sliding P → Option P → Ordering → Type 0
    CountsSoFar met s None trend =
        Rests (place met) s × (¬ (trend ≡ Greater)) × (IsNonEmpty way.over → (place met ≡ chain.from) ⊎ (place met ≡ stop chain))
    CountsSoFar met s (Some p) trend = IsNonEmpty way.over × StandsBy (record { until = met; shape = p }) trend s

  -- the window stands for the chain by its steps
  pub record FollowsSteps (w : Stream P) : Type 0 where
    pub can : CanSlide shape chain w.way.over
    pub to : AtMost (stop chain) (place w.way.to)
    pub within : IsWithin (2 ^ 34) (place w.way.to).at
    pub begins : AtMost chain.from (place w.met)
    pub ends : AtMost (place w.met) (stop chain)
    pub plays : Plays shape chain w.way.over (place w.way.to) w.sliding
    pub hand : CountsSoFar w.way w.met w.sliding w.piece w.trend

  -- or by constants alone, of which it asks a range
  pub record FollowsConstants (w : Stream P) (range : Range P) : Type 0 where
    pub wide : w.way.over.low <ℤ w.way.over.high
    pub still : w.trend ≡ Equal
    pub asked : AreAsked shape w.way.side w.sliding.steps.items range
    pub hand : CountsConstants w.way w.met w.sliding w.piece

  -- the window stands for the chain, of which it has met what lies before the place `met`
  pub record Follows (w : Stream P) : Type 0 where
    pub can : CanSlide shape chain w.way.over
    pub to : AtMost (stop chain) (place w.way.to)
    pub within : IsWithin (2 ^ 34) (place w.way.to).at
    pub begins : AtMost chain.from (place w.met)
    pub ends : AtMost (place w.met) (stop chain)
    pub by_steps : w.range ≡ None → FollowsSteps w
    pub by_constants : (range : Range P) → w.range ≡ Some range → FollowsConstants w range

  -- the chain goes on with the piece from what was met, and to a time at which the window reaches past that place
  pub record ComesNext (w : Stream P) (next : Piece P) : Type 0 where
    pub piece : IsPieceFrom shape chain (place w.met) next
    pub comes : (place w.met).at <ʳ add (stop chain).at (whole w.way.over.high)

  -- all that counts before the time was met, or the chain ends there; and the chain goes on to the time
  pub record HasAll (w : Stream P) (to : Rational) : Type 0 where
    pub counted : (add to (whole w.way.over.high) ≤ʳ (place w.met).at) ⊎ (place w.met ≡ stop chain)
    pub inside : AtMost (before_time to) (stop chain)

  -- by its steps it has told all before the time
  pub record IsAtSteps (w : Stream P) (to : Rational) : Type 0 where
    pub follows : FollowsSteps w
    pub at : Same (stop w.sliding.out) (before_time to)
    pub all : HasAll w to
    pub climbs : w.trend ≡ Greater → add to (whole w.way.over.high) ≤ʳ (place w.met).at

  -- it has told all before the time
  pub record IsAt (w : Stream P) (to : Rational) : Type 0 where
    pub follows : Follows w
    pub at : Same (stop w.sliding.out) (before_time to)
    pub all : HasAll w to
    pub climbs : w.trend ≡ Greater → add to (whole w.way.over.high) ≤ʳ (place w.met).at

  -- the chain has the value of the shape at the one time that is seen from `to` and was not met
  pub record IsLastSeen (w : Stream P) (to : Rational) (p : P) : Type 0 where
    pub here : Same (place w.met) (before_time (add to (whole w.way.over.high)))
    pub inside : IsTrue w.way.over.high_in
    pub worth : IsWorth shape chain (add to (whole w.way.over.high)) (value_at (shape.function p) (add to (whole w.way.over.high)))
    pub has : HasShape chain p

  -- if there is one; else all that is seen from `to` was met, or the chain ends there
  abbrev pub IsNextSeen : Stream P → Rational → Option P → Type 0
  IsNextSeen w to None = (¬ Before (place w.met) (high_place w.way.over.high w.way.over.high_in to)) ⊎ (place w.met ≡ stop chain)
  IsNextSeen w to (Some p) = IsLastSeen w to p
