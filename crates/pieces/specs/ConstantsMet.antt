-- A window that has met constants alone goes on: it tells the best of those that count, takes the next one up, or counts the one at hand further.
use Rattle.std.specs.Prelude.{◌≡◌, ◌⊎◌, ◌^◌, ℕ, [], drop}
use Rattle.rational.specs.Rational.{IsWithin}
use Rattle.rational.specs.Time.{Rational}
use Rattle.rational.specs.Extended.{Extended}
use Rattle.rational.specs.Affine.{IsSteady}
use Rattle.rational.specs.InPlay.{IsBreakpoint}
use Rattle.rational.specs.Places.{Place, AtMost, Before, Upto}
use Rattle.frac128.specs.Cuts.{place}
use Rattle.frac128.specs.declared.cut.Cut.{Cut}
use Rattle.value_laws.specs.Members.{ShapeOf}
use Rattle.pieces.specs.declared.piece.Piece.{Piece}
use Rattle.pieces.specs.declared.reach.Way.{Way}
use Rattle.pieces.specs.declared.sliding.Sliding.{Sliding}
use Rattle.pieces.specs.Chains.{Chain, IsWorth, end, stop}
use Rattle.pieces.specs.Constants.{CountsAll, HasReached, IsFirstBest}
use Rattle.pieces.specs.Hands.{HasLeft}
use Rattle.pieces.specs.Meeting.{Reaches}
use Rattle.pieces.specs.Sliding.{last_end}
use Rattle.pieces.specs.Streaming.{CountsConstant}
use Rattle.pieces.specs.Windows.{Best, BestTo, CanSlide, HasEntered, IsLeft, IsNonEmpty, IsPieceFrom}

-- the last of the constants are left, and end no earlier
pub record IsLeftOver {P : Type 0} (old new : Sliding P) : Type 0 where
  pub n : ℕ
  pub is : new.steps.items ≡ drop n old.steps.items
  pub left : HasLeft old new

module _ {P : Type 0} (shape : ShapeOf P) (chain : Chain P) (way : Way) where
  -- the window is on its way over the chain, and has met the constants up to the place
  pub record HasConstants (met : Place) (s : Sliding P) : Type 0 where
    pub can : CanSlide shape chain way.over
    pub to : AtMost (stop chain) (place way.to)
    pub within : IsWithin (2 ^ 34) (place way.to).at
    pub all : CountsAll shape chain way met s
    pub first : IsFirstBest shape way.side s.steps.items

  -- it may tell up to the other place: the best of what was met is there the best of what is seen
  pub record TellsBest (met until : Place) (s : Sliding P) : Type 0 where
    pub has : HasConstants met s
    pub order : AtMost (stop s.out) until
    pub inside : AtMost until (stop chain)
    pub best : (t : Rational) (v : Extended) → Upto until t → BestTo shape chain way met t v → Best shape chain way t v

  -- the chain goes on to a time at which it reaches past the place
  pub record ReachesPast (met : Place) (s : Sliding P) : Type 0 where
    pub has : HasConstants met s
    pub begins : AtMost chain.from met
    pub ends : AtMost met (stop chain)
    pub reached : HasReached shape chain way met s
    pub ahead : Reaches shape chain way met

  -- so it does from where it has told on
  pub record HasReachedPast (met : Place) (s : Sliding P) : Type 0 where
    pub has : HasConstants met s
    pub reached : HasReached shape chain way met s
    pub entered : HasEntered shape chain way met s

  -- the piece comes next, a constant that counts longer than all before it
  pub record TakesUp (met : Place) (p : Piece P) (until : Place) (s : Sliding P) : Type 0 where
    pub past : ReachesPast met s
    pub some : IsNonEmpty way.over
    pub piece : IsPieceFrom shape chain met p
    pub breaks : IsBreakpoint (IsWorth shape chain) chain.from.at (stop chain).at met.at
    pub steady : IsSteady (shape.function p.shape)
    pub left : IsLeft way (end p) until
    pub longer : (s.steps.items ≡ []) ⊎ Before (last_end s) until

  -- the constant at hand, met up to the place, goes on to where the piece ends
  pub record GoesOnConstant (met : Cut) (p : Piece P) (s : Sliding P) : Type 0 where
    pub can : CanSlide shape chain way.over
    pub within : IsWithin (2 ^ 34) (place way.to).at
    pub some : IsNonEmpty way.over
    pub hand : CountsConstant shape chain way (record { until = met; shape = p.shape }) s
    pub more : IsPieceFrom shape chain (place met) p
