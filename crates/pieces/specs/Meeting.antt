-- A window on its way over a chain of which it has met the pieces up to a place: what it stands for, and what comes next.
use Rattle.std.specs.Prelude.{◌≡◌, ◌⊎◌, ◌^◌, List, ◌∷◌, None}
use Rattle.rational.specs.Rational.{IsWithin, add, whole}
use Rattle.rational.specs.Time.{Rational, ◌≤ʳ◌, ◌<ʳ◌}
use Rattle.rational.specs.Extended.{Affine, Extended, value_at}
use Rattle.rational.specs.InPlay.{IsBreakpoint, IsConstant}
use Rattle.rational.specs.Places.{Place, Upto, Before, AtMost}
use Rattle.frac128.specs.Value.{value}
use Rattle.frac128.specs.Cuts.{place}
use Rattle.frac128.specs.declared.frac.Frac.{Frac}
use Rattle.value_laws.specs.Members.{ShapeOf}
use Rattle.courses.specs.Courses.{IsValueFault}
use Rattle.pl_signal.specs.declared.faults.WidePair.{WidePair}
use Rattle.pl_signal.specs.declared.faults.OpFault.TheVariants as F
use Rattle.pieces.specs.declared.piece.Piece.{Piece}
use Rattle.pieces.specs.declared.reach.Reach.{Reach}
use Rattle.pieces.specs.declared.reach.Way.{Way}
use Rattle.pieces.specs.declared.sliding.Sliding.{Sliding}
use Rattle.pieces.specs.declared.steps.Step.{Step}
use Rattle.pieces.specs.declared.window.Window.{Window}
use Rattle.pl_signal.specs.declared.joining.Side.{Side}
use Rattle.pieces.specs.Best.{IsNoWorse}
use Rattle.pieces.specs.Chains.{Chain, IsWorth, end, stop}
use Rattle.pieces.specs.Over.{HasBreaks, Plays}
use Rattle.pieces.specs.Causes.{IsHeldAt}
use Rattle.pieces.specs.Steps.{FallOff, step_end}
use Rattle.pieces.specs.Windows.{CanSlide, HasEntered, IsBestEnd, IsLeft, IsNonEmpty, IsPieceFrom, Keeps, Stands, high_place}

-- a window has told no more, or no further than to where its high end comes to the place
abbrev pub HasToldTo : {P : Type 0} → Way → Place → Sliding P → Sliding P → Type 0
HasToldTo way met old new = (stop new.out ≡ stop old.out)
    ⊎ ((t : Rational) → Upto (stop new.out) t → ¬ Before met (high_place way.over.high way.over.high_in t))

-- the first of the steps has one shape, and goes on past the place, where it is no worse than the function at the window's high end
pub record IsUnder {P : Type 0} (shape : ShapeOf P) (side : Side) (over : Reach) (steps : List (Step P)) (f : Affine) (next : Place) : Type 0 where
  pub first : Step P
  pub rest : List (Step P)
  pub are : steps ≡ first ∷ rest
  pub alone : first.other ≡ None
  pub later : Before next (step_end first)
  pub above : IsNoWorse side (value_at (shape.function first.shape) next.at) (value_at f (add next.at (whole over.high)))

module _ {P : Type 0} (shape : ShapeOf P) (chain : Chain P) where
  -- between two times each constant with the value is in play, and held at a breakpoint up to the time `last`
  abbrev pub HeldBetween : Reach → Rational → Rational → Rational → Extended → Type 0
  HeldBetween over a b last v = (tau : Rational) (line : Affine) → a <ʳ tau → tau <ʳ b → IsConstant line v → IsHeldAt shape chain over last tau line

  module _ (way : Way) where
    -- the chain goes on to where the window's way ends, or to a time at which the window reaches past the place
    abbrev pub Reaches : Place → Type 0
    Reaches c = AtMost (place way.to) (stop chain) ⊎ (c.at <ʳ add (stop chain).at (whole way.over.high))

    -- a time of the domain that is later than its begin, at which the window reaches past the time c; or the end of its way
    abbrev pub IsBelow : Rational → Rational → Type 0
    IsBelow limit c = (limit ≤ʳ (stop chain).at)
        × (((place way.to).at ≤ʳ limit) ⊎ ((chain.from.at <ʳ limit) × (c <ʳ add limit (whole way.over.high))))

    -- the chain goes on to where the window's way ends, or to such a time
    abbrev pub GoesPast : Place → Type 0
    GoesPast c = AtMost (place way.to) (stop chain)
        ⊎ ((chain.from.at <ʳ (stop chain).at) × (c.at <ʳ add (stop chain).at (whole way.over.high)))

    -- a value was refused that is held at a breakpoint up to the time `last`, and would count from a to b
    pub record IsHeldFault (last : Rational) (pair : WidePair P) : Type 0 where
      pub part : P
      pub time : Frac
      pub a : Rational
      pub b : Rational
      pub begins : chain.from.at ≤ʳ a
      pub order : a <ʳ b
      pub early : (a ≤ʳ chain.from.at) ⊎ (add a (whole way.over.high) ≤ʳ last)
      pub upto : b ≤ʳ (place way.to).at
      pub seen : (tau : Rational) → a <ʳ tau → tau <ʳ b → add tau (whole way.over.low) ≤ʳ last
      pub is : IsValueFault shape part time (F.Wide pair)
      pub plays : HeldBetween way.over a b last (value_at (shape.function part) (value time))

    -- a window on a way to where the chain ends, or further, may begin at the place, where the chain does
    pub record CanBegin (from : Place) : Type 0 where
      pub can : CanSlide shape chain way.over
      pub begins : from ≡ chain.from
      pub to : AtMost (stop chain) (place way.to)
      pub within : IsWithin (2 ^ 34) (place way.to).at
      pub ahead : GoesPast from

    -- the piece of the chain that begins at the place, past which the chain goes
    pub record IsNext (from : Place) (p : Piece P) : Type 0 where
      pub piece : IsPieceFrom shape chain from p
      pub breaks : HasBreaks shape chain from p
      pub ahead : GoesPast (end p)

    -- it has met the pieces of the chain up to the place
    pub record HasMet (met : Place) (s : Sliding P) : Type 0 where
      pub can : CanSlide shape chain way.over
      pub to : AtMost (stop chain) (place way.to)
      pub within : IsWithin (2 ^ 34) (place way.to).at
      pub begins : AtMost chain.from met
      pub ends : AtMost met (stop chain)
      pub stands : Stands shape chain way met met s
      pub plays : Plays shape chain way.over (place way.to) s

    -- and from where it has told on it reaches past that place, where the next piece begins
    pub record Meets (from : Place) (p : Piece P) (s : Sliding P) : Type 0 where
      pub can : CanSlide shape chain way.over
      pub to : AtMost (stop chain) (place way.to)
      pub within : IsWithin (2 ^ 34) (place way.to).at
      pub some : IsNonEmpty way.over
      pub piece : IsPieceFrom shape chain from p
      pub breaks : IsBreakpoint (IsWorth shape chain) chain.from.at (stop chain).at from.at
      pub stands : Stands shape chain way from from s
      pub entered : HasEntered shape chain way from s
      pub plays : Plays shape chain way.over (place way.to) s

    -- it climbs the piece from that place, and the chain goes past its end
    pub record Rises (from : Place) (p : Piece P) (s : Sliding P) : Type 0 where
      pub can : CanSlide shape chain way.over
      pub to : AtMost (stop chain) (place way.to)
      pub within : IsWithin (2 ^ 34) (place way.to).at
      pub some : IsNonEmpty way.over
      pub piece : IsPieceFrom shape chain from p
      pub breaks : IsBreakpoint (IsWorth shape chain) chain.from.at (stop chain).at (end p).at
      pub ahead : Reaches (end p)
      pub keeps : Keeps shape chain way from (end p) from s
      pub entered : HasEntered shape chain way from s
      pub plays : Plays shape chain way.over (place way.to) s

    -- or it reaches past that end of the piece at which this has its best value
    pub record Holds (from : Place) (p : Piece P) (best : Place) (s : Sliding P) : Type 0 where
      pub can : CanSlide shape chain way.over
      pub to : AtMost (stop chain) (place way.to)
      pub within : IsWithin (2 ^ 34) (place way.to).at
      pub some : IsNonEmpty way.over
      pub piece : IsPieceFrom shape chain from p
      pub breaks : IsBreakpoint (IsWorth shape chain) chain.from.at (stop chain).at best.at
      pub is_best : IsBestEnd shape way.side from p best
      pub keeps : Keeps shape chain way from best from s
      pub entered : HasEntered shape chain way best s
      pub plays : Plays shape chain way.over (place way.to) s

    -- the piece comes next where the pieces up to there were met, and the chain goes past it; the steps that the window has still to tell fall off
    pub record Passes (from : Place) (p : Piece P) (s : Sliding P) : Type 0 where
      pub met : HasMet from s
      pub some : IsNonEmpty way.over
      pub piece : IsPieceFrom shape chain from p
      pub breaks : HasBreaks shape chain from p
      pub falls : FallOff shape way.side (stop s.out) s.steps.items
      pub ahead : GoesPast (end p)

    -- where some time may lie in the window, it knows where it has left the place, and its steps fall off
    pub record IsReady (met gone : Place) (s : Sliding P) : Type 0 where
      pub left : IsLeft way met gone
      pub falls : FallOff shape way.side (stop s.out) s.steps.items

  -- the window stands for the chain: it has met the pieces up to the place, and may meet the next one
  pub record StandsFor (at : Place) (w : Window P) : Type 0 where
    pub from : w.sliding.out.from ≡ chain.from
    pub met : HasMet w.way at w.sliding
    pub ready : IsNonEmpty w.way.over → IsReady w.way at (place w.gone) w.sliding
