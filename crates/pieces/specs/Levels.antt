-- A window over a chain of constants: which of them it sees, and the best of these.
use Rattle.std.specs.Prelude.{◌≡◌, ◌⊎◌, ◌↔◌, ◌<◌, ◌≤◌, ◌+◌, ◌-◌, ℕ, List, length, slice_get, Option, None, Some, IsTrue}
use Rattle.rational.specs.Time.{Rational, add, whole}
use Rattle.rational.specs.Extended.{◌≈ᵉ◌, opposite, value_at}
use Rattle.rational.specs.Affine.{IsSteady}
use Rattle.rational.specs.Places.{Place, After, AtMost, Before, Same, Upto}
use Rattle.frac128.specs.Cuts.{place}
use Rattle.frac128.specs.declared.cut.Cut.{Cut}
use Rattle.value_laws.specs.Members.{ShapeOf}
use Rattle.pl_signal.specs.declared.joining.Side.{Side}
use Rattle.pl_signal.specs.declared.joining.Side.TheVariants.{Least, Greatest}
use Rattle.pieces.specs.declared.levels.Seen.{Seen}
use Rattle.pieces.specs.declared.next.Next.{Next}
use Rattle.pieces.specs.declared.piece.Piece.{Piece}
use Rattle.pieces.specs.declared.reach.Way.{Way}
use Rattle.pieces.specs.Best.{none_of}
use Rattle.pieces.specs.Building.{GoesOn}
use Rattle.pieces.specs.Chains.{Chain, HasShape, begin_at, end, stop}
use Rattle.pieces.specs.Over.{IsMovedOver}
use Rattle.pieces.specs.Windows.{BestOver, IsLeft, IsReached, high_place, low_place}

-- the earlier of the places at which a piece comes and one goes, and which of the two it is
pub record IsNextOf (c : Seen) (next : Next) : Type 0 where
  pub left : IsTrue next.left ↔ Same (place c.comes) (place next.until)
  pub right : IsTrue next.right ↔ Same (place c.goes) (place next.until)
  pub before_left : AtMost (place next.until) (place c.comes)
  pub before_right : AtMost (place next.until) (place c.goes)
  pub one : (next.until ≡ c.comes) ⊎ (next.until ≡ c.goes)

-- neither place falls, and one of them rises
pub record MovesOn (count : ℕ) (old new : Seen) : Type 0 where
  pub low : old.low ≤ new.low
  pub high : old.high ≤ new.high
  pub nearer : (count - new.high) + (count - new.low) < (count - old.high) + (count - old.low)

module _ {P : Type 0} (shape : ShapeOf P) where
  -- each piece is constant
  abbrev pub AreLevels : Chain P → Type 0
  AreLevels chain = (p : P) → HasShape chain p → IsSteady (shape.function p)

  -- the constant itself, or one of the opposite value where the least is wanted
  abbrev pub IsTurned : Side → P → P → Type 0
  IsTurned Greatest p q = q ≡ p
  IsTurned Least p q = (t : Rational) → value_at (shape.function q) t ≈ᵉ opposite (value_at (shape.function p) t)

  -- so each of them, in their order
  pub record AreTurned (side : Side) (ps : List (Piece P)) (qs : List P) : Type 0 where
    pub count : length qs ≡ length ps
    pub each : (i : ℕ) (p : Piece P) (q : P) → slice_get ps i ≡ Some p → slice_get qs i ≡ Some q → IsTurned side p.shape q

  module _ (chain : Chain P) (way : Way) where
    -- behind the place x, on its way, the window begins behind the pieces before `low`, and ends behind where those before `high` begin;
    -- up to `comes` it ends before where that at `high` begins, and up to `goes` it begins before the end of that at `low`
    pub record Counts (x : Place) (c : Seen) : Type 0 where
      pub order : c.low ≤ c.high
      pub within : c.high ≤ length chain.pieces
      pub gone : (j : ℕ) (p : Piece P) (t : Rational) → j < c.low → slice_get chain.pieces j ≡ Some p → After x t → Upto (place way.to) t
          → ¬ Before (low_place way.over.low way.over.low_in t) (end p)
      pub came : (j : ℕ) (t : Rational) → j < c.high → After x t → Upto (place way.to) t
          → Before (begin_at chain.from chain.pieces j) (high_place way.over.high way.over.high_in t)
      pub comes : (p : Piece P) → slice_get chain.pieces c.high ≡ Some p → IsReached way (begin_at chain.from chain.pieces c.high) (place c.comes)
      pub no_more : length chain.pieces ≤ c.high → c.comes ≡ way.to
      pub goes : (p : Piece P) → slice_get chain.pieces c.low ≡ Some p → IsLeft way (end p) (place c.goes)
      pub all_gone : length chain.pieces ≤ c.low → c.goes ≡ way.to
      pub comes_upto : AtMost (place c.comes) (place way.to)
      pub goes_upto : AtMost (place c.goes) (place way.to)

    -- the shape has the value of that piece where the window's high end sees it, or that of no values
    abbrev pub IsBestOf : Option ℕ → P → Type 0
    IsBestOf None r = ((t : Rational) → value_at (shape.function r) t ≈ᵉ none_of way.side shape.lowest shape.highest)
        × IsMovedOver shape chain way.over r
    IsBestOf (Some i) r = ((p : Piece P) (t : Rational) → slice_get chain.pieces i ≡ Some p
        → value_at (shape.function r) t ≈ᵉ value_at (shape.function p.shape) (add t (whole way.over.high))) × IsMovedOver shape chain way.over r

    -- from where the old chain ends the new one goes on up to the place with the best of what the window sees
    pub record GoesOnBest (old : Chain P) (until : Cut) (new : Chain P) : Type 0 where
      pub best : P
      pub goes : GoesOn shape old until best new
      pub moved : IsMovedOver shape chain way.over best
      pub is : (t : Rational) → After (stop old) t → Upto (place until) t
          → BestOver shape chain way.over way.side t (value_at (shape.function best) t)

    -- so it does, or the old chain was told up to there
    abbrev pub TellsOn : Chain P → Cut → Chain P → Type 0
    TellsOn old until new = (AtMost (place until) (stop old) × (new ≡ old)) ⊎ (Before (stop old) (place until) × GoesOnBest old until new)
