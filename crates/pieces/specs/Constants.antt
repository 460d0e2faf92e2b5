-- A window over a function of time that comes piece by piece, where all pieces so far are constants: which of them count, and the best.
use Rattle.std.specs.Prelude.{◌≡◌, ◌⊎◌, ◌≤◌, ◌<◌, ℕ, suc, List, [], drop, length, slice_get, None, Some}
use Rattle.rational.specs.Time.{Rational, ◌<ʳ◌}
use Rattle.rational.specs.Extended.{Extended, value_at, ◌≈ᵉ◌}
use Rattle.rational.specs.Affine.{IsSteady}
use Rattle.rational.specs.Places.{Place, After, AtMost, Before, Same, Upto}
use Rattle.frac128.specs.Cuts.{place}
use Rattle.value_laws.specs.Members.{ShapeOf}
use Rattle.window_extrema.specs.Range.{Range}
use Rattle.pl_signal.specs.declared.joining.Side.{Side}
use Rattle.pieces.specs.declared.piece.Piece.{Piece}
use Rattle.pieces.specs.declared.reach.Way.{Way}
use Rattle.pieces.specs.declared.sliding.Sliding.{Sliding}
use Rattle.pieces.specs.declared.steps.Step.{Step}
use Rattle.pieces.specs.Best.{IsNoWorse}
use Rattle.pieces.specs.Chains.{Chain, HasShape, IsNormal, IsWorth, end, stop}
use Rattle.pieces.specs.Levels.{IsTurned}
use Rattle.pieces.specs.Over.{InPlay, IsMovedTo}
use Rattle.pieces.specs.Steps.{AreSteps, CountsInside, FallOff, IsOfSteps, StepsGive, step_end, steps_end}
use Rattle.pieces.specs.Windows.{Best, IsLeft, Sees, high_place}

module _ {P : Type 0} (shape : ShapeOf P) where
  -- the step is a constant alone
  abbrev pub IsConstantStep : Step P → Type 0
  IsConstantStep l = (l.other ≡ None) × IsSteady (shape.function l.shape)

  -- and so is each of them
  abbrev pub AreConstantSteps : List (Step P) → Type 0
  AreConstantSteps ls = (i : ℕ) (l : Step P) → slice_get ls i ≡ Some l → IsConstantStep l

  -- the items are the constants in their order, turned so that the greatest is the best
  pub record AreAsked (side : Side) (ls : List (Step P)) (r : Range P) : Type 0 where
    pub count : length r.items ≡ length ls
    pub each : (i : ℕ) (l : Step P) (q : P) → slice_get ls i ≡ Some l → slice_get r.items i ≡ Some q → IsTurned shape side l.shape q
    pub low : r.low ≡ 0
    pub high : r.high ≤ length ls

  module _ (side : Side) where
    -- the constant of the one step is no worse than that of the other
    abbrev pub IsNoLess : Step P → Step P → Type 0
    IsNoLess l m = (t u : Rational) → IsNoWorse side (value_at (shape.function l.shape) t) (value_at (shape.function m.shape) u)

    -- the first is a best of all
    abbrev pub IsFirstBest : List (Step P) → Type 0
    IsFirstBest ls = (l m : Step P) (j : ℕ) → slice_get ls 0 ≡ Some l → slice_get ls j ≡ Some m → IsNoLess l m

    -- those before the place `n` are gone: there stands a best of all from the place `from` on
    pub record HasSettled (from : ℕ) (old new : List (Step P)) : Type 0 where
      pub n : ℕ
      pub more : from ≤ n
      pub is : new ≡ drop n old
      pub best : (l m : Step P) (j : ℕ) → slice_get old n ≡ Some l → from ≤ j → slice_get old j ≡ Some m → IsNoLess l m
      pub none : length old ≤ n → length old ≤ from

    -- the steps give at each time the best of the first constants that count
    pub record GivesFirst (b : Place) (ls : List (Step P)) (n : ℕ) (steps : List (Step P)) : Type 0 where
      pub are : AreSteps shape side b steps
      pub falls : FallOff shape side b steps
      pub begins : n ≡ 0 → steps ≡ []
      pub ends : (i : ℕ) (l : Step P) → suc i ≡ n → slice_get ls i ≡ Some l → Same (steps_end b steps) (step_end l)
      pub bound : (t : Rational) (v : Extended) (i : ℕ) (l : Step P) → StepsGive shape side b steps t v → i < n → slice_get ls i ≡ Some l
          → Upto (step_end l) t → IsNoWorse side v (value_at (shape.function l.shape) t)
      pub one : (t : Rational) (v : Extended) → StepsGive shape side b steps t v
          → (i : ℕ) × (l : Step P) × (i < n) × (slice_get ls i ≡ Some l) × Upto (step_end l) t × (v ≈ᵉ value_at (shape.function l.shape) t)
      pub of : (q : P) → IsOfSteps steps q → (i : ℕ) × (l : Step P) × (slice_get ls i ≡ Some l) × (q ≡ l.shape)
      pub counts : (tau : Rational) (q : P) → CountsInside b steps tau q
          → (i : ℕ) × (l : Step P) × (slice_get ls i ≡ Some l) × (q ≡ l.shape) × (b.at <ʳ tau) × (tau <ʳ (step_end l).at)

  module _ (chain : Chain P) (way : Way) where
    -- the constant counts from the place b to where the step ends: the chain has its value where the window sees it, before `met`
    pub record IsCounted (met b : Place) (l : Step P) : Type 0 where
      pub constant : IsConstantStep l
      pub upto : AtMost (step_end l) (place way.to)
      pub moved : IsMovedTo shape chain way.over (place way.to) l.shape
      pub seen : (t : Rational) → After b t → Upto (step_end l) t
          → (u : Rational) × Sees way.over t u × Upto met u × IsWorth shape chain u (value_at (shape.function l.shape) t)
      pub in_play : (tau : Rational) → b.at <ʳ tau → tau <ʳ (step_end l).at → InPlay shape chain way.over tau (shape.function l.shape)

    -- one of the constants counts at t, and is no worse than v
    pub record HasAbove (ls : List (Step P)) (t : Rational) (v : Extended) : Type 0 where
      pub i : ℕ
      pub level : Step P
      pub at : slice_get ls i ≡ Some level
      pub upto : Upto (step_end level) t
      pub above : IsNoWorse way.side (value_at (shape.function level.shape) t) v

    -- what the window has told is the best of what is seen, and one of its constants is no worse than what is seen before `met`
    pub record CountsAll (met : Place) (s : Sliding P) : Type 0 where
      pub normal : IsNormal shape s.out
      pub on : AtMost chain.from (stop s.out)
      pub upto : AtMost (stop s.out) (stop chain)
      pub told : (t : Rational) (v : Extended) → IsWorth shape s.out t v → Best shape chain way t v
      pub moved : (p : P) → HasShape s.out p → IsMovedTo shape chain way.over (place way.to) p
      pub steps : AreSteps shape way.side (stop s.out) s.steps.items
      pub each : (i : ℕ) (l : Step P) → slice_get s.steps.items i ≡ Some l → IsCounted met (stop s.out) l
      pub above : (t u : Rational) (v : Extended) → After (stop s.out) t → Upto (place way.to) t → Sees way.over t u → Upto met u
          → IsWorth shape chain u v → HasAbove s.steps.items t v

    -- as far as it has told, its high end has come no further than the place, or it has told nothing yet
    abbrev pub HasReached : Place → Sliding P → Type 0
    HasReached met s = AtMost (stop s.out) chain.from
        ⊎ ((t : Rational) → Upto (stop s.out) t → ¬ Before met (high_place way.over.high way.over.high_in t))

    -- a shape with the value of the piece, which counts up to where the window has left that
    pub record Fits (p : Piece P) (l : Step P) : Type 0 where
      pub constant : IsConstantStep l
      pub left : IsLeft way (end p) (step_end l)
      pub value : (t u : Rational) → value_at (shape.function l.shape) t ≈ᵉ value_at (shape.function p.shape) u
      pub moved : IsMovedTo shape chain way.over (place way.to) l.shape
