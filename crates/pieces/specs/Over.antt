-- The best of a chain over a window from one offset to another, met with the domain: its value, what is in play where it is taken and so
-- may be refused, and where the bases of its shapes come from.
use Rattle.std.specs.Prelude.{◌≡◌, ◌⊎◌, ◌^◌, ◌-ℤ◌, ◌+ℤ◌, ℕ, ℤ, pos, neg_ℤ, true, IsTrue, Option, Some, None}
use Rattle.rational.specs.Time.{Rational, Within, shifted, ◌≤ʳ◌, ◌<ʳ◌}
use Rattle.rational.specs.Extended.{Affine}
use Rattle.rational.specs.Places.{Place}
use Rattle.rational.specs.Windows.{Function, Window}
use Rattle.rational.specs.InPlay.{HasTime, IsBreakpoint, IsEndPart, IsLimitWithin, IsValueWithin, IsWideCrossing, IsWideValue}
use Rattle.frac128.specs.Value.{value}
use Rattle.value_laws.specs.Members.{ShapeOf}
use Rattle.pl_signal.specs.declared.faults.WidePair.{WidePair}
use Rattle.pl_signal.specs.declared.faults.WidePair.TheVariants.{Cross, Value}
use Rattle.pl_signal.specs.declared.faults.OpFault.{OpFault}
use Rattle.pl_signal.specs.declared.faults.OpFault.TheVariants as F
use Rattle.pieces.specs.declared.piece.Piece.{Piece}
use Rattle.pieces.specs.declared.reach.Reach.{Reach}
use Rattle.pieces.specs.declared.sliding.Sliding.{Sliding}
use Rattle.pieces.specs.Chains.{Chain, HasShape, IsWorth, end, stop}
use Rattle.pieces.specs.Steps.{CountsInside, IsOfSteps}
use Rattle.pieces.specs.Windows.{Sees}

-- the window with both its ends
abbrev pub with_ends : Reach → Reach
with_ends over = record { low = over.low; high = over.high; low_in = true; high_in = true }

-- the times of the domain that are seen from t
abbrev pub SeesIn : Rational → Rational → Reach → Rational → Window
SeesIn from to over t u = Within from to u × Sees over t u

-- the line is in play at tau where the best over the window is taken
abbrev pub InPlayOver : Function → Rational → Rational → Reach → Rational → Affine → Type 0
InPlayOver F from to over tau line =
    HasTime (SeesIn from to over tau)
    × (IsEndPart F from to tau line (λ k. (k ≡ over.low) ⊎ (k ≡ over.high))
    ⊎ IsValueWithin F from to (SeesIn from to over tau) line
    ⊎ IsLimitWithin F from to (SeesIn from to (with_ends over) tau) (λ u. shifted tau over.low <ʳ u) (λ u. u <ʳ shifted tau over.high) line)

-- the offset of the far bound behind, or one beyond any domain where there is none
abbrev pub IsReach : Option ℕ → ℤ → Type 0
IsReach None low = low ≡ neg_ℤ (pos (2 ^ 32))
IsReach (Some b) low = low ≡ neg_ℤ (pos b)

module _ {P : Type 0} (shape : ShapeOf P) where
  -- each moving shape of the new chain has the base of a moving shape of the old one, less one of the two bounds
  abbrev pub BasesAhead : ℕ → ℕ → Chain P → Chain P → Type 0
  BasesAhead a b old new = (p : P) → HasShape new p → IsTrue (shape.moves p) → (q : P) × HasShape old q
      × IsTrue (shape.moves q) × ((shape.base p ≡ shape.base q -ℤ pos a) ⊎ (shape.base p ≡ shape.base q -ℤ pos b))

  -- more by one of the finite bounds
  abbrev pub BasesBehind : ℕ → Option ℕ → Chain P → Chain P → Type 0
  BasesBehind a None old new = (p : P) → HasShape new p → IsTrue (shape.moves p) → (q : P) × HasShape old q
      × IsTrue (shape.moves q) × (shape.base p ≡ shape.base q +ℤ pos a)
  BasesBehind a (Some b) old new = (p : P) → HasShape new p → IsTrue (shape.moves p) → (q : P) × HasShape old q
      × IsTrue (shape.moves q) × ((shape.base p ≡ shape.base q +ℤ pos a) ⊎ (shape.base p ≡ shape.base q +ℤ pos b))

  -- where the piece begins and where it ends the chain does so too, or is not one line
  pub record HasBreaks (chain : Chain P) (c : Place) (p : Piece P) : Type 0 where
    pub first : IsBreakpoint (IsWorth shape chain) chain.from.at (stop chain).at c.at
    pub last : IsBreakpoint (IsWorth shape chain) chain.from.at (stop chain).at (end p).at

  module _ (chain : Chain P) (over : Reach) where
    -- the line is in play at tau
    abbrev pub InPlay : Rational → Affine → Type 0
    InPlay tau line = InPlayOver (IsWorth shape chain) chain.from.at (stop chain).at over tau line

    -- the pair is a cause: both shapes are in play where they cross, or the constant of the value is
    abbrev pub IsCauseOver : WidePair P → Type 0
    IsCauseOver (Cross p q a b den) =
        IsWideCrossing InPlay chain.from.at (stop chain).at (shape.function p) (shape.function q) (value a) (value b) den
    IsCauseOver (Value p at den) = IsWideValue InPlay chain.from.at (stop chain).at (shape.function p) (value at) den

    -- a fault that is Wide has a cause
    abbrev pub HasCauseOver : OpFault P → Type 0
    HasCauseOver F.Memory = Unit {0}
    HasCauseOver (F.Wide pair) = IsCauseOver pair

    -- where p moves it has the base of a moving shape of the chain less one of the offsets; less the low one only where the window's low
    -- end comes into the domain by the last of the places
    abbrev pub IsMovedTo : Place → P → Type 0
    IsMovedTo last p = IsTrue (shape.moves p) → (q : P) × HasShape chain q × IsTrue (shape.moves q)
        × ((shape.base p ≡ shape.base q -ℤ over.high)
        ⊎ ((shape.base p ≡ shape.base q -ℤ over.low) × (chain.from.at ≤ʳ shifted last.at over.low)))

    -- by where the chain ends
    abbrev pub IsMovedOver : P → Type 0
    IsMovedOver p = IsMovedTo (stop chain) p

    -- so it is with each shape of the new chain
    abbrev pub BasesOver : Chain P → Type 0
    BasesOver new = (p : P) → HasShape new p → IsMovedOver p

    -- the shapes that the window has told, and those of its steps up to the last place, have such bases, and each shape that counts inside a
    -- step is in play there
    pub record Plays (last : Place) (s : Sliding P) : Type 0 where
      pub told : (p : P) → HasShape s.out p → IsMovedTo last p
      pub moved : (p : P) → IsOfSteps s.steps.items p → IsMovedTo last p
      pub in_play : (tau : Rational) (p : P) → CountsInside (stop s.out) s.steps.items tau p → InPlay tau (shape.function p)
