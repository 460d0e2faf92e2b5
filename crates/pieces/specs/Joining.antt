-- The least or the greatest of two shapes from one place to another, a chain that goes on with it, and what an operator on two chains
-- may refuse.
use Rattle.std.specs.Prelude.{◌≡◌, ◌⊎◌, ◌↔◌, ◌≤◌, ◌^◌, ℕ}
use Rattle.rational.specs.Time.{Rational, ◌<ʳ◌, ◌≤ʳ◌, HasDenominator}
use Rattle.rational.specs.Extended.{Extended, value_at}
use Rattle.rational.specs.Affine.{MeetAlone}
use Rattle.rational.specs.Places.{Place, After, Upto}
use Rattle.frac128.specs.Value.{value}
use Rattle.frac128.specs.Cuts.{place}
use Rattle.frac128.specs.declared.cut.Cut.{Cut}
use Rattle.value_laws.specs.Members.{ShapeOf}
use Rattle.pl_signal.specs.declared.joining.Side.{Side}
use Rattle.pl_signal.specs.declared.faults.WidePair.TheVariants.{Cross, Value}
use Rattle.pl_signal.specs.declared.faults.OpFault.{OpFault}
use Rattle.pl_signal.specs.declared.faults.OpFault.TheVariants as F
use Rattle.pl_signal.specs.Joining.{IsChosen, IsTakenAt}
use Rattle.pieces.specs.Chains.{Chain, stop, HasShape, IsNormal, IsWorth}

module _ {P : Type 0} (shape : ShapeOf P) where
  -- the one of p and q has from the one place to the other what is chosen of both
  abbrev pub IsTakenOn : Side → P → P → Place → Place → P → Type 0
  IsTakenOn side p q from to taken =
      ((taken ≡ p) ⊎ (taken ≡ q)) × ((t : Rational) → After from t → Upto to t → IsTakenAt shape side p q taken t)

  -- the new chain is the old one up to where that ends, and from there on what is chosen of p and q up to the place
  pub record Joins (side : Side) (old : Chain P) (p q : P) (until : Cut) (new : Chain P) : Type 0 where
    pub normal : IsNormal shape new
    pub begins : new.from ≡ old.from
    pub ends : stop new ≡ place until
    pub worth : (t : Rational) (v : Extended) → IsWorth shape new t v
        ↔ (IsWorth shape old t v ⊎ (After (stop old) t × Upto (place until) t
        × IsChosen side (value_at (shape.function p) t) (value_at (shape.function q) t) v))
    pub shapes : (r : P) → HasShape new r → HasShape old r ⊎ (r ≡ p) ⊎ (r ≡ q)

  -- the chain has the values of the shape on the open gap
  abbrev pub HasPart : Chain P → Rational → Rational → P → Type 0
  HasPart a from to p = (t : Rational) → from <ʳ t → t <ʳ to → IsWorth shape a t (value_at (shape.function p) t)

  -- a shape of each chain that is its part on a common open gap, and their crossing there, which needs the denominator
  pub record IsWideMeeting (a b : Chain P) (p q : P) (from to : Rational) (den : ℕ) : Type 0 where
    pub after_start : a.from.at ≤ʳ from
    pub before_stop : to ≤ʳ (stop a).at
    pub first : HasShape a p
    pub second : HasShape b q
    pub left : HasPart a from to p
    pub right : HasPart b from to q
    pub at : Rational
    pub meet : MeetAlone (shape.function p) (shape.function q) from to at
    pub denominator : HasDenominator at den
    pub wide : 2 ^ 60 ≤ den

  -- a fault is want of memory, or such a crossing
  abbrev pub IsJoinFault : Chain P → Chain P → OpFault P → Type 0
  IsJoinFault a b F.Memory = Unit {0}
  IsJoinFault a b (F.Wide (Cross p q from to den)) = IsWideMeeting a b p q (value from) (value to) den
  IsJoinFault a b (F.Wide (Value p at den)) = ⊥
