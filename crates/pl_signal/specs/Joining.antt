-- The least or the greatest of two shapes over an open gap, and a signal that goes on with it.
use Rattle.std.specs.Prelude.{◌≡◌, ◌⊎◌, ◌↔◌, ◌≤◌, ◌^◌, Bool, true, false, List}
use Rattle.std.specs.declared.cmp.Ordering.{Ordering}
use Rattle.std.specs.declared.cmp.Ordering.TheVariants.{Less, Greater}
use Rattle.rational.specs.Time.{Rational, ◌<ʳ◌, ◌≈◌, HasDenominator}
use Rattle.rational.specs.Extended.{Extended, Affine, value_at, IsLeast, IsGreatest, Passes, ◌<ᵉ◌}
use Rattle.rational.specs.Affine.{IsOrderᵉ, MeetAlone}
use Rattle.rational.specs.Windows.{Function}
use Rattle.frac128.specs.Value.{value}
use Rattle.frac128.specs.declared.frac.Frac.{Frac}
use Rattle.value_laws.specs.Members.{ShapeOf}
use Rattle.pl_signal.specs.declared.knot.Knot.{Knot}
use Rattle.pl_signal.specs.declared.joining.Side.{Side}
use Rattle.pl_signal.specs.declared.joining.Side.TheVariants.{Least, Greatest}
use Rattle.pl_signal.specs.declared.faults.WidePair.TheVariants.{Cross, Value}
use Rattle.pl_signal.specs.declared.faults.OpFault.{OpFault}
use Rattle.pl_signal.specs.declared.faults.OpFault.TheVariants as F
use Rattle.pl_signal.specs.Knots.{start, stop, HasShape, IsSignal, IsWorth}

-- v is the least of x and y, or the greatest
abbrev pub IsChosen : Side → Extended → Extended → Extended → Type 0
IsChosen Least x y v = IsLeast x y v
IsChosen Greatest x y v = IsGreatest x y v

-- the order of x and y where the least is wanted, and the order turned where the greatest is
abbrev pub IsFavour : Side → Ordering → Extended → Extended → Type 0
IsFavour Least o x y = IsOrderᵉ o x y
IsFavour Greatest o x y = IsOrderᵉ o y x

-- at each time what is chosen of the two values there
abbrev pub ChosenOf : Side → Function → Function → Function
ChosenOf side A B t v = (x y : Extended) × A t x × B t y × IsChosen side x y v

-- the one is below the other at the first time, and above it at the second
abbrev pub TurnsOver : Affine → Affine → Rational → Rational → Type 0
TurnsOver f g l r = ((value_at f l <ᵉ value_at g l) × (value_at g r <ᵉ value_at f r)) ⊎ ((value_at g l <ᵉ value_at f l) × (value_at f r <ᵉ value_at g r))

module _ {P : Type 0} (shape : ShapeOf P) where
  -- at t the shape `taken` has what is chosen of p and q
  abbrev pub IsTakenAt : Side → P → P → P → Rational → Type 0
  IsTakenAt side p q taken t = IsChosen side (value_at (shape.function p) t) (value_at (shape.function q) t) (value_at (shape.function taken) t)

  -- the one of p and q is taken up to the time and at it, and the other after it
  pub record IsSplit (side : Side) (p q : P) (from to : Rational) (first : P) (middle : Rational) (second : P) : Type 0 where
    pub after : from <ʳ middle
    pub before : middle <ʳ to
    pub both : ((first ≡ p) × (second ≡ q)) ⊎ ((first ≡ q) × (second ≡ p))
    pub until_then : (t : Rational) → from <ʳ t → t <ʳ middle → IsTakenAt side p q first t
    pub there : (t : Rational) → t ≈ middle → IsTakenAt side p q first t
    pub from_then : (t : Rational) → middle <ʳ t → t <ʳ to → IsTakenAt side p q second t

  -- the one of p and q is taken at each time of the gap
  abbrev pub IsAllOver : Side → P → P → Rational → Rational → P → Type 0
  IsAllOver side p q from to taken = ((taken ≡ p) ⊎ (taken ≡ q)) × ((t : Rational) → from <ʳ t → t <ʳ to → IsTakenAt side p q taken t)

  -- the one of p and q is better at the first time, and the other at the second: p first, or q
  abbrev pub IsTurn : Side → P → P → Rational → Rational → Bool → Type 0
  IsTurn side p q from to true =
      IsFavour side Less (value_at (shape.function p) from) (value_at (shape.function q) from)
      × IsFavour side Greater (value_at (shape.function p) to) (value_at (shape.function q) to)
  IsTurn side p q from to false =
      IsFavour side Greater (value_at (shape.function p) from) (value_at (shape.function q) from)
      × IsFavour side Less (value_at (shape.function p) to) (value_at (shape.function q) to)

  -- the new signal is the old one, then what is chosen of p and q on the open gap up to the time `to`, and `point` there
  pub record Joins (side : Side) (old : List (Knot P)) (p q : P) (to : Frac) (point : P) (new : List (Knot P)) : Type 0 where
    pub signal : IsSignal shape new
    pub begins : start new ≡ start old
    pub ends : stop new ≡ value to
    pub worth : (t : Rational) (v : Extended) → IsWorth shape new t v
        ↔ (IsWorth shape old t v
        ⊎ ((stop old <ʳ t) × (t <ʳ value to) × IsChosen side (value_at (shape.function p) t) (value_at (shape.function q) t) v)
        ⊎ ((t ≈ value to) × Passes (shape.function point) t v))
    pub shapes : (r : P) → HasShape new r → HasShape old r ⊎ (r ≡ p) ⊎ (r ≡ q) ⊎ (r ≡ point)

  -- want of memory, or the crossing of p and q between the times, with its denominator
  abbrev pub IsGapFault : P → P → Frac → Frac → OpFault P → Type 0
  IsGapFault p q from to F.Memory = Unit {0}
  IsGapFault p q from to (F.Wide (Cross a b c d den)) =
      (a ≡ p) × (b ≡ q) × (c ≡ from) × (d ≡ to)
      × ((t : Rational) × MeetAlone (shape.function p) (shape.function q) (value from) (value to) t × HasDenominator t den × (2 ^ 60 ≤ den))
  IsGapFault p q from to (F.Wide (Value a b den)) = ⊥
