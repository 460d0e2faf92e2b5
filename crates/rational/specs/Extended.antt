-- Extended values: the rational numbers with -inf and inf, their order, and the Sup and Inf of a described set.
use Rattle.std.specs.Prelude.{◌⊎◌}
use Rattle.rational.specs.Line.{Line, at}
use Rattle.rational.specs.Time.{Rational, negate, ◌≤ʳ◌, ◌<ʳ◌}

-- a value: a rational number, -inf or inf
pub data Extended : Type 0 where
  minus_infinity : Extended
  finite : Rational → Extended
  infinity : Extended

-- at most
infix 50 ◌≤ᵉ◌ ◌<ᵉ◌ ◌≈ᵉ◌
abbrev pub ◌≤ᵉ◌ : Extended → Extended → Type 0
minus_infinity ≤ᵉ w = Unit {0}
finite x ≤ᵉ minus_infinity = ⊥
finite x ≤ᵉ finite y = x ≤ʳ y
finite x ≤ᵉ infinity = Unit {0}
infinity ≤ᵉ minus_infinity = ⊥
infinity ≤ᵉ finite y = ⊥
infinity ≤ᵉ infinity = Unit {0}

-- below
abbrev pub ◌<ᵉ◌ : Extended → Extended → Type 0
minus_infinity <ᵉ minus_infinity = ⊥
minus_infinity <ᵉ finite y = Unit {0}
minus_infinity <ᵉ infinity = Unit {0}
finite x <ᵉ minus_infinity = ⊥
finite x <ᵉ finite y = x <ʳ y
finite x <ᵉ infinity = Unit {0}
infinity <ᵉ w = ⊥

-- one value, maybe by two pairs
pub record ◌≈ᵉ◌ (v w : Extended) : Type 0 where
  pub at_most : v ≤ᵉ w
  pub at_least : w ≤ᵉ v

-- minus the value
abbrev pub opposite : Extended → Extended
opposite minus_infinity = infinity
opposite (finite x) = finite (negate x)
opposite infinity = minus_infinity

-- r is the least of v and w
pub record IsLeast (v w r : Extended) : Type 0 where
  pub left : r ≤ᵉ v
  pub right : r ≤ᵉ w
  pub one_of : (v ≤ᵉ r) ⊎ (w ≤ᵉ r)

-- r is the greatest of v and w
pub record IsGreatest (v w r : Extended) : Type 0 where
  pub left : v ≤ᵉ r
  pub right : w ≤ᵉ r
  pub one_of : (r ≤ᵉ v) ⊎ (r ≤ᵉ w)

-- r is the Sup of the values that P describes, where no value lies below `lowest`
pub record IsSup (lowest : Extended) (P : Extended → Type 0) (r : Extended) : Type 0 where
  pub at_least : lowest ≤ᵉ r
  pub bound : (v : Extended) → P v → v ≤ᵉ r
  pub reached : (w : Extended) → lowest ≤ᵉ w → w <ᵉ r → (v : Extended) × P v × (w <ᵉ v)

-- r is the Inf of the values that P describes, where no value lies above `highest`
pub record IsInf (highest : Extended) (P : Extended → Type 0) (r : Extended) : Type 0 where
  pub at_most : r ≤ᵉ highest
  pub bound : (v : Extended) → P v → r ≤ᵉ v
  pub reached : (w : Extended) → r <ᵉ w → w ≤ᵉ highest → (v : Extended) × P v × (v <ᵉ w)

-- an affine or a constantly infinite function of time
pub data Affine : Type 0 where
  always_low : Affine
  affine : Line → Affine
  always_high : Affine

-- the value of the function at t
abbrev pub value_at : Affine → Rational → Extended
value_at always_low t = minus_infinity
value_at (affine f) t = finite (at f t)
value_at always_high t = infinity

-- the function's value at t is v
abbrev pub Passes : Affine → Rational → Extended → Type 0
Passes f t v = v ≈ᵉ value_at f t
