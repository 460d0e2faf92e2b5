-- How affine and constantly infinite functions of time go, and where two of them meet.
use Rattle.std.specs.Prelude.{ℕ, ℤ}
use Rattle.std.specs.declared.cmp.Ordering.{Ordering}
use Rattle.std.specs.Ordering.{MatchOrdering}
use Rattle.rational.specs.Rational.{Rational, ◌<ʳ◌, ◌≈◌, whole, IsWithin}
use Rattle.rational.specs.Line.{constant}
use Rattle.rational.specs.Extended.{Extended, minus_infinity, finite, infinity, ◌<ᵉ◌, ◌≈ᵉ◌, Affine, affine, value_at}

-- what an answer of a comparison says of two values
abbrev pub IsOrderᵉ : Ordering → Extended → Extended → Type 0
IsOrderᵉ order v w = MatchOrdering order (v <ᵉ w) (v ≈ᵉ w) (w <ᵉ v)

-- the function has one value at all times
abbrev pub IsSteady : Affine → Type 0
IsSteady f = (t u : Rational) → value_at f t ≈ᵉ value_at f u

-- its value grows with time
abbrev pub Grows : Affine → Type 0
Grows f = (t u : Rational) → t <ʳ u → value_at f t <ᵉ value_at f u

-- its value shrinks with time
abbrev pub Shrinks : Affine → Type 0
Shrinks f = (t u : Rational) → t <ʳ u → value_at f u <ᵉ value_at f t

-- what an answer says of how the value goes with time: less, the same, or greater
abbrev pub IsTrend : Ordering → Affine → Type 0
IsTrend order f = MatchOrdering order (Shrinks f) (IsSteady f) (Grows f)

-- the functions have one value at each time
abbrev pub AreSame : Affine → Affine → Type 0
AreSame f g = (t : Rational) → value_at f t ≈ᵉ value_at g t

-- the functions have one value at t, a time strictly between l and r, and at no other time
pub record MeetAlone (f g : Affine) (l r t : Rational) : Type 0 where
  pub after : l <ʳ t
  pub before : t <ʳ r
  pub meet : value_at f t ≈ᵉ value_at g t
  pub alone : (u : Rational) → value_at f u ≈ᵉ value_at g u → u ≈ t

-- the value is infinite, or a number from -n to n
abbrev pub IsBounded : ℕ → Extended → Type 0
IsBounded n minus_infinity = Unit {0}
IsBounded n (finite x) = IsWithin n x
IsBounded n infinity = Unit {0}

-- where the function has one value at all times, that value is infinite, or a number from -n to n
abbrev pub HasBoundedLevel : ℕ → Affine → Type 0
HasBoundedLevel n f = IsSteady f → (t : Rational) → IsBounded n (value_at f t)

-- the function that is n at every time
abbrev pub level : ℤ → Affine
level n = affine (constant (whole n))
