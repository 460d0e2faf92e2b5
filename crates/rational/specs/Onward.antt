-- Functions that grow or shrink with time, two functions in one order, and how a since goes on from a time while they stay so.
use Rattle.std.specs.Prelude.{◌⊎◌}
use Rattle.rational.specs.Rational.{Rational, ◌≤ʳ◌}
use Rattle.rational.specs.Extended.{Extended, ◌≤ᵉ◌, IsLeast, IsGreatest, Affine, value_at}

-- f grows with time, or stays; it shrinks, or stays
abbrev pub Climbs : Affine → Type 0
Climbs f = (t u : Rational) → t ≤ʳ u → value_at f t ≤ᵉ value_at f u

abbrev pub Sinks : Affine → Type 0
Sinks f = (t u : Rational) → t ≤ʳ u → value_at f u ≤ᵉ value_at f t

-- at both times f is at most h
pub record IsBelow (f h : Affine) (l r : Rational) : Type 0 where
  pub left : value_at f l ≤ᵉ value_at h l
  pub right : value_at f r ≤ᵉ value_at h r

-- at both times the two are in one order
abbrev pub InOrder : Affine → Affine → Rational → Rational → Type 0
InOrder f h l r = IsBelow f h l r ⊎ IsBelow h f l r

-- v is the value at t of a since that is worth r at t0, where from there on its left side is f and its right side h, in one order
pub record IsOnward (r : Extended) (f h : Affine) (t0 t : Rational) (v : Extended) : Type 0 where
  pub low : Extended
  pub top : Extended
  pub high : Extended
  pub is_low : IsLeast r (value_at f t0) low
  pub is_top : IsGreatest low (value_at h t0) top
  pub is_high : IsGreatest top (value_at h t) high
  pub is_value : IsLeast (value_at f t) high v
