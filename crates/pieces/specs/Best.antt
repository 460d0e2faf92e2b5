-- The better of two values for a side: the greater one where the Sup is wanted, and the lesser where the Inf is.
use Rattle.std.specs.Prelude.{◌⊎◌}
use Rattle.rational.specs.Time.{Rational, ◌≤ʳ◌}
use Rattle.rational.specs.Extended.{Extended, ◌≤ᵉ◌, ◌<ᵉ◌, ◌≈ᵉ◌, Affine, value_at}
use Rattle.std.specs.declared.cmp.Ordering.{Ordering}
use Rattle.std.specs.Ordering.{MatchOrdering}
use Rattle.rational.specs.Affine.{Grows, IsSteady, Shrinks}
use Rattle.rational.specs.Windows.{Function, Window, IsSupOver, IsInfOver}
use Rattle.pl_signal.specs.declared.joining.Side.{Side}
use Rattle.pl_signal.specs.declared.joining.Side.TheVariants.{Least, Greatest}

-- v is no worse than w, in the order of values
abbrev pub NoWorseBy : Side → Extended → Extended → Type 0
NoWorseBy Greatest v w = w ≤ᵉ v
NoWorseBy Least v w = v ≤ᵉ w

-- v is no worse than w
pub record IsNoWorse (side : Side) (v w : Extended) : Type 0 where
  pub order : NoWorseBy side v w

-- v is worse than w, in the order of values
abbrev pub WorseBy : Side → Extended → Extended → Type 0
WorseBy Greatest v w = v <ᵉ w
WorseBy Least v w = w <ᵉ v

-- v is worse than w
pub record IsWorse (side : Side) (v w : Extended) : Type 0 where
  pub order : WorseBy side v w

-- v is the better one of x and y
pub record IsBetter (side : Side) (x y v : Extended) : Type 0 where
  pub left : IsNoWorse side v x
  pub right : IsNoWorse side v y
  pub one_of : IsNoWorse side x v ⊎ IsNoWorse side y v

-- the Sup of no values is the least of the type, and the Inf the greatest
abbrev pub none_of : Side → Extended → Extended → Extended
none_of Greatest lowest highest = lowest
none_of Least lowest highest = highest

-- r is the Sup of the function over the window, or its Inf
abbrev pub IsBestOver : Side → Extended → Extended → Window → Function → Extended → Type 0
IsBestOver Greatest lowest highest W F r = IsSupOver lowest W F r
IsBestOver Least lowest highest W F r = IsInfOver highest W F r

-- no later value of the function is worse
abbrev pub GetsNoWorse : Side → Affine → Type 0
GetsNoWorse side f = (t u : Rational) → t ≤ʳ u → IsNoWorse side (value_at f u) (value_at f t)

-- no later one is better
abbrev pub GetsNoBetter : Side → Affine → Type 0
GetsNoBetter side f = (t u : Rational) → t ≤ʳ u → IsNoWorse side (value_at f t) (value_at f u)

-- so from one time to another: no later value is worse
abbrev pub RisesFrom : Side → Rational → Rational → Affine → Type 0
RisesFrom side from to f = (t u : Rational) → from ≤ʳ t → t ≤ʳ u → u ≤ʳ to → IsNoWorse side (value_at f u) (value_at f t)

-- no later value is better
abbrev pub FallsFrom : Side → Rational → Rational → Affine → Type 0
FallsFrom side from to f = (t u : Rational) → from ≤ʳ t → t ≤ʳ u → u ≤ʳ to → IsNoWorse side (value_at f t) (value_at f u)

-- each value is the same
abbrev pub LevelFrom : Rational → Rational → Affine → Type 0
LevelFrom from to f = (t u : Rational) → from ≤ʳ t → t ≤ʳ to → from ≤ʳ u → u ≤ʳ to → value_at f t ≈ᵉ value_at f u

-- the trend of a function towards better values: less, the same, or greater
abbrev pub IsTrendFor : Side → Ordering → Affine → Type 0
IsTrendFor Greatest order f = MatchOrdering order (Shrinks f) (IsSteady f) (Grows f)
IsTrendFor Least order f = MatchOrdering order (Grows f) (IsSteady f) (Shrinks f)
