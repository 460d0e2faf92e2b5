-- The limits within which shapes are compared, moved, negated and fixed.
use Rattle.std.specs.Prelude.{◌^◌, List, [], ◌∷◌}
use Rattle.rational.specs.Rational.{IsWithin}
use Rattle.rational.specs.Extended.{value_at}
use Rattle.rational.specs.Affine.{IsBounded}
use Rattle.value_laws.specs.Members.{ShapeOf}
use Rattle.pl_signal.specs.declared.knot.Knot.{Knot}
use Rattle.pl_signal.specs.Knots.{time, Each}

module _ {P : Type 0} (shape : ShapeOf P) where
  -- both one-sided limits of the gap after the knot are infinite or within 2^31
  abbrev pub HasBoundedLimits : Knot P → List (Knot P) → Type 0
  HasBoundedLimits k [] = Unit {0}
  HasBoundedLimits k (n ∷ knots) =
      IsBounded (2 ^ 31) (value_at (shape.function k.after) (time k)) × IsBounded (2 ^ 31) (value_at (shape.function k.after) (time n))

  -- the knot's time is within 2^34, and its value and the limits after it are infinite or within 2^31
  pub record IsLimitedKnot (k : Knot P) (knots : List (Knot P)) : Type 0 where
    pub when : IsWithin (2 ^ 34) (time k)
    pub point : IsBounded (2 ^ 31) (value_at (shape.function k.point) (time k))
    pub limits : HasBoundedLimits k knots

  -- the times are within 2^34, and the values and one-sided limits are infinite or within 2^31
  abbrev pub IsLimited : List (Knot P) → Type 0
  IsLimited knots = Each IsLimitedKnot knots
