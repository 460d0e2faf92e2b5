-- Pairs and faults that are kept beside, or whose shapes are negated, or mirrored in time.
use Rattle.std.specs.Prelude.{◌≡◌, ◌≤◌, ◌^◌, ℤ, ◌-ℤ◌, Option, Some, None}
use Rattle.std.specs.Int.RustNames.{unsigned_abs}
use Rattle.rational.specs.Rational.{Rational, IsWithin, subtract, whole, ◌≈◌}
use Rattle.rational.specs.Extended.{Affine, value_at, ◌≈ᵉ◌}
use Rattle.rational.specs.Affine.{HasBoundedLevel}
use Rattle.frac128.specs.Value.{value}
use Rattle.frac128.specs.declared.frac.Frac.{Frac}
use Rattle.value_laws.specs.Laws.{IsOpposite}
use Rattle.value_laws.specs.Members.{ShapeOf}
use Rattle.pl_signal.specs.declared.faults.WidePair.{WidePair}
use Rattle.pl_signal.specs.declared.faults.WidePair.TheVariants.{Cross, Value}
use Rattle.pl_signal.specs.declared.faults.OpFault.{OpFault}
use Rattle.pl_signal.specs.declared.faults.OpFault.TheVariants as F

-- at each time t the one function is what the other is at z - t
abbrev pub IsMirrored : ℤ → Affine → Affine → Type 0
IsMirrored z f g = (t : Rational) → value_at g t ≈ᵉ value_at f (subtract (whole z) t)

module _ {P : Type 0} (shape : ShapeOf P) where
  -- where a shape of the pair is constant its value is infinite or within 2^31
  abbrev pub HasBoundedLevels : WidePair P → Type 0
  HasBoundedLevels (Cross p q from to den) = HasBoundedLevel (2 ^ 31) (shape.function p) × HasBoundedLevel (2 ^ 31) (shape.function q)
  HasBoundedLevels (Value p at den) = HasBoundedLevel (2 ^ 31) (shape.function p)

  -- the other pair names shapes that are minus those, and the same times and denominator
  abbrev pub IsNegatedPair : WidePair P → WidePair P → Type 0
  IsNegatedPair (Cross p q from to den) other =
      (p' q' : P) × (other ≡ Cross p' q' from to den) × IsOpposite (shape.function p) (shape.function p') × IsOpposite (shape.function q) (shape.function q')
  IsNegatedPair (Value p at den) other = (p' : P) × (other ≡ Value p' at den) × IsOpposite (shape.function p) (shape.function p')

  -- the shape may be mirrored about z
  abbrev pub HasMirror : ℤ → P → Type 0
  HasMirror z p = unsigned_abs (z -ℤ shape.base p) ≤ 2 ^ 34

  -- the shapes and the times of the pair may be
  abbrev pub CanMirror : ℤ → WidePair P → Type 0
  CanMirror z (Cross p q from to den) = HasMirror z p × HasMirror z q × IsWithin (2 ^ 34) (value from) × IsWithin (2 ^ 34) (value to)
  CanMirror z (Value p at den) = HasMirror z p × IsWithin (2 ^ 34) (value at)

  -- the other pair names the mirrored shapes, at the mirrored times, with the same denominator
  abbrev pub IsMirroredPair : ℤ → WidePair P → WidePair P → Type 0
  IsMirroredPair z (Cross p q from to den) other =
      (p' q' : P) × (from' to' : Frac) × (other ≡ Cross p' q' from' to' den)
      × IsMirrored z (shape.function p) (shape.function p') × IsMirrored z (shape.function q) (shape.function q')
      × (value from' ≈ subtract (whole z) (value to)) × (value to' ≈ subtract (whole z) (value from))
  IsMirroredPair z (Value p at den) other =
      (p' : P) × (at' : Frac) × (other ≡ Value p' at' den) × IsMirrored z (shape.function p) (shape.function p') × (value at' ≈ subtract (whole z) (value at))

-- what holds of the pair of a fault that is Wide
abbrev pub OfPair : {P : Type 0} → (WidePair P → Type 0) → OpFault P → Type 0
OfPair Q F.Memory = Unit {0}
OfPair Q (F.Wide pair) = Q pair

-- what was refused is kept, and nothing where memory was wanted
abbrev pub IsKept : {P : Type 0} → OpFault P → Option (WidePair P) → Type 0
IsKept F.Memory kept = kept ≡ None
IsKept (F.Wide pair) kept = kept ≡ Some pair

-- want of memory for want of memory, and a pair for a pair
abbrev pub IsPairwise : {P : Type 0} → (WidePair P → WidePair P → Type 0) → OpFault P → OpFault P → Type 0
IsPairwise R F.Memory other = other ≡ F.Memory
IsPairwise {P} R (F.Wide pair) other = (pair' : WidePair P) × (other ≡ F.Wide pair') × R pair pair'
