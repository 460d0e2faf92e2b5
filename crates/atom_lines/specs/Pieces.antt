-- What a piece of truth says of the open gap between two times.
use Rattle.std.specs.Prelude.{◌≡◌, ◌≢◌, ◌≤◌, ◌^◌, Bool}
use Rattle.rational.specs.Time.{Rational, ◌<ʳ◌, ◌≈◌}
use Rattle.frac128.specs.Value.{value, denominator}
use Rattle.frac128.specs.declared.frac.Frac.{Frac}
use Rattle.value_laws.specs.declared.truth.Truth.{Truth}
use Rattle.atom_lines.specs.declared.truth.TruthPiece.{TruthPiece}
use Rattle.atom_lines.specs.declared.truth.TruthPiece.TheVariants.{Whole, Split}

-- the test turns over at the time `at`, strictly between, and has three truths: before it, at it and after it
pub record IsSplit (from to : Rational) (test : Rational → Bool) (before : Truth) (at : Frac) (point after : Truth) : Type 0 where
  pub after_first : from <ʳ value at
  pub before_second : value at <ʳ to
  pub until_then : (t : Rational) → from <ʳ t → t <ʳ value at → test t ≡ before.holds
  pub there : (t : Rational) → t ≈ value at → test t ≡ point.holds
  pub from_then : (t : Rational) → value at <ʳ t → t <ʳ to → test t ≡ after.holds
  pub turns : before.holds ≢ after.holds
  pub small : denominator at ≤ 2 ^ 31

-- the truth of a test on the open gap: one truth, or a split
abbrev pub TellsGap : Rational → Rational → (Rational → Bool) → TruthPiece → Type 0
TellsGap from to test (Whole w) = (t : Rational) → from <ʳ t → t <ʳ to → test t ≡ w.holds
TellsGap from to test (Split before at point after) = IsSplit from to test before at point after
