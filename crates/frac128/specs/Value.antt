-- What a `Frac` stands for.
use Rattle.std.specs.Prelude.{ℕ, ℤ}
use Rattle.rational.specs.Rational.{Rational, mixed}
use Rattle.frac128.specs.declared.frac.Frac.{Frac}

-- whole + rest / den
abbrev pub value : Frac → Rational
value f = mixed f.whole f.rest f.den f.positive

-- the floor
abbrev pub whole_part : Frac → ℤ
whole_part f = f.whole

-- what lies above the floor, times the denominator
abbrev pub rest_part : Frac → ℕ
rest_part f = f.rest

-- the denominator in lowest terms
abbrev pub denominator : Frac → ℕ
denominator f = f.den
