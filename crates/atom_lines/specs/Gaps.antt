-- The gap between two rows, and an atom's sum, less its constant, on it.
use Rattle.std.specs.Prelude.{◌≡◌, ℤ, ◌-◌, pos, ◌-ℤ◌, ◌⊎◌, ◌<ℤ◌}
use Rattle.std.proofs.Math.Nat.{sub-pos_iff_lt}
use Rattle.rational.specs.Rational.{whole}
use Rattle.rational.specs.Line.{Line, ramp_line}
use Rattle.stl_syntax.specs.Truth.{compares}
use Rattle.stl_syntax.specs.declared.rel.Rel.{Rel}
use Rattle.atom_lines.specs.declared.gap.Gap.{Gap}

-- the line of the sum
abbrev pub along : Gap → Line
along g = ramp_line (pos g.first) g.from (g.to -ℤ g.from) (g.second - g.first) (sub-pos_iff_lt.1 g.rising)

-- the sum has opposite signs at the two ends
abbrev pub Passes : Gap → Type 0
Passes g = ((g.from <ℤ pos 0) × (pos 0 <ℤ g.to)) ⊎ ((pos 0 <ℤ g.from) × (g.to <ℤ pos 0))

-- the sum has one sign at the two ends, and at the second row
abbrev pub AreOfSign : Gap → ℤ → Type 0
AreOfSign g next = ((pos 0 <ℤ g.from) × (pos 0 <ℤ g.to) × (pos 0 <ℤ next)) ⊎ ((g.from <ℤ pos 0) × (g.to <ℤ pos 0) × (next <ℤ pos 0))

-- the comparison is the same at the two ends, and at the second row
pub record IsEven (rel : Rel) (g : Gap) (next : ℤ) : Type 0 where
  pub over : compares rel (whole g.from) ≡ compares rel (whole g.to)
  pub behind : compares rel (whole g.from) ≡ compares rel (whole next)
