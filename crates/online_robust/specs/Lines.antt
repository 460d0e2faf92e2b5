-- The parts of a margin over time.
use Rattle.std.specs.Prelude.{◌≡◌, IsTrue}
use Rattle.rational.specs.Rational.{Rational}
use Rattle.rational.specs.Time.{◌≈◌}
use Rattle.frac128.specs.Value.{value}
use Rattle.rational.specs.Extended.{value_at, opposite, ◌≈ᵉ◌}
use Rattle.frac128.specs.declared.frac.Frac.{Frac}
use Rattle.value_laws.specs.Margins.{is_ramp, margin_base, margin_function}
use Rattle.value_laws.specs.declared.margin.Margin.{Margin}
use Rattle.node_edges.specs.Members.{PartOf}
use Rattle.online_robust.specs.declared.line.MarginLine.{MarginLine}
use Rattle.online_robust.specs.declared.line.MarginLine.TheVariants.{Point, Gap}

-- the time of a point, and where a gap ends
abbrev pub end_of : MarginLine → Frac
end_of (Point at value) = at
end_of (Gap from to piece) = to

-- the margin of the part
abbrev pub margin_of : MarginLine → Margin
margin_of (Point at value) = value
margin_of (Gap from to piece) = piece

-- points at one time, or gaps between the same times
abbrev pub AreAtOnce : MarginLine → MarginLine → Type 0
AreAtOnce (Point s v) (Point t w) = s ≡ t
AreAtOnce (Gap a b p) (Gap c d q) = (a ≡ c) × (b ≡ d)
AreAtOnce _ _ = ⊥

-- a point, and a point at its time again
abbrev pub IsPointAgain : MarginLine → MarginLine → Type 0
IsPointAgain (Point s v) (Point t w) = value s ≈ value t
IsPointAgain _ _ = ⊥

-- the part with the negated margin
pub record IsNegated (old new : MarginLine) : Type 0 where
  pub at_once : AreAtOnce old new
  pub value : (t : Rational) → value_at (margin_function (margin_of new)) t ≈ᵉ opposite (value_at (margin_function (margin_of old)) t)
  pub base : IsTrue (is_ramp (margin_of new)) → IsTrue (is_ramp (margin_of old)) × (margin_base (margin_of new) ≡ margin_base (margin_of old))

-- the lines of an edge as a kind of part
abbrev pub margin_part : PartOf MarginLine
margin_part = record { end = λ x. value (end_of x); follows = IsPointAgain; joined = λ first second both. both ≡ second }
