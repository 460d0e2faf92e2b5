-- The rows of a trace that is being read.
use Rattle.std.specs.Prelude.{ℕ, List, [], ◌∷◌}
use Rattle.stl_syntax.specs.Trace.{Row, AreRows}

-- the rows of a trace, or none of them yet
abbrev pub AreRowsSoFar : ℕ → List Row → Type 0
AreRowsSoFar width [] = Unit {0}
AreRowsSoFar width (r ∷ rows) = AreRows width (r ∷ rows)
