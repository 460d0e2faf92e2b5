-- What the lines of a stream are as its rows come.
use Rattle.std.specs.Prelude.{◌≡◌, ℕ, Bool, false, List, [], ◌∷◌, ◌++◌}
use Rattle.stl_syntax.specs.Trace.{Row}

-- row by row, each text is sure by the rows up to its own; `rows` came before
abbrev pub AreByRow : (List Row → Bool → List ℕ → Type 0) → List Row → List Row → List ℕ → Type 0
AreByRow Sure rows [] text = text ≡ []
AreByRow Sure rows (r ∷ more) text =
    (here later : List ℕ) × Sure (rows ++ r ∷ []) false here × AreByRow Sure (rows ++ r ∷ []) more later × (text ≡ here ++ later)
