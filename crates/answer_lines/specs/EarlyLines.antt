-- The lines of early verdicts.
use Rattle.std.specs.Prelude.{◌≡◌, ℕ, List, ◌++◌, codes, pos}
use Rattle.rational.specs.Time.{whole}
use Rattle.stl_syntax.specs.Texts.{IsNumberText, newline}
use Rattle.stl_syntax.specs.declared.scale.Scale.{Scale}

-- the line of the row at that tick, which decided
abbrev pub IsDecidedLine : Scale → ℕ → List ℕ → Type 0
IsDecidedLine scale at text = (time : List ℕ) × IsNumberText scale.time (whole (pos at)) time × (text ≡ codes "decided at " ++ time ++ newline)
