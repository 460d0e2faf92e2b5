-- The two lines of an early verdict.
use Rattle.std.specs.Prelude.{◌≡◌, ℕ, Bool, List, ◌++◌, codes, pos}
use Rattle.rational.specs.Time.{whole}
use Rattle.stl_syntax.specs.Texts.{IsNumberText, newline, start_line}
use Rattle.stl_syntax.specs.declared.scale.Scale.{Scale}

-- the line of the row that decided, and that of the verdict
abbrev pub AreDecidedLines : Scale → ℕ → Bool → List ℕ → Type 0
AreDecidedLines scale at holds text =
    (time : List ℕ) × IsNumberText scale.time (whole (pos at)) time × (text ≡ codes "decided at " ++ time ++ newline ++ start_line holds)
