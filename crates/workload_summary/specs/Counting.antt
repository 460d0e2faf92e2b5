-- How many lines a text has.
use Rattle.std.specs.Prelude.{ℕ, suc, ◌==◌, if◌then◌else◌, List, [], ◌∷◌}

-- how many lines a text has
abbrev pub line_count : List ℕ → ℕ
line_count [] = 0
line_count (c ∷ text) = if c == 10 then suc (line_count text) else line_count text
