-- The two ends of the line of a verdict.
use Rattle.std.specs.Prelude.{ℕ, List, ◌++◌, codes, if◌then◌else◌}
use Rattle.stl_syntax.specs.Texts.{bool_text, newline}
use Rattle.stl_syntax.specs.declared.items.Verdict.{Verdict}

-- the bracket before a span
abbrev pub line_begin : Verdict → List ℕ
line_begin v = if v.on.from_in then codes "[" else codes "("

-- the bracket after a span, the truth, and the end of the line
abbrev pub line_end : Verdict → List ℕ
line_end v = (if v.on.to_in then codes "]" else codes ")") ++ codes " " ++ bool_text v.holds ++ newline
