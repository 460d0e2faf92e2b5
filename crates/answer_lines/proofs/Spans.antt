-- The text of a span from its parts.
use Rattle.std.proofs.Common.{◌≡◌, ◌≤◌, ℕ, List, ◌++◌, Bool, true, false, if◌then◌else◌, codes, length, append_assoc, refl, arith}
use Rattle.frac128.specs.Value.{value}
use Rattle.frac128.specs.declared.span.Span.{Span}
use Rattle.stl_syntax.specs.declared.scale.Scale.{Scale}
use Rattle.stl_syntax.specs.Texts.{bool_text, fraction_text, newline, IsNumberText, IsSpanText, IsVerdictLine}
use Rattle.stl_syntax.specs.declared.items.Verdict.{Verdict}
use Rattle.answer_lines.specs.LineEnds.{line_begin, line_end}
use Rattle.rational.specs.Time.{Rational}
use Rattle.answer_lines.specs.Numbers.{signed, IsInUnits}

-- the bracket before a span, and after it
abbrev pub before : Bool → List ℕ
before inside = if inside then codes "[" else codes "("

abbrev pub after : Bool → List ℕ
after inside = if inside then codes "]" else codes ")"

-- a time in units is its text
pub number_text : (digits : ℕ) (t : Rational) (negative : Bool) (size den : ℕ) → IsInUnits digits t negative size den
    → IsNumberText digits t (fraction_text (signed negative size) den)
number_text digits t negative size den u = record { num = signed negative size; den = den; lowest = u.lowest; same = u.same; is = refl }

-- the texts of its two ends make the text of a span
pub span_text : (scale : Scale) (on : Span) (from to : List ℕ) → IsNumberText scale.time (value on.from) from → IsNumberText scale.time (value on.to) to
    → IsSpanText scale on (before on.from_in ++ from ++ codes "," ++ to ++ after on.to_in)
span_text scale on from to p q = record { from = from; to = to; from_is = p; to_is = q; is = refl }

-- the line of a verdict from the texts of its times
pub line_is : (scale : Scale) (v : Verdict) (from to : List ℕ) → IsNumberText scale.time (value v.on.from) from
    → IsNumberText scale.time (value v.on.to) to
    → IsVerdictLine scale v (line_begin v ++ from ++ codes "," ++ to ++ line_end v)
line_is scale v from to p q =
    (_, span_text scale v.on from to p q, together (before v.on.from_in ++ from ++ codes "," ++ to) (after v.on.to_in) (codes " ") (bool_text v.holds) newline)
  where
    together : (a b c d e : List ℕ) → a ++ (b ++ c ++ d ++ e) ≡ a ++ b ++ c ++ d ++ e
    together a b c d e = simp append_assoc

-- an ending is short
pub end_short : (a b : Bool) → length ((if a then codes "]" else codes ")") ++ codes " " ++ bool_text b ++ newline) ≤ 8
end_short true true = omega arith
end_short true false = omega arith
end_short false true = omega arith
end_short false false = omega arith
