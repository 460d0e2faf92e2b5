-- There is a text for each number, for each verdict, and for each list of verdicts.
use Rattle.std.proofs.Common.{◌≡◌, ℕ, ℤ, pos, ◌*ℤ◌, ◌*◌, ◌^◌, ◌<◌, List, [], ◌∷◌, ◌++◌}
use Rattle.std.proofs.Common.{append_assoc, refl, ap, ◌∙◌, arith, mul-pos}
use Rattle.std.proofs.Math.Nat.{one-le-pow}
use Rattle.rational.specs.Time.{Rational, ratio, ◌≈◌}
use Rattle.rational.proofs.Lowest.{has_denominator}
use Rattle.rational.proofs.Mixed.{mul_parts}
use Rattle.frac128.specs.Value.{value}
use Rattle.stl_syntax.specs.Texts.{fraction_text, IsNumberText, IsVerdictLine, AreVerdictLines}
use Rattle.stl_syntax.specs.declared.items.Verdict.{Verdict}
use Rattle.stl_syntax.specs.declared.scale.Scale.{Scale}
use Rattle.answer_lines.proofs.Growths as growth
use Rattle.answer_lines.proofs.Spans.{span_text}

-- t in units of 10^digits ticks
in_units : ℕ → Rational → Rational
in_units digits t = record { up = t.up; down = t.down; den = t.den * 10 ^ digits; positive = mul-pos t.positive (one-le-pow digits 10 (omega arith)) }

-- each number of ticks has a text
pub number_exists : (digits : ℕ) (t : Rational) → (text : List ℕ) × IsNumberText digits t text
unfolding in_units
number_exists digits t =
    let d = has_denominator (in_units digits t) in
    let num = d.1.0 in
    (fraction_text num d.0, record { num = num; den = d.0; lowest = d.1.1; same = in_ticks num d.0 d.1.1.positive d.1.2; is = refl })
  where
    in_ticks : (num : ℤ) (den : ℕ) (p : 0 < den) → in_units digits t ≈ ratio num den p → t ≈ ratio (num *ℤ pos (10 ^ digits)) den p
    in_ticks num den p h = record { same = omega (arith, h.same, ap (λ x. x * t.den) (mul_parts num (pos (10 ^ digits)))) }

-- each verdict has a line
pub line_exists : (scale : Scale) (v : Verdict) → (line : List ℕ) × IsVerdictLine scale v line
line_exists scale v =
    let from = number_exists scale.time (value v.on.from) in
    let to = number_exists scale.time (value v.on.to) in
    (_, (_, span_text scale v.on from.0 to.0 from.1 to.1, refl))

-- the lines of two lists, one after the other
pub lines_join : (scale : Scale) (vs ws : List Verdict) (text more : List ℕ) → AreVerdictLines scale vs text → AreVerdictLines scale ws more
    → AreVerdictLines scale (vs ++ ws) (text ++ more)
lines_join scale [] ws text more h k = rw h k
lines_join scale (v ∷ vs) ws text more (here, later, first, others, e) k =
    (here, later ++ more, first, lines_join scale vs ws later more others k, ap (λ t. t ++ more) e ∙ append_assoc here later more)
