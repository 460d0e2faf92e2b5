-- The margin of an atom on a gap.
use Rattle.std.proofs.Common.{◌≡◌, ℕ, ℤ, pos, neg_ℤ, nat_abs, ◌-◌, ◌<◌, ◌≤◌, ◌-ℤ◌, refl, sym, subst, ◌∙◌, arith}
use Rattle.std.proofs.lemmas.Int.{ints}
use Rattle.std.proofs.Math.Nat.{sub-pos_iff_lt}
use Rattle.rational.specs.Rational.{Rational, ◌≈◌, negate, whole}
use Rattle.rational.specs.Line.{at, ramp_line, constant, Level}
use Rattle.rational.specs.Extended.{finite, ◌≈ᵉ◌}
use Rattle.rational.proofs.Mixed.{parts}
use Rattle.rational.proofs.Order.{same_trans, same_sym, same_refl}
use Rattle.rational.proofs.Lines.{at_level, at_constant}
use Rattle.rational.proofs.Lines.{same_ramp}
use Rattle.frac128.proofs.Moves.{negated as negated_ramp}
use Rattle.rational.proofs.AffineLemmas.{finite_same}
use Rattle.rational.proofs.Shift.{whole_neg}
use Rattle.frac128.specs.Line.{line, base, base_value, rise_in_run, run_time}
use Rattle.frac128.specs.declared.ramp.Ramp.{Ramp}
use Rattle.stl_syntax.specs.SupInf.{margin}
use Rattle.stl_syntax.specs.declared.rel.Rel.{Rel}
use Rattle.stl_syntax.specs.declared.rel.Rel.TheVariants.{AtLeast, Above, AtMost, Below}
use Rattle.stl_syntax.proofs.TimeLaw.{margin_same}
use Rattle.atom_lines.specs.declared.gap.Gap.{Gap}
use Rattle.atom_lines.specs.Gaps.{along}
use Rattle.atom_lines.specs.Signs.{signed}
use Rattle.atom_lines.proofs.Crossings.{at_first}

-- the margin of a whole number
pub margin_whole : (rel : Rel) (n : ℤ) → whole (signed rel n) ≈ margin rel (whole n)
margin_whole AtLeast n = same_refl (whole n)
margin_whole Above n = same_refl (whole n)
margin_whole AtMost n = whole_neg n
margin_whole Below n = whole_neg n

signed_one : (rel : Rel) (e f : ℤ) → signed rel e ≡ signed rel f → e ≡ f
signed_one AtLeast e f h = h
signed_one Above e f h = h
signed_one AtMost e f h = omega (arith, ints, h)
signed_one Below e f h = omega (arith, ints, h)

-- the margin of a sum that stays
pub margin_level : (rel : Rel) (g : Gap) (v : Rational) (m : ℤ) → m ≡ signed rel g.from → m ≡ signed rel g.to → v ≈ whole m → (t : Rational)
    → finite (at (constant v) t) ≈ᵉ finite (margin rel (at (along g) t))
margin_level rel g v m e f h t =
    finite_same (same_trans (at_constant v t)
    (same_trans h (same_trans (subst (λ z. whole z ≈ margin rel (whole g.from)) (sym e) (margin_whole rel g.from)) (margin_same rel (same_sym level)))))
  where
    flat : Level (along g)
    flat = record { level = let s = signed_one rel g.from g.to (sym e ∙ f) in omega (arith, parts, s) }

    level : at (along g) t ≈ whole g.from
    level = same_trans (at_level t (whole (pos g.first)) (along g) flat) (at_first g)

-- and of one that moves
pub margin_ramp : (rel : Rel) (g : Gap) (f : Ramp) → base f ≡ pos g.first → base_value f ≡ signed rel g.from
    → rise_in_run f ≡ signed rel g.to -ℤ signed rel g.from
    → run_time f ≡ g.second - g.first → (t : Rational) → finite (at (line f) t) ≈ᵉ finite (margin rel (at (along g) t))
margin_ramp rel g f a b c d t = finite_same (by_rel rel b c)
  where
    q : 0 < g.second - g.first
    q = sub-pos_iff_lt.1 g.rising

    plain : (v0 rise : ℤ) → base_value f ≡ v0 → rise_in_run f ≡ rise → at (line f) t ≈ at (ramp_line (pos g.first) v0 rise (g.second - g.first) q) t
    plain v0 rise b c = same_ramp q f.positive t a b c d

    turned : (v0 rise : ℤ) → base_value f ≡ v0 → rise_in_run f ≡ rise → v0 ≡ neg_ℤ g.from → rise ≡ neg_ℤ (g.to -ℤ g.from)
        → at (line f) t ≈ negate (at (along g) t)
    turned v0 rise b c e h = same_trans (plain v0 rise b c)
        (negated_ramp (pos g.first) g.from (g.to -ℤ g.from) q q t refl e h)

    by_rel : (rel : Rel) → base_value f ≡ signed rel g.from → rise_in_run f ≡ signed rel g.to -ℤ signed rel g.from → at (line f) t ≈ margin rel (at (along g) t)
    by_rel AtLeast b c = plain g.from (g.to -ℤ g.from) b c
    by_rel Above b c = plain g.from (g.to -ℤ g.from) b c
    by_rel AtMost b c = turned (neg_ℤ g.from) (neg_ℤ g.to -ℤ neg_ℤ g.from) b c refl (omega (arith, ints))
    by_rel Below b c = turned (neg_ℤ g.from) (neg_ℤ g.to -ℤ neg_ℤ g.from) b c refl (omega (arith, ints))

-- the size of the rise does not depend on the sign
pub rise_within : (rel : Rel) (e f : ℤ) (n : ℕ) → nat_abs (f -ℤ e) ≤ n → nat_abs (signed rel f -ℤ signed rel e) ≤ n
rise_within AtLeast e f n h = h
rise_within Above e f n h = h
rise_within AtMost e f n h = omega (arith, ints, h)
rise_within Below e f n h = omega (arith, ints, h)

-- nor does a margin's
pub signed_size : (rel : Rel) (n : ℤ) → nat_abs (signed rel n) ≡ nat_abs n
signed_size AtLeast n = refl
signed_size Above n = refl
signed_size AtMost n = omega (arith, ints)
signed_size Below n = omega (arith, ints)
