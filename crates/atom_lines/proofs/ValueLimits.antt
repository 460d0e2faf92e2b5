-- Values within their limits, on gaps and at the ends of gaps.
use Rattle.std.proofs.Common.{◌≡◌, subst, ℤ, ◌<ℤ◌, pos, negsuc, nat_abs, ◌≤◌, ◌^◌, ◌⊎◌, inl, inr, Bool, true, false, arith}
use Rattle.std.proofs.lemmas.Int.{ints}
use Rattle.std.specs.declared.cmp.Ordering.TheVariants.{Less, Greater}
use Rattle.rational.specs.Time.{Rational, ◌≤ʳ◌, ◌<ʳ◌, ◌≈◌, whole}
use Rattle.rational.specs.Rational.{IsWithin}
use Rattle.rational.specs.Line.{at}
use Rattle.rational.specs.Extended.{affine, finite, ◌≈ᵉ◌}
use Rattle.rational.specs.Affine.{IsBounded}
use Rattle.rational.proofs.Order.{le_trans, le_of_same, ge_of_same, same_of_le, lt_of_lt_of_le, lt_of_le_of_lt}
use Rattle.rational.proofs.Shift.{lt_whole}
use Rattle.rational.proofs.Field.{le_negate}
use Rattle.rational.proofs.AffineLemmas.{lies_between, same_reflᵉ}
use Rattle.value_laws.specs.Values.{truth_value}
use Rattle.stl_syntax.specs.Truth.{compares}
use Rattle.stl_syntax.specs.SupInf.{margin}
use Rattle.stl_syntax.specs.declared.rel.Rel.{Rel}
use Rattle.stl_syntax.specs.declared.rel.Rel.TheVariants.{AtLeast, Above, AtMost, Below}
use Rattle.atom_lines.specs.declared.gap.Gap.{Gap}
use Rattle.atom_lines.specs.Gaps.{along, AreOfSign}
use Rattle.atom_lines.specs.How.{How, by_truth, by_margin, worth}
use Rattle.atom_lines.proofs.Crossings.{at_first, at_second}
use Rattle.atom_lines.proofs.Signs.{compare_alike}
use Rattle.rational.proofs.Mixed.{within_whole}

-- the number of a truth is small
pub truth_within : (b : Bool) → IsWithin (2 ^ 31) (whole (truth_value b))
truth_within true = let h : nat_abs (pos 1) ≤ 2 ^ 31 = omega (arith, ints) in within_whole (2 ^ 31) (pos 1) h
truth_within false = let h : nat_abs (negsuc 0) ≤ 2 ^ 31 = omega (arith, ints) in within_whole (2 ^ 31) (negsuc 0) h

turned_within : {y : Rational} → IsWithin (2 ^ 31) y → (rel : Rel) → IsWithin (2 ^ 31) (margin rel y)
turned_within h AtLeast = h
turned_within h Above = h
turned_within {y} h AtMost = (le_negate h.1, le_negate h.0)
turned_within {y} h Below = (le_negate h.1, le_negate h.0)

-- what an atom is worth is bounded where its sum is
pub worth_bounded : (read_as : How) (rel : Rel) (y : Rational) → IsWithin (2 ^ 31) y → IsBounded (2 ^ 31) (worth read_as rel y)
worth_bounded by_truth rel y h = truth_within (compares rel y)
worth_bounded by_margin rel y h = turned_within h rel

-- the sum stays within 2^31 between the ends of a gap
pub along_within : (g : Gap) (t : Rational) → whole (pos g.first) <ʳ t → t <ʳ whole (pos g.second) → IsWithin (2 ^ 31) (at (along g) t)
along_within g t a b = by_order (lies_between (affine (along g)) (whole (pos g.first)) t (whole (pos g.second)) a b)
  where
    from : IsWithin (2 ^ 31) (whole g.from)
    from = within_whole (2 ^ 31) g.from g.small_from

    to : IsWithin (2 ^ 31) (whole g.to)
    to = within_whole (2 ^ 31) g.to g.small_to

    by_order : ((at (along g) (whole (pos g.first)) ≤ʳ at (along g) t) × (at (along g) t ≤ʳ at (along g) (whole (pos g.second))))
        ⊎ ((at (along g) (whole (pos g.second)) ≤ʳ at (along g) t) × (at (along g) t ≤ʳ at (along g) (whole (pos g.first))))
        → IsWithin (2 ^ 31) (at (along g) t)
    by_order (inl h) = (le_trans from.0 (le_trans (ge_of_same (at_first g)) h.0), le_trans h.1 (le_trans (le_of_same (at_second g)) to.1))
    by_order (inr h) = (le_trans to.0 (le_trans (ge_of_same (at_second g)) h.0), le_trans h.1 (le_trans (le_of_same (at_first g)) from.1))

-- the sum that is the same at both rows is so between them
pub along_still : (g : Gap) (t : Rational) → g.to ≡ g.from → whole (pos g.first) <ʳ t → t <ʳ whole (pos g.second) → at (along g) t ≈ whole g.from
along_still g t e a b = by_order (lies_between (affine (along g)) (whole (pos g.first)) t (whole (pos g.second)) a b)
  where
    there : at (along g) (whole (pos g.second)) ≈ whole g.from
    there = subst (λ n. at (along g) (whole (pos g.second)) ≈ whole n) e (at_second g)

    by_order : ((at (along g) (whole (pos g.first)) ≤ʳ at (along g) t) × (at (along g) t ≤ʳ at (along g) (whole (pos g.second))))
        ⊎ ((at (along g) (whole (pos g.second)) ≤ʳ at (along g) t) × (at (along g) t ≤ʳ at (along g) (whole (pos g.first))))
        → at (along g) t ≈ whole g.from
    by_order (inl h) = same_of_le (le_trans h.1 (le_of_same there)) (le_trans (ge_of_same (at_first g)) h.0)
    by_order (inr h) = same_of_le (le_trans h.1 (le_of_same (at_first g))) (le_trans (ge_of_same there) h.0)

-- the sum that is above 0 at both rows is so between them
pub along_above : (g : Gap) (t : Rational) → pos 0 <ℤ g.from → pos 0 <ℤ g.to → whole (pos g.first) <ʳ t → t <ʳ whole (pos g.second)
    → whole (pos 0) <ʳ at (along g) t
along_above g t p q a b = by_order (lies_between (affine (along g)) (whole (pos g.first)) t (whole (pos g.second)) a b)
  where
    by_order : ((at (along g) (whole (pos g.first)) ≤ʳ at (along g) t) × (at (along g) t ≤ʳ at (along g) (whole (pos g.second))))
        ⊎ ((at (along g) (whole (pos g.second)) ≤ʳ at (along g) t) × (at (along g) t ≤ʳ at (along g) (whole (pos g.first))))
        → whole (pos 0) <ʳ at (along g) t
    by_order (inl h) = lt_of_lt_of_le (lt_whole p) (le_trans (ge_of_same (at_first g)) h.0)
    by_order (inr h) = lt_of_lt_of_le (lt_whole q) (le_trans (ge_of_same (at_second g)) h.0)

-- and likewise below 0
pub along_below : (g : Gap) (t : Rational) → g.from <ℤ pos 0 → g.to <ℤ pos 0 → whole (pos g.first) <ʳ t → t <ʳ whole (pos g.second)
    → at (along g) t <ʳ whole (pos 0)
along_below g t p q a b = by_order (lies_between (affine (along g)) (whole (pos g.first)) t (whole (pos g.second)) a b)
  where
    by_order : ((at (along g) (whole (pos g.first)) ≤ʳ at (along g) t) × (at (along g) t ≤ʳ at (along g) (whole (pos g.second))))
        ⊎ ((at (along g) (whole (pos g.second)) ≤ʳ at (along g) t) × (at (along g) t ≤ʳ at (along g) (whole (pos g.first))))
        → at (along g) t <ʳ whole (pos 0)
    by_order (inl h) = lt_of_le_of_lt (le_trans h.1 (le_of_same (at_second g))) (lt_whole q)
    by_order (inr h) = lt_of_le_of_lt (le_trans h.1 (le_of_same (at_first g))) (lt_whole p)

-- truths that are the same are worth the same
pub truths_alike : (rel : Rel) (y z : Rational) → compares rel y ≡ compares rel z → worth by_truth rel y ≈ᵉ worth by_truth rel z
truths_alike rel y z e = subst (λ b. worth by_truth rel y ≈ᵉ finite (whole (truth_value b))) e (same_reflᵉ (worth by_truth rel y))

-- a sum of one sign has one truth
pub one_sign : (g : Gap) (next : ℤ) (rel : Rel) → AreOfSign g next
    → (compares rel (whole g.from) ≡ compares rel (whole next))
    × ((t : Rational) → whole (pos g.first) <ʳ t → t <ʳ whole (pos g.second) → compares rel (at (along g) t) ≡ compares rel (whole next))
one_sign g next rel (inl h) = (
  compare_alike rel Greater (whole g.from) (whole next) (lt_whole h.0) (lt_whole h.2),
  λ t a b. compare_alike rel Greater (at (along g) t) (whole next) (along_above g t h.0 h.1 a b) (lt_whole h.2),
)
one_sign g next rel (inr h) = (
  compare_alike rel Less (whole g.from) (whole next) (lt_whole h.0) (lt_whole h.2),
  λ t a b. compare_alike rel Less (at (along g) t) (whole next) (along_below g t h.0 h.1 a b) (lt_whole h.2),
)
