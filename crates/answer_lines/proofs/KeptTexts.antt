-- The text of a time that is kept from one line to the next.
use Rattle.std.proofs.Common.{◌≡◌, ℕ, ℤ, pos, negsuc, ◌+◌, ◌-◌, ◌*◌, ◌*ℤ◌, ◌<◌, ◌≤◌, decimal, true, false, List, []}
use Rattle.std.proofs.Common.{◌∷◌, length, take, drop, length-append, length-drop, refl, sym, ap, ◌∙◌, arith}
use Rattle.std.specs.declared.cmp.Ordering.{Ordering}
use Rattle.std.specs.declared.cmp.Ordering.TheVariants.{Less, Equal, Greater}
use Rattle.std.specs.Ordering.{is_eq}
use Rattle.std.proofs.Math.Seq.{take-append_seam}
use Rattle.std.proofs.lemmas.Fmt.{decimal_digit}
use Rattle.std.proofs.lemmas.Int.{ints}
use Rattle.rational.specs.Rational.{Rational, ◌≈◌, IsOrder, rational_cmp, mixed, ratio, whole}
use Rattle.rational.specs.Extended.{Extended, minus_infinity, finite, infinity, ◌≈ᵉ◌}
use Rattle.rational.specs.Affine.{IsOrderᵉ}
use Rattle.rational.proofs.AffineLemmas.{same_of_finite}
use Rattle.rational.proofs.Mixed.{mul_parts}
use Rattle.rational.proofs.Lowest.{lowest_whole}
use Rattle.rational.proofs.Order.{same_sym, same_trans}
use Rattle.rational.proofs.Compare.{order_from_cmp}
use Rattle.stl_syntax.specs.Texts.{IsNumberText, IsValueText}
use Rattle.answer_lines.specs.Before.{IsPut}

-- a time that is the same has the same text
pub number_of_same : (digits : ℕ) (t u : Rational) (text : List ℕ) → t ≈ u → IsNumberText digits t text → IsNumberText digits u text
number_of_same digits t u text e h = record { num = h.num; den = h.den; lowest = h.lowest; same = same_trans (same_sym e) h.same; is = h.is }

-- how long the word is that was put
pub put_length : {w : List ℕ} {k : ℕ} {old new : List ℕ} {end at : ℕ} → IsPut w k old end new at → end ≤ length old → length w + at ≡ end
put_length {w} {k} {old} {new} {end} {at} p h =
    omega (arith, ap length p.put, length-drop at new, length-drop end old, length-append w (drop end old), p.same, p.inside)

-- the word is what stands there
pub stands : {w : List ℕ} {k : ℕ} {old new : List ℕ} {end at : ℕ} → IsPut w k old end new at → end ≤ length old → take (end - at) (drop at new) ≡ w
stands {w} {k} {old} {new} {end} {at} p h =
    let n : end - at ≡ length w = omega (arith, put_length p h) in
    ap (λ i. take i (drop at new)) n ∙ ap (take (length w)) p.put ∙ take-append_seam w (drop end old)

-- two numbers that compare as equal are the same
pub same_of_cmp : (a b : Rational) → is_eq (rational_cmp a b) ≡ true → a ≈ b
same_of_cmp a b e = by_order (rational_cmp a b) (order_from_cmp (rational_cmp a b) a b refl) e
  where
    by_order : (o : Ordering) → IsOrder o a b → is_eq o ≡ true → a ≈ b
    by_order Less h e = absurd (let x : false ≡ true = e in cc)
    by_order Equal h e = h
    by_order Greater h e = absurd (let x : false ≡ true = e in cc)

-- and so are two values
pub same_of_order : (o : Ordering) (v w : Extended) → IsOrderᵉ o v w → is_eq o ≡ true → v ≈ᵉ w
same_of_order Less v w h e = absurd (let x : false ≡ true = e in cc)
same_of_order Equal v w h e = h
same_of_order Greater v w h e = absurd (let x : false ≡ true = e in cc)

-- a value that is the same has the same text
pub value_of_same : (digits : ℕ) (v w : Extended) (text : List ℕ) → v ≈ᵉ w → IsValueText digits v text → IsValueText digits w text
value_of_same digits minus_infinity minus_infinity text e h = h
value_of_same digits (finite v) minus_infinity text e h = absurd e.at_most
value_of_same digits (finite v) (finite w) text e h = number_of_same digits v w text (same_of_finite e) h
value_of_same digits infinity minus_infinity text e h = absurd e.at_most
value_of_same digits infinity (finite w) text e h = absurd e.at_most
value_of_same digits infinity infinity text e h = h
value_of_same digits _ _ text e h = absurd e.at_least

-- a whole number that is not below 0, in ticks that are units
whole_one : (w : ℤ) (r d : ℕ) (p : 0 < d) (n : ℕ) → w ≡ pos n → r < d → d ≡ 1 → mixed w r d p ≈ ratio (pos n *ℤ pos 1) 1 (lowest_whole (pos n)).positive
whole_one (pos v) r d p n e l one =
    let same : v ≡ n = omega (arith, ints, e) in
    record { same = omega (arith, l, one, same, ap (λ x. x * d) same, ap (λ x. n * x) one, ap (λ x. r * x) one, mul_parts (pos n) (pos 1)) }
whole_one (negsuc v) r d p n e l one = absurd (omega (arith, ints, e))

-- the text of a whole number is that of its digits
pub whole_text : (w : ℤ) (r d : ℕ) (p : 0 < d) (n : ℕ) → w ≡ pos n → r < d → d ≡ 1 → IsNumberText 0 (mixed w r d p) (decimal n)
whole_text w r d p n e l one = record { num = pos n; den = 1; lowest = lowest_whole (pos n); same = whole_one w r d p n e l one; is = refl }

-- the time 0
pub zero_text : (t : Rational) → t ≈ whole (pos 0) → IsNumberText 0 t (48 ∷ [])
zero_text t e = record {
  num = pos 0;
  den = 1;
  lowest = lowest_whole (pos 0);
  same = same_trans e (record { same = omega arith });
  is = sym (decimal_digit 0 (omega arith));
}
