-- Each number has one `Frac`.
use Rattle.std.proofs.Common.{ℕ, ◌+◌, ◌<◌, arith, unsigned_abs, lt_of_mul-lt-mul_right, pos, neg_ℤ, ◌≤ℤ◌, ◌<ℤ◌, ◌≡◌, ◌*◌}
use Rattle.std.proofs.Common.{◌≤◌, ◌^◌, ap, sym, refl, ◌∙◌, Bool, true, false, Result, Ok, Err, IfOk, MatchResult}
use Rattle.std.specs.declared.cmp.Ordering.{Ordering}
use Rattle.std.specs.declared.cmp.Ordering.TheVariants.{Less, Equal, Greater}
use Rattle.std.specs.Ordering.{on, eq_by_cmp, is_eq}
use Rattle.std.proofs.Math.Nat.{eq_of_mul-eq-mul_right}
use Rattle.rational.specs.Rational.{Rational, part_above, part_below, ◌≈◌, IsOrder, IsWithin, rational_cmp}
use Rattle.rational.proofs.Order.{same_sym, same_trans}
use Rattle.rational.specs.Time.{HasDenominator}
use Rattle.rational.proofs.Mixed.{one_whole, one_rest, same_by_rest, mixed_within, neg_parts, parts}
use Rattle.rational.proofs.Compare.{cmp_from_order, order_from_cmp}
use Rattle.rational.proofs.Lowest.{denominator_of_mixed, denominator_same, denominator_unique}
use Rattle.frac128.specs.declared.frac.Frac.{Frac}
use Rattle.frac128.specs.declared.frac.WideFrac.{WideFrac}
use Rattle.frac128.specs.Lowest.{IsWide}
use Rattle.frac128.specs.Value.{value, whole_part, rest_part, denominator}

-- the denominator of a `Frac` is the one in lowest terms
pub HasDenominator-value : (f : Frac) → HasDenominator (value f) (denominator f)
HasDenominator-value f = denominator_of_mixed f.whole f.rest f.den f.positive f.lowest

-- two fractions of one value are one
pub one_fraction : (f g : Frac) → value f ≈ value g → (whole_part f ≡ whole_part g) × (rest_part f ≡ rest_part g) × (denominator f ≡ denominator g)
one_fraction f g h =
    let w = one_whole f.whole g.whole f.rest f.den g.rest g.den f.positive g.positive f.below g.below h in
    let r = one_rest f.whole g.whole f.rest f.den g.rest g.den f.positive g.positive w h in
    let d = denominator_unique f.den g.den h (HasDenominator-value f) (HasDenominator-value g) in
    (w, eq_of_mul-eq-mul_right g.den g.positive f.rest g.rest (r ∙ ap (λ n. g.rest * n) d), d)

-- an answer for one pair is an answer for each pair of the number
pub ok_same : (r : Result Frac WideFrac) {a b : Rational} → a ≈ b → IfOk r (λ f. value f ≈ a) → IfOk r (λ f. value f ≈ b)
ok_same (Ok f) e h = same_trans h e
ok_same (Err w) e h = tt

-- so for a refusal
pub wide_same : (r : Result Frac WideFrac) {a b : Rational} → a ≈ b → MatchResult r (λ _. ¬ (IsWide a))
    (λ w. HasDenominator a w.den × (2 ^ 60 ≤ w.den)) → MatchResult r (λ _. ¬ (IsWide b)) (λ w. HasDenominator b w.den × (2 ^ 60 ≤ w.den))
wide_same (Ok f) e h = λ w. h (w.0, denominator_same w.0 (same_sym e) w.1, w.2)
wide_same (Err w) e h = (denominator_same w.den e h.0, h.1)

same_value : (f g : Frac) → (whole_part f ≡ whole_part g) × (rest_part f ≡ rest_part g) × (denominator f ≡ denominator g) → value f ≈ value g
same_value f g h = same_by_rest f.whole g.whole f.rest f.den g.rest g.den f.positive g.positive h.0 (ap (λ n. n * g.den) h.1 ∙ ap (λ n. g.rest * n) (sym h.2))

-- whether two fractions are equal is whether their fields are
pub eq_is : (f g : Frac) (b : Bool) → (b ≡ true → (whole_part f ≡ whole_part g) × (rest_part f ≡ rest_part g) × (denominator f ≡ denominator g))
    → ((whole_part f ≡ whole_part g) × (rest_part f ≡ rest_part g) × (denominator f ≡ denominator g) → b ≡ true)
    → b ≡ eq_by_cmp (on value rational_cmp) f g
eq_is f g true h k = ap is_eq (cmp_from_order Equal (value f) (value g) (same_value f g (h refl)))
eq_is f g false h k = not_equal (rational_cmp (value f) (value g)) (order_from_cmp (rational_cmp (value f) (value g)) (value f) (value g) refl)
  where
    not_equal : (o : Ordering) → IsOrder o (value f) (value g) → false ≡ is_eq o
    not_equal Less e = refl
    not_equal Equal e = k (one_fraction f g e)
    not_equal Greater e = refl

-- a fraction whose whole part is small enough is within n
pub within_of_whole : (n : ℕ) (f : Frac) → neg_ℤ (pos n) ≤ℤ whole_part f → whole_part f <ℤ pos n → IsWithin n (value f)
within_of_whole n f low high = mixed_within n f.whole f.rest f.den f.positive f.below low high

-- and the other way round
pub whole_of_within : (n : ℕ) (t : Frac) → IsWithin n (value t) → unsigned_abs t.whole ≤ n
whole_of_within n t h =
    let low : part_below t.whole < part_above t.whole + n + 1 =
    lt_of_mul-lt-mul_right t.den (let l = h.0.le in let b = t.below in omega (arith, ap (λ x. x * t.den) (neg_parts n))) in
    let high : part_above t.whole < part_below t.whole + n + 1 = lt_of_mul-lt-mul_right t.den (let l = h.1.le in let p = t.positive in omega arith) in
    omega (arith, parts)
