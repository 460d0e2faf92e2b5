-- The texts of numbers in smaller ticks.
use Rattle.std.proofs.Common.{◌≡◌, ℕ, ◌+◌, ◌*◌, ◌^◌, ◌<◌, sym, subst, arith, List, ℤ, pos}
use Rattle.std.specs.Prelude.{◌*ℤ◌}
use Rattle.std.proofs.lemmas.Nat.{pow-add}
use Rattle.rational.specs.Rational.{part_above, part_below}
use Rattle.rational.specs.Time.{Rational, ◌≈◌, ratio}
use Rattle.rational.specs.Extended.{Extended, minus_infinity, finite, infinity}
use Rattle.rational.proofs.Order.{same_sym, same_trans}
use Rattle.stl_syntax.specs.Texts.{IsNumberText, IsValueText}
use Rattle.answer_lines.proofs.KeptTexts.{number_of_same}
use Rattle.bounds.proofs.NearTimes.{ahead}
use Rattle.unit_laws.proofs.Multiples.{stretch, shrink, stretch_same, same_back, stretch-shrink, above_of, below_of}
use Rattle.unit_laws.proofs.Clocks.{clock, unclock}
use Rattle.unit_laws.proofs.FinerValues.{stretchᵉ, shrinkᵉ}

crossed : {u v u' v' : ℕ} (x y D K den : ℕ) → u ≡ x * (D * K) → v ≡ y * (D * K) → u' ≡ x * D → v' ≡ y * D
    → u * den + K * v' * den ≡ K * u' * den + v * den
crossed x y D K den a b c d = rw (a, b, c, d) (omega arith)

-- a number of units in smaller ticks
ratio_by : (num : ℤ) (den : ℕ) (p : 0 < den) (D K : ℕ) → ratio (num *ℤ pos (D * K)) den p ≈ stretch K (ratio (num *ℤ pos D) den p)
ratio_by num den p D K =
    record { same = crossed (part_above num) (part_below num) D K den (above_of num (D * K)) (below_of num (D * K)) (above_of num D) (below_of num D) }

-- a number's text is that of the number in smaller ticks
pub number_text_by : (digits k : ℕ) (t : Rational) (text : List ℕ) → IsNumberText digits t text → IsNumberText (digits + k) (stretch (10 ^ k) t) text
number_text_by digits k t text h = record {
  num = h.num;
  den = h.den;
  lowest = h.lowest;
  same = subst (λ x. stretch (10 ^ k) t ≈ ratio (h.num *ℤ pos x) h.den h.lowest.positive) (sym (pow-add 10 digits k))
      (same_trans (stretch_same (10 ^ k) h.same) (same_sym (ratio_by h.num h.den h.lowest.positive (10 ^ digits) (10 ^ k))));
  is = h.is;
}

-- a number's text in smaller ticks is that of its part in the larger ones
pub number_text_back : (digits k : ℕ) (p : 0 < 10 ^ k) (t : Rational) (text : List ℕ) → IsNumberText (digits + k) t text
    → IsNumberText digits (shrink (10 ^ k) p t) text
number_text_back digits k p t text h = record {
  num = h.num;
  den = h.den;
  lowest = h.lowest;
  same =
      let e = subst (λ x. t ≈ ratio (h.num *ℤ pos x) h.den h.lowest.positive) (pow-add 10 digits k) h.same in
      same_back (10 ^ k) p (same_trans (stretch-shrink (10 ^ k) p t) (same_trans e (ratio_by h.num h.den h.lowest.positive (10 ^ digits) (10 ^ k))));
  is = h.is;
}

-- a value's text is that of M times it in smaller ticks
pub value_text_by : (digits m : ℕ) (v : Extended) (text : List ℕ) → IsValueText digits v text → IsValueText (digits + m) (stretchᵉ (10 ^ m) v) text
value_text_by digits m minus_infinity text h = h
value_text_by digits m (finite x) text h = number_text_by digits m x text h
value_text_by digits m infinity text h = h

-- the text of a value in smaller ticks is that of its part in the larger ones
pub value_text_back : (digits m : ℕ) (p : 0 < 10 ^ m) (v : Extended) (text : List ℕ) → IsValueText (digits + m) v text
    → IsValueText digits (shrinkᵉ (10 ^ m) p v) text
value_text_back digits m p minus_infinity text h = h
value_text_back digits m p (finite x) text h = number_text_back digits m p x text h
value_text_back digits m p infinity text h = h

-- K times a time is shown by a clock that shows 0 at 0
pub clock_zero : (K : ℕ) (t : Rational) → stretch K t ≈ clock K (ahead 0) t
clock_zero K t = record { same = omega arith }

unclock_zero : (K : ℕ) (p : 0 < K) (t : Rational) → shrink K p t ≈ unclock K (ahead 0) p t
unclock_zero K p t = record { same = omega arith }

-- so is that of a time by a clock that shows 0 at 0
pub time_text_by : (digits k : ℕ) (t : Rational) (text : List ℕ) → IsNumberText digits t text → IsNumberText (digits + k) (clock (10 ^ k) (ahead 0) t) text
time_text_by digits k t text h =
    number_of_same (digits + k) (stretch (10 ^ k) t) (clock (10 ^ k) (ahead 0) t) text (clock_zero (10 ^ k) t) (number_text_by digits k t text h)

-- and back
pub time_text_back : (digits k : ℕ) (p : 0 < 10 ^ k) (t : Rational) (text : List ℕ) → IsNumberText (digits + k) t text
    → IsNumberText digits (unclock (10 ^ k) (ahead 0) p t) text
time_text_back digits k p t text h =
    number_of_same digits (shrink (10 ^ k) p t) (unclock (10 ^ k) (ahead 0) p t) text (unclock_zero (10 ^ k) p t) (number_text_back digits k p t text h)
