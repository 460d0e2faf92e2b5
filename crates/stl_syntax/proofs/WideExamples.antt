-- A crossing at 1/2^60 is a cause of refusal where a least is taken; one at 1 / (2^60 - 1) is none: its denominator is stored.
use Rattle.std.proofs.Common.{◌≡◌, ℕ, ℤ, pos, negsuc, ◌*◌, ◌+◌, ◌^◌, ◌≤◌, inl, inr, refl, arith, lit<, lit≤, ◌∙◌}
use Rattle.std.proofs.Math.Nat.{le_of_mul-le-mul_right}
use Rattle.rational.specs.Rational.{ratio}
use Rattle.rational.specs.Time.{Rational, ◌≈◌, IsLowest, HasDenominator}
use Rattle.rational.specs.Extended.{Extended, Affine, affine, value_at, ◌≤ᵉ◌, ◌≈ᵉ◌}
use Rattle.rational.proofs.ExtendedLemmas.{le_reflᵉ}
use Rattle.rational.proofs.Order.{same_trans, same_sym}
use Rattle.rational.specs.InPlay.{of_two, IsPart, IsInPlay, IsWideCrossing}
use Rattle.stl_syntax.proofs.Examples.{at_time}
use Rattle.stl_syntax.proofs.InstantExamples.{one_divisor}

-- 2^60 t - 1, and 0
abbrev pub steep : Affine
steep = affine (record { base_up = 0; base_down = 1; rise_up = 2 ^ 60; rise_down = 0; run = 1; positive = lit< tt })

abbrev pub level : Affine
level = affine (record { base_up = 0; base_down = 0; rise_up = 0; rise_down = 0; run = 1; positive = lit< tt })

pub meets_there : (t : Rational) → value_at steep t ≤ᵉ value_at level t → value_at level t ≤ᵉ value_at steep t → t ≈ ratio (pos 1) (2 ^ 60) (lit< tt)
meets_there t h k =
    let a : (2 ^ 60 * t.up) * t.den ≤ (t.den + 2 ^ 60 * t.down) * t.den = let e = h.le in omega arith in
    let b : (t.den + 2 ^ 60 * t.down) * t.den ≤ (2 ^ 60 * t.up) * t.den = let e = k.le in omega arith in
    let a' : 2 ^ 60 * t.up ≤ t.den + 2 ^ 60 * t.down = le_of_mul-le-mul_right a t.positive in
    let b' : t.den + 2 ^ 60 * t.down ≤ 2 ^ 60 * t.up = le_of_mul-le-mul_right b t.positive in
    record { same = omega arith }

-- they meet at 1/2^60 alone, which is a cause of refusal where a least is taken
wide : IsWideCrossing (IsInPlay (of_two (λ t v. v ≈ᵉ value_at steep t) (λ t v. v ≈ᵉ value_at level t)) (at_time 0) (at_time 1))
    (at_time 0) (at_time 1) steep level (at_time 0) (at_time 1) (2 ^ 60)
wide = record {
  tau = ratio (pos 1) (2 ^ 60) (lit< tt);
  after_start = omega arith;
  before_stop = omega arith;
  above = omega arith;
  below = omega arith;
  first = inl (itself steep);
  second = inr (itself level);
  meet = record { at_most = omega arith; at_least = omega arith };
  alone = λ t e. meets_there t e.at_most e.at_least;
  denominator = (pos 1, record { positive = lit< tt; coprime = λ k a b. one_divisor k a }, record { same = refl });
  wide = lit≤ tt;
}
  where
    same : (v : Extended) → v ≈ᵉ v
    same v = record { at_most = le_reflᵉ v; at_least = le_reflᵉ v }

    itself : (p : Affine) → IsPart (λ t v. v ≈ᵉ value_at p t) (ratio (pos 1) (2 ^ 60) (lit< tt)) p
    itself p = record {
      a = at_time 0;
      b = at_time 1;
      above = omega arith;
      below = omega arith;
      on = λ t h k. (value_at p t, same (value_at p t), same (value_at p t));
    }

-- 2^60 - 1
abbrev most : ℕ
most = 1152921504606846975

-- (2^60 - 1) t - 1
abbrev less_steep : Affine
less_steep = affine (record { base_up = 0; base_down = 1; rise_up = most; rise_down = 0; run = 1; positive = lit< tt })

abbrev meeting : Rational
meeting = ratio (pos 1) most (lit< tt)

meets_stored : (t : Rational) → value_at less_steep t ≤ᵉ value_at level t → value_at level t ≤ᵉ value_at less_steep t → t ≈ meeting
meets_stored t h k =
    let a : (most * t.up) * t.den ≤ (t.den + most * t.down) * t.den = let e = h.le in omega arith in
    let b : (t.den + most * t.down) * t.den ≤ (most * t.up) * t.den = let e = k.le in omega arith in
    let a' : most * t.up ≤ t.den + most * t.down = le_of_mul-le-mul_right a t.positive in
    let b' : t.den + most * t.down ≤ most * t.up = le_of_mul-le-mul_right b t.positive in
    record { same = omega arith }

-- the denominator of 1 / (2^60 - 1) is that one
only_most : (num : ℤ) (den : ℕ) (low : IsLowest num den) → meeting ≈ ratio num den low.positive → den ≡ most
only_most (pos n) den low e =
    let all : den ≡ n * most = let s = e.same in omega (arith, s) in
    let one : n ≡ 1 = low.coprime n (1, omega arith) (most, all) in
    all ∙ rw one refl
only_most (negsuc n) den low e = absurd (let s = e.same in let p = low.positive in omega (arith, s, p))

not_wide : (InPlay : Rational → Affine → Type 0) (den : ℕ) → ¬ IsWideCrossing InPlay (at_time 0) (at_time 1) less_steep level (at_time 0) (at_time 1) den
not_wide InPlay den h = by_denominator h.denominator
  where
    by_denominator : HasDenominator h.tau den → ⊥
    by_denominator (num, low, s) =
        let e : den ≡ most = only_most num den low (same_trans (same_sym (meets_stored h.tau h.meet.at_most h.meet.at_least)) s) in
        let w = h.wide in omega (arith, e, w)
