-- Whole numbers as they are written, read as fields of a trace.
use Rattle.std.proofs.Common.{◌≡◌, ℕ, suc, ◌*◌, ◌^◌, ◌<◌, ◌≤◌, ◌+◌, ◌-◌, ℤ, pos, negsuc, ◌∷◌, length, nat_abs, true, refl, sym, ap, subst, arith}
use Rattle.std.specs.Prelude.{decimal, nat_le}
use Rattle.std.specs.Fmt.{signed_decimal}
use Rattle.std.proofs.lemmas.Bool.{and_parts, and_from, le-leb}
use Rattle.std.proofs.lemmas.Fmt.{decimal_nonempty, digits_decimal, digits_value-decimal, length-decimal-le}
use Rattle.std.proofs.lemmas.Str.Parse.{IsNumeralModel, IsDigitsTest, numerals_by_fold}
use Rattle.stl_syntax.specs.Characters.{is_digit, all, decimal_value}
use Rattle.trace_reader.specs.Plain.{is_plain, IsTicks}
use Rattle.trace_reader.specs.FieldFaults.{IsFieldRead}
use Rattle.trace_reader.proofs.NumberLemmas.{digit_at}
use Rattle.trace_reader.proofs.PlainLemmas.{whole_ticks, value_read, minus_value_read, digits_plain, minus_plain}

digits_test : IsDigitsTest (λ ds. all is_digit ds ≡ true)
digits_test = record {
  empty = refl;
  parts = λ c cs h. (digit_at (c ∷ cs) 0 h (omega arith), (and_parts (is_digit c) (all is_digit cs) h).1);
  more = λ c cs k h. and_from (is_digit c) (all is_digit cs) (and_from (nat_le 48 c) (nat_le c 57) (le-leb 48 c k.0) (le-leb c 57 k.1)) h;
}

digits_model : IsNumeralModel (λ ds. all is_digit ds ≡ true) (decimal_value 0)
digits_model =
    numerals_by_fold (λ ds. all is_digit ds ≡ true) digits_test (λ n ds. decimal_value n ds)
    (record { empty = λ n. refl; more = λ n c cs k. ap (λ m. decimal_value m cs) (let e : 10 * n + (c - 48) ≡ n * 10 + (c - 48) = omega arith in e) })

-- the digits of a number are so many ticks
pub decimal_ticks : (n : ℕ) → n < 2 ^ 64 → IsTicks 0 0 (decimal n) n
decimal_ticks n h =
    let same : n * 10 ^ 0 ≡ n = omega arith in
    subst (IsTicks 0 0 (decimal n)) same
    (whole_ticks (decimal n) 0 0 n (decimal_nonempty n h) (digits_decimal digits_model n h) (sym (digits_value-decimal digits_model n h)))

-- they are plain
pub decimal_plain : (n : ℕ) → n < 2 ^ 64 → all is_plain (decimal n) ≡ true
decimal_plain n h = digits_plain (decimal n) (digits_decimal digits_model n h)

-- so are those of a number with a sign
pub signed_plain : (v : ℤ) → nat_abs v ≤ 16777216 → all is_plain (signed_decimal v) ≡ true
signed_plain (pos n) h = decimal_plain n (omega (arith, h))
signed_plain (negsuc n) h = minus_plain (decimal (suc n)) (decimal_plain (suc n) (omega (arith, h)))

-- which is read as a value
pub signed_read : (v : ℤ) (i : ℕ) → nat_abs v ≤ 16777216 → IsFieldRead 0 0 (negsuc 16777215) (pos 16777216) i (signed_decimal v) v
signed_read (pos n) i h = value_read (decimal n) 0 0 i n (decimal_ticks n (omega (arith, h))) (omega (arith, h))
signed_read (negsuc n) i h = minus_value_read (decimal (suc n)) 0 0 i (suc n) (decimal_ticks (suc n) (omega (arith, h))) (omega (arith, h))

-- and is short
pub signed_short : (v : ℤ) → nat_abs v ≤ 16777216 → length (signed_decimal v) ≤ 11
signed_short (pos n) h = let e = length-decimal-le 10 n (omega arith) (omega (arith, h)) (omega (arith, h)) in omega (arith, e)
signed_short (negsuc n) h = let e = length-decimal-le 10 (suc n) (omega arith) (omega (arith, h)) (omega (arith, h)) in omega (arith, e)
