-- The place of the lowest mark, and the digits before it.
use Rattle.std.proofs.Common.{◌≡◌, ℕ, ◌+◌, ◌-◌, ◌*◌, ◌/◌, ◌%◌, ◌^◌, ◌<◌, ◌≤◌, List, length, map, refl, sym, ap, ◌∙◌, arith, ◌⊎◌, inl, inr}
use Rattle.std.specs.Int.{bit_at, trailing_zeros, w64}
use Rattle.std.specs.Int.Bits.{bit_and}
use Rattle.std.specs.Int.Count.{count_trailing_zeros, trailing_of_zero}
use Rattle.std.proofs.lemmas.Bool.{cases_order}
use Rattle.std.proofs.lemmas.Nat.{pow_pos}
use Rattle.std.proofs.lemmas.Nat.Bits.{bit_at-trailing_zeros, bit_at_cat_low, bit_at_cat_high, bit_at-zero, bit_at_lowest, and_high}
use Rattle.trace_reader.specs.Words.{Below, IsMarked, IsCount}
use Rattle.trace_reader.proofs.DigitBytes.{bare, all_told, stops_told}
use Rattle.std.proofs.lemmas.List.{length-map}

-- an odd number of times 2^j has j zeros at its end
lowest : (n j r : ℕ) → n ≡ (2 * r + 1) * 2 ^ j → 0 < n → n < 2 ^ 64 → count_trailing_zeros 64 n ≡ j
lowest n j r is some fits = by_order (cases_order (trailing_zeros w64 n) j)
  where
    set : bit_at n j ≡ 1
    set =
        let a : bit_at ((2 * r + 1) * 2 ^ j + 0) j ≡ bit_at (2 * r + 1) (j - j) = bit_at_cat_high (2 * r + 1) j 0 j (pow_pos j) (omega arith) in
        let b : n ≡ (2 * r + 1) * 2 ^ j + 0 = omega (arith, is) in
        let z : j - j ≡ 0 = omega arith in
        ap (λ x. bit_at x j) b ∙ a ∙ ap (bit_at (2 * r + 1)) z ∙ bit_at_lowest (2 * r + 1) ∙ omega arith

    unset : (i : ℕ) → i < j → bit_at n i ≡ 0
    unset i l =
        let a : bit_at ((2 * r + 1) * 2 ^ j + 0) i ≡ bit_at 0 i = bit_at_cat_low (2 * r + 1) j 0 i l in
        let b : n ≡ (2 * r + 1) * 2 ^ j + 0 = omega (arith, is) in
        ap (λ x. bit_at x i) b ∙ a ∙ bit_at-zero i

    by_order : (trailing_zeros w64 n ≡ j) ⊎ ((trailing_zeros w64 n < j) ⊎ (j < trailing_zeros w64 n)) → count_trailing_zeros 64 n ≡ j
    by_order (inl e) = e
    by_order (inr (inl less)) =
        let h = (bit_at-trailing_zeros w64 n some fits).1 in
        absurd (omega (arith, h, unset (trailing_zeros w64 n) less))
    by_order (inr (inr more)) =
        let h = (bit_at-trailing_zeros w64 n some fits).2 in
        absurd (omega (arith, h j more, set))

-- the bits before the lowest mark, in whole bytes
abbrev pub bits_of : ℕ → ℕ
bits_of marks = bit_and (count_trailing_zeros 64 marks) 120

whole_bytes : (t : ℕ) → t ≤ 64 → bit_and t 120 ≡ t / 8 * 8
whole_bytes t l = let h : bit_and t 120 ≡ (t / 8 % 16) * 8 = and_high t 4 3 in omega (arith, h)

-- below a mark there are so many bits
bits_below : (marks n r : ℕ) → n < 8 → marks ≡ (2 * r + 1) * 2 ^ (8 * n + 7) → marks < 2 ^ 64 → bits_of marks ≡ 8 * n
bits_below marks n r l is fits =
    let p : 0 < 2 ^ (8 * n + 7) = pow_pos (8 * n + 7) in
    let q : (2 * r + 1) * 2 ^ (8 * n + 7) ≡ 2 * r * 2 ^ (8 * n + 7) + 2 ^ (8 * n + 7) = omega arith in
    let some : 0 < marks = omega (arith, is, p, q) in
    let t : count_trailing_zeros 64 marks ≡ 8 * n + 7 = lowest marks (8 * n + 7) r is some fits in
    ap (λ x. bit_and x 120) t ∙ whole_bytes (8 * n + 7) (omega (arith, l)) ∙ omega arith

-- the bytes before the lowest mark are the digits that the text begins with
count_of : (text : List ℕ) (marks n : ℕ) → Below 256 text → IsMarked (map bare text) marks n → IsCount text n
count_of text marks n b m = record {
  within = omega (arith, m.within, length-map text bare);
  digits = sym (all_told n text b) ∙ m.worths;
  stops = stops_told n text b m.stops;
}

-- of eight bytes, so many are digits before the first that is none
pub record IsRun (text : List ℕ) (bits : ℕ) : Type 0 where
  pub n : ℕ
  pub bytes : bits ≡ 8 * n
  pub count : IsCount text n
  pub short : n ≤ 8

pub run_of : (text : List ℕ) (marks n : ℕ) → length text ≡ 8 → Below 256 text → IsMarked (map bare text) marks n → marks < 2 ^ 64 → IsRun text (bits_of marks)
run_of text marks n l b m fits = record {
  n = n;
  bytes = place_bits m.place;
  count = count_of text marks n b m;
  short = omega (arith, m.within, length-map text bare, l);
}
  where
    place_bits : ((n ≡ length (map bare text)) × (marks ≡ 0)) ⊎ ((n < length (map bare text)) × ((r : ℕ) × (marks ≡ (2 * r + 1) * 2 ^ (8 * n + 7))))
        → bits_of marks ≡ 8 * n
    place_bits (inl h) =
        let t : count_trailing_zeros 64 marks ≡ 64 = ap (count_trailing_zeros 64) h.1 ∙ trailing_of_zero 64 in
        let w : bit_and 64 120 ≡ 64 = refl in
        ap (λ x. bit_and x 120) t ∙ omega (arith, w, h.0, l, length-map text bare)
    place_bits (inr h) = bits_below marks n h.1.0 (omega (arith, h.0, l, length-map text bare)) h.1.1 fits

-- of four bytes, so many are digits before one that is none
pub record IsShortRun (text : List ℕ) (bits : ℕ) : Type 0 where
  pub n : ℕ
  pub bytes : bits ≡ 8 * n
  pub count : IsCount text n
  pub short : n < 4

-- which the bits before the lowest mark count
pub short_run_of : (text : List ℕ) (marks n : ℕ) → length text ≡ 4 → Below 256 text → IsMarked (map bare text) marks n → (marks ≡ 0 → ⊥) → marks < 2 ^ 64
    → IsShortRun text (bits_of marks)
short_run_of text marks n l b m some fits = by_place m.place
  where
    by_place : ((n ≡ length (map bare text)) × (marks ≡ 0)) ⊎ ((n < length (map bare text)) × ((r : ℕ) × (marks ≡ (2 * r + 1) * 2 ^ (8 * n + 7))))
        → IsShortRun text (bits_of marks)
    by_place (inl h) = absurd (some h.1)
    by_place (inr h) =
        let few : n < 4 = omega (arith, h.0, l, length-map text bare) in
        record { n = n; bytes = bits_below marks n h.1.0 (omega (arith, few)) h.1.1 fits; count = count_of text marks n b m; short = few }
