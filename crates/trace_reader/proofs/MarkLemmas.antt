-- The lowest byte above 9 has the lowest mark: the bytes below it carry nothing into the next.
use Rattle.std.proofs.Common.{◌≡◌, ℕ, suc, ◌+◌, ◌*◌, ◌/◌, ◌%◌, ◌^◌, ◌<◌, ◌≤◌, Bool, true, false, List, [], ◌∷◌, length}
use Rattle.std.proofs.Common.{take, refl, sym, ap, ◌∙◌, arith, ◌⊎◌, inl, inr}
use Rattle.std.specs.Prelude.{replicate, ◌==◌, ◌||◌, not}
use Rattle.std.specs.Int.Bits.{bit_and, bit_or, and_block, or_block, and_mod, or_mod}
use Rattle.std.proofs.lemmas.Nat.{and_le_r, or_lt, pow-add}
use Rattle.std.proofs.lemmas.Bool.{eqb-true, cases_Bool, and_from}
use Rattle.std.proofs.Math.Nat.{mul_assoc}
use Rattle.stl_syntax.specs.Characters.{all}
use Rattle.trace_reader.specs.Words.{word_of, Below, is_worth, IsMarked}
use Rattle.trace_reader.proofs.ByteTables.{upto, upto_is}

-- 118 at each of n bytes, and 128
abbrev all_118 : ℕ → ℕ
all_118 n = word_of (replicate n 118)

abbrev all_128 : ℕ → ℕ
all_128 n = word_of (replicate n 128)

-- the mark of one byte, where the byte below it carries nothing
abbrev mark : ℕ → ℕ
mark d = bit_and (bit_or d ((d + 118) % 256)) 128

unmarked : ℕ → Bool
unmarked d = not (is_worth d) || (mark d == 0)

above : ℕ → Bool
above d = is_worth d || (mark d == 128)

worth_unmarked : (d : ℕ) → d < 256 → is_worth d ≡ true → mark d ≡ 0
unfolding upto unmarked
worth_unmarked d l h =
    let t : (not (is_worth d) || (mark d == 0)) ≡ true = upto_is unmarked 256 d refl l in
    let u : (mark d == 0) ≡ true = rw h at t in
    eqb-true (mark d) 0 u

other_marked : (d : ℕ) → d < 256 → is_worth d ≡ false → mark d ≡ 128
unfolding upto above
other_marked d l h =
    let t : (is_worth d || (mark d == 128)) ≡ true = upto_is above 256 d refl l in
    let u : (mark d == 128) ≡ true = rw h at t in
    eqb-true (mark d) 128 u

-- the lowest byte and the rest of the marks: w is the rest of the word, and t what was added to it with the carry
step : (d s w t m : ℕ) → d < 256 → s < 256
    → bit_and (bit_or (d + 256 * w) (s + 256 * t)) (128 + 256 * m) ≡ bit_and (bit_or d s) 128 + 256 * bit_and (bit_or w t) m
step d s w t m l k =
    let a : d + 256 * w ≡ w * 2 ^ 8 + d = omega arith in
    let b : s + 256 * t ≡ t * 2 ^ 8 + s = omega arith in
    let e : 128 + 256 * m ≡ m * 2 ^ 8 + 128 = omega arith in
    let o : bit_or (w * 2 ^ 8 + d) (t * 2 ^ 8 + s) ≡ bit_or w t * 2 ^ 8 + bit_or d s = or_block 8 w t d s l k in
    let f : bit_or d s < 2 ^ 8 = or_lt 8 d s l k in
    let n : bit_and (bit_or w t * 2 ^ 8 + bit_or d s) (m * 2 ^ 8 + 128) ≡ bit_and (bit_or w t) m * 2 ^ 8 + bit_and (bit_or d s) 128
    = and_block 8 (bit_or w t) m (bit_or d s) 128 f (omega arith) in
    rw (a, b, e, o) (n ∙ omega arith)

-- the marks of a word with these bytes, with no end to the carries
abbrev marks_of : List ℕ → ℕ
marks_of ds = bit_and (bit_or (word_of ds) (word_of ds + all_118 (length ds))) (all_128 (length ds))

more_place : (n l m : ℕ) → ((n ≡ l) × (m ≡ 0)) ⊎ ((n < l) × ((r : ℕ) × (m ≡ (2 * r + 1) * 2 ^ (8 * n + 7))))
    → ((suc n ≡ suc l) × (0 + 256 * m ≡ 0)) ⊎ ((suc n < suc l) × ((r : ℕ) × (0 + 256 * m ≡ (2 * r + 1) * 2 ^ (8 * suc n + 7))))
more_place n l m (inl h) = inl (ap suc h.0, omega (arith, h.1))
more_place n l m (inr h) =
    let r = h.1.0 in
    let e : 8 * suc n + 7 ≡ (8 * n + 7) + 8 = omega arith in
    let p : 2 ^ (8 * suc n + 7) ≡ 2 ^ (8 * n + 7) * 256 = ap (λ k. 2 ^ k) e ∙ pow-add 2 (8 * n + 7) 8 in
    let q : (2 * r + 1) * 2 ^ (8 * suc n + 7) ≡ (2 * r + 1) * 2 ^ (8 * n + 7) * 256
    = ap (λ x. (2 * r + 1) * x) p ∙ sym (mul_assoc (2 * r + 1) (2 ^ (8 * n + 7)) 256) in
    inr (omega (arith, h.0), (r, omega (arith, h.1.1, q)))

-- a byte of at most 9 carries nothing
worth_step : (d : ℕ) (ds : List ℕ) → d < 256 → is_worth d ≡ true → marks_of (d ∷ ds) ≡ 0 + 256 * marks_of ds
worth_step d ds l h =
    let small : d ≤ 9 = grind (arith, h) in
    let w = word_of ds in
    let k = all_118 (length ds) in
    let sum : d + 256 * w + (118 + 256 * k) ≡ (d + 118) % 256 + 256 * (w + k) = omega (arith, small) in
    ap (λ x. bit_and (bit_or (d + 256 * w) x) (128 + 256 * all_128 (length ds))) sum
    ∙ step d ((d + 118) % 256) w (w + k) (all_128 (length ds)) l (omega arith)
    ∙ ap (λ x. x + 256 * marks_of ds) (worth_unmarked d l h)

-- any other is marked
other_step : (d : ℕ) (ds : List ℕ) → d < 256 → is_worth d ≡ false → (r : ℕ) × (marks_of (d ∷ ds) ≡ (2 * r + 1) * 2 ^ (8 * 0 + 7))
other_step d ds l h =
    let w = word_of ds in
    let k = all_118 (length ds) in
    let t = w + k + (d + 118) / 256 in
    let m = all_128 (length ds) in
    let sum : d + 256 * w + (118 + 256 * k) ≡ (d + 118) % 256 + 256 * t = omega arith in
    let s : marks_of (d ∷ ds) ≡ bit_and (bit_or d ((d + 118) % 256)) 128 + 256 * bit_and (bit_or w t) m
    = ap (λ x. bit_and (bit_or (d + 256 * w) x) (128 + 256 * m)) sum ∙ step d ((d + 118) % 256) w t m l (omega arith) in
    (bit_and (bit_or w t) m, omega (arith, s, other_marked d l h))

marked : (ds : List ℕ) → Below 256 ds → (n : ℕ) × IsMarked ds (marks_of ds) n
marked [] l = (0, record { within = omega arith; worths = refl; stops = tt; place = inl (refl, refl) })
marked (d ∷ ds) l = by_kind (marked ds l.1) (cases_Bool (is_worth d))
  where
    by_kind : (n : ℕ) × IsMarked ds (marks_of ds) n → (is_worth d ≡ true) ⊎ (is_worth d ≡ false) → (n : ℕ) × IsMarked (d ∷ ds) (marks_of (d ∷ ds)) n
    by_kind rest (inl h) = (
      suc rest.0,
      record {
        within = omega (arith, rest.1.within);
        worths = and_from (is_worth d) (all is_worth (take rest.0 ds)) h rest.1.worths;
        stops = rest.1.stops;
        place = rw (worth_step d ds l.0 h) (more_place rest.0 (length ds) (marks_of ds) rest.1.place);
      },
    )
    by_kind rest (inr h) = (
      0,
      record { within = omega arith; worths = refl; stops = h; place = inr (omega arith, other_step d ds l.0 h) },
    )

-- the carry out of the word is lost, and no mark with it
wrapped : (w k m : ℕ) → m < 2 ^ 64 → bit_and (bit_or w ((w + k) % 2 ^ 64)) m ≡ bit_and (bit_or w (w + k)) m
wrapped w k m l =
    let small : (x : ℕ) → bit_and x m % 2 ^ 64 ≡ bit_and x m = λ x. omega (arith, and_le_r x m, l) in
    let o : bit_or w ((w + k) % 2 ^ 64) % 2 ^ 64 ≡ bit_or w (w + k) % 2 ^ 64
    = or_mod w ((w + k) % 2 ^ 64) 64
    ∙ (ap (bit_or (w % 2 ^ 64)) (let e : (w + k) % 2 ^ 64 % 2 ^ 64 ≡ (w + k) % 2 ^ 64 = omega arith in e) ∙ sym (or_mod w (w + k) 64)) in
    sym (small (bit_or w ((w + k) % 2 ^ 64))) ∙ and_mod (bit_or w ((w + k) % 2 ^ 64)) m 64 ∙ ap (λ x. bit_and x (m % 2 ^ 64)) o
    ∙ sym (and_mod (bit_or w (w + k)) m 64)
    ∙ small (bit_or w (w + k))

pub marks_are : (word : ℕ) (bytes : List ℕ) → length bytes ≡ 8 → Below 256 bytes → word ≡ word_of bytes
    → (n : ℕ) × IsMarked bytes (bit_and (bit_or word ((word + 8536140394893047414) % 18446744073709551616)) 9259542123273814144) n
marks_are word bytes n l is =
    let p : 8536140394893047414 ≡ all_118 (length bytes) = rw n refl in
    let q : 9259542123273814144 ≡ all_128 (length bytes) = rw n refl in
    let e : bit_and (bit_or word ((word + 8536140394893047414) % 18446744073709551616)) 9259542123273814144 ≡ marks_of bytes
    = wrapped word 8536140394893047414 9259542123273814144 (omega arith) ∙ rw (is, p, q) refl in
    rw e (marked bytes l)

-- a word of four bytes leaves room for the carries
pub marks_of_four_are : (word : ℕ) (bytes : List ℕ) → length bytes ≡ 4 → Below 256 bytes → word ≡ word_of bytes
    → (n : ℕ) × IsMarked bytes (bit_and (bit_or word (word + 1987475062)) 2155905152) n
marks_of_four_are word bytes n l is =
    let p : 1987475062 ≡ all_118 (length bytes) = rw n refl in
    let q : 2155905152 ≡ all_128 (length bytes) = rw n refl in
    let e : bit_and (bit_or word (word + 1987475062)) 2155905152 ≡ marks_of bytes = rw (is, p, q) refl in
    rw e (marked bytes l)
