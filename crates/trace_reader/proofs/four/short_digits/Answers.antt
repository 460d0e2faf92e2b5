-- The count of the marks of half a word, and the digits moved to its top.
use Rattle.std.proofs.Common.{◌≡◌, ℕ, ◌-◌, ◌*◌, ◌/◌, ◌%◌, ◌^◌, ◌<◌, ◌≤◌, List, true, length, take, map, get_or, sym, ap, ◌∙◌, subst, arith, length-take}
use Rattle.std.specs.Prelude.{bit_and, bit_xor}
use Rattle.std.specs.Int.Bits.{and_mask}
use Rattle.std.proofs.lemmas.List.{take-take}
use Rattle.std.proofs.lemmas.Nat.{xor_lt}
use Rattle.stl_syntax.specs.Characters.{is_digit, all, decimal_value}
use Rattle.trace_reader.specs.Words.{word_of, Below, spelled, AreMarksOfFour}
use Rattle.trace_reader.proofs.CountLemmas.{bits_of, IsShortRun, short_run_of}
use Rattle.trace_reader.proofs.DigitBytes.{bare}
use Rattle.trace_reader.proofs.ShiftLemmas.{moved, shifted_four, is_moved, first_half, below_from, below_take, bare_below, bare_four, length_bare}
use Rattle.trace_reader.proofs.four.short_digits.Goals as goal

-- the four bytes
are_four : (text : List ℕ) → 10 ≤ length text → length (take 4 text) ≡ 4
are_four text h = omega (arith, length-take 4 text, h)

-- bytes of a text are below 256
are_bytes : (text : List ℕ) (n : ℕ) → ((i : ℕ) → get_or text i 0 < 256) → Below 256 (take n text)
are_bytes text n h = below_take n text (below_from text h)

-- the half word without the bits of the digits
bare_is : (text : List ℕ) (word : ℕ) → 10 ≤ length text → ((i : ℕ) → get_or text i 0 < 256) → word ≡ word_of (take 8 text)
    → bit_xor (bit_and word 4294967295) 808464432 ≡ word_of (map bare (take 4 text))
bare_is text word h b is =
    let low : bit_and word 4294967295 ≡ word_of (take 4 text) =
    and_mask word 32 ∙ (ap (λ x. x % 4294967296) is ∙ first_half text (omega (arith, h)) (are_bytes text 8 b)) in
    ap (λ x. bit_xor x 808464432) low ∙ bare_four (take 4 text) (are_four text h) (are_bytes text 4 b)

-- the bits before the lowest mark
run : (text : List ℕ) (word marks : ℕ) → length text ≡ 4 → Below 256 text → word ≡ word_of (map bare text)
    → AreMarksOfFour word marks → (marks ≡ 0 → ⊥) → marks < 18446744073709551616 → IsShortRun text (bits_of marks)
run text word marks n l is are some fits =
    let m = are (map bare text) (length_bare text ∙ n) (bare_below text l) is in
    short_run_of text marks m.0 n l m.1 some fits

-- the digits moved to the top are the word's, shifted
top : (text : List ℕ) (word bits n : ℕ) → length text ≡ 4 → Below 256 text → word ≡ word_of (map bare text) → bits ≡ 8 * n → 0 < n → n < 4
    → word * 2 ^ (32 - bits) % 4294967296 ≡ word_of (moved 4 n (map bare text))
top text word bits n l b is at some few =
    rw (is, at) (shifted_four (map bare text) (length_bare text ∙ l) n some few (bare_below text b))

pub marks_of_four-others-requires : goal.marks_of_four-others-requires
marks_of_four-others-requires c =
    xor_lt 32 (bit_and c.first_word.result 4294967295) 808464432 (omega (arith, and_mask c.first_word.result 32)) (omega arith)

pub overflow_sub-bits : goal.overflow_sub-bits
overflow_sub-bits c =
    let whole = c.args.text.now in
    let each : (i : ℕ) → get_or whole i 0 < 256 = λ i. let f = c.type_inv.text i in omega (arith, f) in
    let l = are_four whole c.requires in
    let b = are_bytes whole 4 each in
    let w = bare_is whole c.first_word.result c.requires each c.first_word.ensures in
    let r = run (take 4 whole) _ c.marks_of_four-others.result l b w c.marks_of_four-others.ensures c.if-others-eq0.false c.marks_of_four-others.type_inv in
    omega (arith, r.bytes, r.short)

pub returns : goal.returns
returns c =
    let whole = c.args.text.now in
    let text = take 4 whole in
    let each : (i : ℕ) → get_or whole i 0 < 256 = λ i. let f = c.type_inv.text i in omega (arith, f) in
    let l = are_four whole c.requires in
    let b = are_bytes whole 4 each in
    let w = bare_is whole c.first_word.result c.requires each c.first_word.ensures in
    let r = run text _ c.marks_of_four-others.result l b w c.marks_of_four-others.ensures c.if-others-eq0.false c.marks_of_four-others.type_inv in
    let some : 0 < r.n = omega (arith, r.bytes, c.if-bits-eq0.false) in
    let m = is_moved 4 text r.n l b (omega (arith, r.short)) r.count in
    let t = top text _ (bits_of c.marks_of_four-others.result) r.n l b w r.bytes some r.short in
    let v : c.number_of_four.result ≡ spelled 0 (moved 4 r.n (map bare text)) =
    c.number_of_four.ensures.value (moved 4 r.n (map bare text)) m.length m.digits t in
    let len : r.n ≡ bits_of c.marks_of_four-others.result / 8 = omega (arith, r.bytes) in
    let front : take r.n text ≡ take r.n whole = take-take r.n 4 whole (omega (arith, r.short)) in
    record {
      some = omega (arith, some, len);
      few = omega (arith, r.short, len);
      digits = subst (λ k. all is_digit (take k whole) ≡ true) len (ap (all is_digit) (sym front) ∙ r.count.digits);
      value = c.from.ensures ∙ (v ∙ (m.number ∙ (ap (decimal_value 0) front ∙ ap (λ k. decimal_value 0 (take k whole)) len)));
      small = omega (arith, c.from.ensures, c.number_of_four.ensures.small);
    }
