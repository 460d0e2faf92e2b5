-- The count of the marks, and the digits moved to the top.
use Rattle.std.proofs.Common.{◌≡◌, ℕ, ◌-◌, ◌*◌, ◌/◌, ◌%◌, ◌^◌, ◌<◌, ◌≤◌, List, length, take, map, get_or, sym, ap, ◌∙◌, subst, arith, length-take}
use Rattle.std.specs.Prelude.{bit_and, bit_xor}
use Rattle.std.specs.Int.Count.{trailing_of_zero}
use Rattle.std.proofs.lemmas.List.{take_all}
use Rattle.stl_syntax.specs.Characters.{decimal_value}
use Rattle.trace_reader.specs.Words.{word_of, Below, spelled, IsCount, IsMarksOf}
use Rattle.trace_reader.proofs.CountLemmas.{bits_of, IsRun, run_of}
use Rattle.trace_reader.proofs.DigitBytes.{bare}
use Rattle.trace_reader.proofs.ShiftLemmas.{moved, shifted, is_moved, small_moved, below_from, below_take, bare_below, bare_word, length_bare}
use Rattle.trace_reader.proofs.eight.eight_digits.Goals as goal

-- the eight bytes
is_long : (text : List ℕ) → 8 ≤ length text → length (take 8 text) ≡ 8
is_long text h = omega (arith, length-take 8 text, h)

are_bytes : (text : List ℕ) → ((i : ℕ) → get_or text i 0 < 256) → Below 256 (take 8 text)
are_bytes text h = below_take 8 text (below_from text h)

-- the word without the bits of the digits
bare_is : (text : List ℕ) (word : ℕ) → length text ≡ 8 → Below 256 text → word ≡ word_of text → bit_xor word 3472328296227680304 ≡ word_of (map bare text)
bare_is text word n l is = ap (λ x. bit_xor x 3472328296227680304) is ∙ bare_word text n l

-- the bits before the lowest mark
run : (text : List ℕ) (word marks : ℕ) → length text ≡ 8 → Below 256 text → word ≡ word_of text
    → IsMarksOf (bit_xor word 3472328296227680304) marks → marks < 18446744073709551616 → IsRun text (bits_of marks)
run text word marks n l is are fits =
    let m = are (map bare text) (length_bare text ∙ n) (bare_below text l) (bare_is text word n l is) in
    run_of text marks m.0 n l m.1 fits

-- the digits moved to the top are the word's, shifted
top : (text : List ℕ) (word bits n : ℕ) → length text ≡ 8 → Below 256 text → word ≡ word_of text → bits ≡ 8 * n → 0 < n → n ≤ 8
    → bit_xor word 3472328296227680304 * 2 ^ (64 - bits) % 18446744073709551616 ≡ word_of (moved 8 n (map bare text))
top text word bits n l b is at some few =
    rw (bare_is text word l b is, at) (shifted (map bare text) (length_bare text ∙ l) n some few (bare_below text b))

pub overflow_sub-bits : goal.overflow_sub-bits
overflow_sub-bits c =
    let whole = c.args.text.now in
    let l = is_long whole c.requires in
    let b = are_bytes whole (λ i. let f = c.type_inv.text i in omega (arith, f)) in
    let r = run (take 8 whole) c.first_word-word.result c.marks-others.result l b c.first_word-word.ensures c.marks-others.ensures c.marks-others.type_inv in
    omega (arith, r.bytes, r.short)

pub returns-then-others-eq0 : goal.returns-then-others-eq0
returns-then-others-eq0 c =
    let whole = c.args.text.now in
    let text = take 8 whole in
    let l = is_long whole c.requires in
    let b = are_bytes whole (λ i. let f = c.type_inv.text i in omega (arith, f)) in
    let r = run text c.first_word-word.result c.marks-others.result l b c.first_word-word.ensures c.marks-others.ensures c.marks-others.type_inv in
    let z : bits_of c.marks-others.result ≡ 64 = ap bits_of c.if-others-eq0.true ∙ ap (λ x. bit_and x 120) (trailing_of_zero 64) in
    let all : r.n ≡ 8 = omega (arith, r.bytes, z) in
    let count = subst (IsCount text) all r.count in
    let m = is_moved 8 text 8 l b (omega arith) count in
    let e : moved 8 8 (map bare text) ≡ map bare text = take_all 8 (map bare text) (omega (arith, length_bare text, l)) in
    let w : bit_xor c.first_word-word.result 3472328296227680304 ≡ word_of (moved 8 8 (map bare text))
    = bare_is text c.first_word-word.result l b c.first_word-word.ensures ∙ ap word_of (sym e) in
    let v = c.number_of.ensures (moved 8 8 (map bare text)) m.length m.digits w in
    record { some = omega arith; count = count; value = v ∙ m.number; small = omega (arith, v, small_moved m) }

pub returns : goal.returns
returns c =
    let whole = c.args.text.now in
    let text = take 8 whole in
    let l = is_long whole c.requires in
    let b = are_bytes whole (λ i. let f = c.type_inv.text i in omega (arith, f)) in
    let r = run text c.first_word-word.result c.marks-others.result l b c.first_word-word.ensures c.marks-others.ensures c.marks-others.type_inv in
    let some : 0 < r.n = omega (arith, r.bytes, c.if-bits-eq0.false) in
    let m = is_moved 8 text r.n l b r.short r.count in
    let t = top text c.first_word-word.result (bits_of c.marks-others.result) r.n l b c.first_word-word.ensures r.bytes some r.short in
    let v : c.number_of-2.result ≡ spelled 0 (moved 8 r.n (map bare text)) = c.number_of-2.ensures (moved 8 r.n (map bare text)) m.length m.digits t in
    let len : r.n ≡ bits_of c.marks-others.result / 8 = omega (arith, r.bytes) in
    record {
      some = omega (arith, some, len);
      count = subst (IsCount text) len r.count;
      value = v ∙ (m.number ∙ ap (λ k. decimal_value 0 (take k text)) len);
      small = omega (arith, v, small_moved m);
    }
