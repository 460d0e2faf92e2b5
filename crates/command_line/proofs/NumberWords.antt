-- Words of digits, read digit by digit, and the words of a workload.
use Rattle.std.proofs.Common.{◌≡◌, ℕ, ◌+◌, ◌-◌, ◌*◌, ◌<◌, ◌≤◌, true, List}
use Rattle.std.proofs.Common.{[], ◌∷◌, ◌++◌, length, take, drop, get_or, refl, sym, ap, ◌∙◌, subst, arith}
use Rattle.std.specs.Prelude.{codes}
use Rattle.std.proofs.lemmas.List.{take-append-drop, take_more}
use Rattle.stl_syntax.specs.Characters.{is_digit, all, decimal_value}
use Rattle.stl_syntax.proofs.CharacterLemmas.{all-push}
use Rattle.stl_syntax.proofs.DecimalLemmas.{decimal_value-push, decimal_value-append}
use Rattle.command_line.specs.Commands.{generate, IsForm, gen}
use Rattle.command_line.specs.Numerals.{IsNumberWord}

-- more digits make no smaller number
grows : (v : ℕ) (ds : List ℕ) → v ≤ decimal_value v ds
grows v [] = omega arith
grows v (d ∷ ds) = let h = grows (10 * v + (d - 48)) ds in omega (arith, h)

-- the digits up to place i
pub record IsReadTo (word : List ℕ) (i v : ℕ) : Type 0 where
  -- the first i bytes are digits
  pub digits : all is_digit (take i word) ≡ true
  -- and have that value
  pub value : decimal_value 0 (take i word) ≡ v

-- one more
pub read_more : (word : List ℕ) (i v c : ℕ) → i < length word → get_or word i 0 ≡ c → is_digit c ≡ true → IsReadTo word i v
    → IsReadTo word (i + 1) (v * 10 + (c - 48))
read_more word i v c h e d r =
    let t : take (i + 1) word ≡ take i word ++ c ∷ [] = take_more word i 0 h ∙ ap (λ x. take i word ++ x ∷ []) e in
    record {
      digits = subst (λ w. all is_digit w ≡ true) (sym t) (all-push is_digit (take i word) c r.digits d);
      value = ap (decimal_value 0) t ∙ decimal_value-push 0 (take i word) c ∙ (let k = r.value in omega (arith, k));
    }

-- a number that is too large stays so
pub too_large : (word : List ℕ) (most i v n : ℕ) → most < v → IsReadTo word i v → ¬ IsNumberWord most word n
too_large word most i v n over r is =
    let parts : decimal_value 0 word ≡ decimal_value v (drop i word) =
    ap (decimal_value 0) (sym (take-append-drop i word)) ∙ decimal_value-append 0 (take i word) (drop i word)
    ∙ ap (λ m. decimal_value m (drop i word)) r.value in
    let more = grows v (drop i word) in
    let value = is.value in
    let small = is.small in
    omega (arith, over, parts, more, value, small)

-- words of a workload, by its numbers
pub workload_words : {words : List (List ℕ)} (first second : List ℕ) (number rows : ℕ) → words ≡ codes "gen" ∷ first ∷ second ∷ []
    → IsNumberWord 18446744073709551615 first number
    → IsNumberWord 200000 second rows → 1 ≤ rows → IsForm words (generate number rows)
workload_words {words} [] second number rows e a b some = let s = a.some in absurd (omega (arith, s))
workload_words {words} (c ∷ cs) [] number rows e a b some = let s = b.some in absurd (omega (arith, s))
workload_words {words} (c ∷ cs) (d ∷ ds) number rows e a b some =
    let made = gen c d cs ds a.digits (let v = a.value in let s = a.small in omega (arith, v, s)) b.digits (let v = b.value in omega (arith, v, some))
    (let v = b.value in let s = b.small in omega (arith, v, s)) in
    subst (λ ws. IsForm ws (generate number rows)) (sym e)
    (subst (λ m. IsForm (codes "gen" ∷ (c ∷ cs) ∷ (d ∷ ds) ∷ []) (generate number m)) b.value
    (subst (λ m. IsForm (codes "gen" ∷ (c ∷ cs) ∷ (d ∷ ds) ∷ []) (generate m (decimal_value 0 (d ∷ ds)))) a.value made))

-- and what the words of one are
pub record AreOfWorkload (words : List (List ℕ)) (number rows : ℕ) : Type 0 where
  -- the word of the number
  pub first : List ℕ
  -- the word of the rows
  pub second : List ℕ
  -- the three words
  pub are : words ≡ codes "gen" ∷ first ∷ second ∷ []
  -- the first is the number
  pub number_is : IsNumberWord 18446744073709551615 first number
  -- the second is that of the rows
  pub rows_are : IsNumberWord 200000 second rows
  -- at least one row is asked for
  pub some : 1 ≤ rows

-- words that ask for a generated trace are `gen` and two numbers
pub words_of_workload : {words : List (List ℕ)} {number rows : ℕ} → IsForm words (generate number rows) → AreOfWorkload words number rows
words_of_workload (gen c d cs ds h small k some few) = record {
  first = c ∷ cs;
  second = d ∷ ds;
  are = refl;
  number_is = record { some = omega arith; digits = h; value = refl; small = omega (arith, small) };
  rows_are = record { some = omega arith; digits = k; value = refl; small = few };
  some = some;
}

-- words of a workload are not two
pub two_words : {words : List (List ℕ)} (x y : List ℕ) {number rows : ℕ} → words ≡ x ∷ y ∷ [] → IsForm words (generate number rows) → ⊥
two_words x y e form = let w = words_of_workload form in let k = ap length (sym e ∙ w.are) in omega (arith, k)

-- and they are of one
pub one_workload : {words : List (List ℕ)} {number rows other more : ℕ} → IsForm words (generate number rows)
    → IsForm words (generate other more) → (number ≡ other) × (rows ≡ more)
one_workload {words} {number} {rows} {other} {more} a b =
    let v = words_of_workload a in
    let w = words_of_workload b in
    let same : codes "gen" ∷ v.first ∷ v.second ∷ [] ≡ codes "gen" ∷ w.first ∷ w.second ∷ [] = sym v.are ∙ w.are in
    let one : v.first ≡ w.first = cc in
    let two : v.second ≡ w.second = cc in
    (sym v.number_is.value ∙ ap (decimal_value 0) one ∙ w.number_is.value, sym v.rows_are.value ∙ ap (decimal_value 0) two ∙ w.rows_are.value)
