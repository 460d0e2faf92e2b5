-- The tokens of printed pieces of text, whatever text follows them.
use Rattle.std.proofs.Common.{◌≡◌, ℕ, suc, ◌+◌, ◌-◌, ◌*◌, ◌^◌, ◌/◌, ◌%◌, ◌<◌, ◌≤◌, List, [], ◌∷◌, ◌++◌, length, refl, ap}
use Rattle.std.proofs.Common.{sym, ◌∙◌, Bool, true, false, ◌||◌, ◌&&◌, inl, inr, ◌⊎◌, arith, append_assoc, lit<, pow-add}
use Rattle.std.specs.Prelude.{codes, decimal, ◌==◌, not, IsTrue}
use Rattle.std.proofs.Math.Nat.{one-le-pow, pow-suc, eq_of_mul-eq-mul_right, mul-le-mul_right, mul-le-mul_left, le_of_mul-le-mul_right}
use Rattle.std.proofs.lemmas.List.{append-nil}
use Rattle.std.proofs.lemmas.Fmt.{decimal_by_steps}
use Rattle.std.proofs.lemmas.Bool.{or_parts, and_parts, cases_order}
use Rattle.std.proofs.lemmas.Bool.Decides.{nat_tests}
use Rattle.stl_syntax.specs.Characters.{is_digit, begins_word, goes_on_word, is_among, all, StopsAt, decimal_value, without_zeros, begins_decimals, ticks}
use Rattle.stl_syntax.specs.Names.{reserved, is_name}
use Rattle.stl_syntax.specs.Print.{IsDecimalText, after_point, relation_text}
use Rattle.stl_syntax.specs.declared.rel.Rel.{Rel}
use Rattle.stl_syntax.specs.declared.rel.Rel.TheVariants.{AtLeast, Above, AtMost, Below}
use Rattle.stl_syntax.proofs.PrintLaw.{longer}
use Rattle.stl_syntax.proofs.DecimalLemmas.{decimal_value-push, decimal_value-append}
use Rattle.stl_grammar.specs.Tokens.{Token, word, number, relation, open_paren, close_paren, open_bracket}
use Rattle.stl_grammar.specs.Tokens.{close_bracket, comma, star, plus, minus, a_word, an_integer, a_decimal}
use Rattle.stl_grammar.specs.Tokens.{at_least, at_most, above, below, paren, paren_end, bracket, bracket_end}
use Rattle.stl_grammar.specs.Tokens.{a_comma, a_star, a_plus, a_minus, Lexes, nothing, token, blank}

-- the text goes on no word, number or relation before it
abbrev pub Separates : List ℕ → Type 0
Separates [] = Unit {0}
Separates (c ∷ z) = (goes_on_word c ≡ false) × ((c == 61) ≡ false)

-- the tokens of a text before one that separates, and before any
abbrev pub Lexed : List ℕ → List Token → Type 0
Lexed text ts = (z : List ℕ) (us : List Token) → Separates z → Lexes z us → Lexes (text ++ z) (ts ++ us)

abbrev pub LexedAny : List ℕ → List Token → Type 0
LexedAny text ts = (z : List ℕ) (us : List Token) → Lexes z us → Lexes (text ++ z) (ts ++ us)

-- the text separates, whatever follows it
abbrev pub Parts : List ℕ → Type 0
Parts y = (z : List ℕ) → Separates (y ++ z)

-- what is lexed before any text is lexed before one that parts
pub any_lexed : (x : List ℕ) (ts : List Token) → LexedAny x ts → Lexed x ts
any_lexed x ts h z us s l = h z us l

-- one piece after another
pub then_lexed : (x y : List ℕ) (ts us : List Token) → LexedAny x ts → Lexed y us → Lexed (x ++ y) (ts ++ us)
then_lexed x y ts us h k z vs s l = rw (append_assoc x y z, append_assoc ts us vs) (h (y ++ z) (us ++ vs) (k z vs s l))

-- a piece before one that parts
pub parted_any : (x y : List ℕ) (ts us : List Token) → Lexed x ts → Parts y → LexedAny y us → LexedAny (x ++ y) (ts ++ us)
parted_any x y ts us h p k z vs l = rw (append_assoc x y z, append_assoc ts us vs) (h (y ++ z) (us ++ vs) (p z) (k z vs l))

-- and before one that parts with what follows
pub parted : (x y : List ℕ) (ts us : List Token) → Lexed x ts → ((z : List ℕ) → Separates z → Separates (y ++ z)) → Lexed y us → Lexed (x ++ y) (ts ++ us)
parted x y ts us h p k z vs s l = rw (append_assoc x y z, append_assoc ts us vs) (h (y ++ z) (us ++ vs) (p z s) (k z vs s l))

-- a blank after it
pub spaced : (x : List ℕ) (ts : List Token) → Lexed x ts → LexedAny (x ++ codes " ") ts
spaced x ts h z us l = rw (append_assoc x (codes " ") z) (h (32 ∷ z) us (refl, refl) (blank refl l))

-- a whole text
pub lexed_whole : (x : List ℕ) (ts : List Token) → Lexed x ts → Lexes x ts
lexed_whole x ts h = rw (append-nil, append-nil) at (h [] [] tt nothing)

-- a separating byte goes on no number
no_digit : (c : ℕ) → goes_on_word c ≡ false → is_digit c ≡ false
no_digit c h = grind (arith, h)

no_point : (c : ℕ) → goes_on_word c ≡ false → (c == 46) ≡ false
no_point c h = (or_parts (begins_word c || is_digit c) (c == 46) h).1

stops_word : (z : List ℕ) → Separates z → StopsAt goes_on_word z
stops_word [] s = tt
stops_word (c ∷ z) s = s.0

stops_digit : (z : List ℕ) → Separates z → StopsAt is_digit z
stops_digit [] s = tt
stops_digit (c ∷ z) s = no_digit c s.0

stops_equal : (z : List ℕ) → Separates z → StopsAt (λ c. c == 61) z
stops_equal [] s = tt
stops_equal (c ∷ z) s = s.1

no_decimals : (z : List ℕ) → Separates z → begins_decimals z ≡ false
no_decimals [] s = refl
no_decimals (c ∷ []) s = refl
no_decimals (c ∷ d ∷ z) s = rw (no_point c s.0) refl

-- words, numbers and symbols
pub lexed_word : (c : ℕ) (rest : List ℕ) → begins_word c ≡ true → all goes_on_word rest ≡ true → Lexed (c ∷ rest) (word (c ∷ rest) ∷ [])
lexed_word c rest b a z us s l = token (c ∷ rest) z refl (a_word b a (stops_word z s)) l

abbrev pub is_plain_word : List ℕ → Bool
is_plain_word [] = false
is_plain_word (c ∷ rest) = begins_word c && all goes_on_word rest

-- a word of letters
pub word_lexed : (w : List ℕ) → is_plain_word w ≡ true → Lexed w (word w ∷ [])
word_lexed [] e = absurd (cc)
word_lexed (c ∷ rest) e = let p = and_parts (begins_word c) (all goes_on_word rest) e in lexed_word c rest p.0 p.1

-- names
pub lexed_name : (name : List ℕ) → IsTrue (is_name name) → Lexed name (word name ∷ []) × (is_among name reserved ≡ false)
lexed_name [] h = absurd (cc)
lexed_name (c ∷ rest) h =
    let p = and_parts (begins_word c && all goes_on_word rest) (not (is_among (c ∷ rest) reserved)) h in
    let q = and_parts (begins_word c) (all goes_on_word rest) p.0 in
    (lexed_word c rest q.0 q.1, no (is_among (c ∷ rest) reserved) p.1)
  where
    no : (b : Bool) → not b ≡ true → b ≡ false
    no true e = cc
    no false e = refl

integer_lexed : (c : ℕ) (digits : List ℕ) → all is_digit (c ∷ digits) ≡ true → Lexed (c ∷ digits) (number (decimal_value 0 (c ∷ digits ++ [])) 0 ∷ [])
integer_lexed c digits a z us s l = token (c ∷ digits) z refl (an_integer a (stops_digit z s) (no_decimals z s)) l

decimals_lexed : (c : ℕ) (digits : List ℕ) (d : ℕ) (decimals : List ℕ) → all is_digit (c ∷ digits) ≡ true → all is_digit (d ∷ decimals) ≡ true
    → Lexed (c ∷ digits ++ 46 ∷ d ∷ decimals)
    (number (decimal_value 0 (c ∷ digits ++ without_zeros (d ∷ decimals))) (length (without_zeros (d ∷ decimals))) ∷ [])
decimals_lexed c digits d decimals a b z us s l = token (c ∷ digits ++ 46 ∷ d ∷ decimals) z refl (a_decimal c digits d decimals a b (stops_digit z s)) l

-- a parenthesis
pub paren_lexed : LexedAny (codes "(") (open_paren ∷ [])
paren_lexed z us l = token (codes "(") z refl paren l

-- its end
pub paren_end_lexed : LexedAny (codes ")") (close_paren ∷ [])
paren_end_lexed z us l = token (codes ")") z refl paren_end l

-- a bracket
pub bracket_lexed : LexedAny (codes "[") (open_bracket ∷ [])
bracket_lexed z us l = token (codes "[") z refl bracket l

-- its end
pub bracket_end_lexed : LexedAny (codes "]") (close_bracket ∷ [])
bracket_end_lexed z us l = token (codes "]") z refl bracket_end l

-- a comma
pub comma_lexed : LexedAny (codes ",") (comma ∷ [])
comma_lexed z us l = token (codes ",") z refl a_comma l

-- a star
pub star_lexed : LexedAny (codes "*") (star ∷ [])
star_lexed z us l = token (codes "*") z refl a_star l

-- a plus
pub plus_lexed : LexedAny (codes "+") (plus ∷ [])
plus_lexed z us l = token (codes "+") z refl a_plus l

-- a minus
pub minus_lexed : LexedAny (codes "-") (minus ∷ [])
minus_lexed z us l = token (codes "-") z refl a_minus l

-- a relation
pub relation_lexed : (r : Rel) → Lexed (relation_text r) (relation r ∷ [])
relation_lexed AtLeast z us s l = token (codes ">=") z refl at_least l
relation_lexed AtMost z us s l = token (codes "<=") z refl at_most l
relation_lexed Above z us s l = token (codes ">") z refl (above (stops_equal z s)) l
relation_lexed Below z us s l = token (codes "<") z refl (below (stops_equal z s)) l

-- the decimal of a whole number
record IsWhole (n : ℕ) (text : List ℕ) : Type 0 where
  first : ℕ
  rest : List ℕ
  is : text ≡ first ∷ rest
  digits : all is_digit (first ∷ rest) ≡ true
  value : decimal_value 0 (first ∷ rest) ≡ n

last_digit : (n : ℕ) → n < 10 → is_digit (48 + n) ≡ true
last_digit n l = grind (arith, nat_tests, l)

all_push : (xs : List ℕ) (c : ℕ) → all is_digit xs ≡ true → is_digit c ≡ true → all is_digit (xs ++ c ∷ []) ≡ true
all_push [] c h k = rw k refl
all_push (x ∷ xs) c h k = let p = and_parts (is_digit x) (all is_digit xs) h in rw (p.0, all_push xs c p.1 k) refl

whole_is : (n : ℕ) → n < 2 ^ 64 → IsWhole n (decimal n)
whole_is n l = decimal_by_steps IsWhole one more n l
  where
    one : (n : ℕ) → n < 10 → IsWhole n ((48 + n) ∷ [])
    one n l = record { first = 48 + n; rest = []; is = refl; digits = rw (last_digit n l) refl; value = omega arith }

    more : (n : ℕ) (ds : List ℕ) → 10 ≤ n → IsWhole (n / 10) ds → IsWhole n (ds ++ ((48 + n % 10) ∷ []))
    more n ds l h =
        let d : n % 10 < 10 = omega arith in
        record {
          first = h.first;
          rest = h.rest ++ (48 + n % 10) ∷ [];
          is = ap (λ z. z ++ (48 + n % 10) ∷ []) h.is;
          digits = all_push (h.first ∷ h.rest) (48 + n % 10) h.digits (last_digit (n % 10) d);
          value = decimal_value-push 0 (h.first ∷ h.rest) (48 + n % 10) ∙ (ap (λ z. 10 * z + (48 + n % 10 - 48)) h.value ∙ omega arith);
        }

-- a whole number
pub integer_text : (n : ℕ) → n < 2 ^ 64 → Lexed (decimal n) (number n 0 ∷ [])
integer_text n l = let w = whole_is n l in
    let e : decimal_value 0 (w.first ∷ w.rest ++ []) ≡ n = ap (λ z. decimal_value 0 z) (append-nil (w.first ∷ w.rest)) ∙ w.value in
    rw w.is (rw e at (integer_lexed w.first w.rest w.digits))

-- a number of ticks as a decimal
value_least : (w : ℕ) (xs : List ℕ) → w * 10 ^ length xs ≤ decimal_value w xs
value_least w [] = omega arith
value_least w (x ∷ xs) =
    let a = value_least (10 * w + (x - 48)) xs in
    let b : 10 * w * 10 ^ length xs ≤ (10 * w + (x - 48)) * 10 ^ length xs = mul-le-mul_right (10 ^ length xs) (omega arith) in
    let c : w * 10 ^ suc (length xs) ≡ 10 * w * 10 ^ length xs = ap (λ z. w * z) (pow-suc 10 (length xs)) ∙ omega arith in
    omega (arith, a, b, c)

some_power : (digits : ℕ) → 0 < 10 ^ digits
some_power digits = one-le-pow digits 10 (lit< tt)

whole_least : (n w v p q : ℕ) → 0 < p → 0 < q → n * q ≡ v * p → w * q ≤ v → w ≤ n
whole_least n w v p q a b e l =
    let x : w * q * 1 ≤ w * q * p = mul-le-mul_left (w * q) a in
    let y : w * q * p ≤ v * p = mul-le-mul_right p l in
    let z : w * q ≤ n * q = omega (arith, e, x, y) in
    le_of_mul-le-mul_right z b

split_power : (d k : ℕ) → k ≤ d → 10 ^ d ≡ 10 ^ (d - k) * 10 ^ k
split_power d k l = let e : d ≡ d - k + k = omega arith in ap (λ z. 10 ^ z) e ∙ pow-add 10 (d - k) k

shorter : (n v d k : ℕ) → k ≤ d → n * 10 ^ k ≡ v * 10 ^ d → v * 10 ^ (d - k) ≡ n
shorter n v d k l e =
    let f : v * 10 ^ (d - k) * 10 ^ k ≡ n * 10 ^ k = assoc v (10 ^ (d - k)) (10 ^ k) ∙ (ap (λ z. v * z) (sym (split_power d k l)) ∙ sym e) in
    eq_of_mul-eq-mul_right (10 ^ k) (some_power k) (v * 10 ^ (d - k)) n f
  where
    assoc : (a b c : ℕ) → a * b * c ≡ a * (b * c)
    assoc a b c = omega arith

-- the decimals of a number are no more than the digits
few_decimals : (digits n : ℕ) (text : List ℕ) (h : IsDecimalText digits n text) → length h.decimals ≤ digits
few_decimals digits n text h = by_order (cases_order (length h.decimals) digits)
  where
    too_long : digits < length h.decimals → ⊥
    too_long l =
        let e : decimal_value h.whole h.decimals ≡ n * 10 ^ (length h.decimals - digits) =
        sym (shorter (decimal_value h.whole h.decimals) n (length h.decimals) digits (omega arith) (sym h.same)) in
        longer n h.whole (length h.decimals - digits) h.decimals (omega arith) h.are_digits h.fewest e (omega arith)

    by_order : (length h.decimals ≡ digits) ⊎ ((length h.decimals < digits) ⊎ (digits < length h.decimals)) → length h.decimals ≤ digits
    by_order (inl e) = omega arith
    by_order (inr (inl l)) = omega arith
    by_order (inr (inr l)) = absurd (too_long l)

-- the number token of a printed number
abbrev pub NumberOf : ℕ → ℕ → List ℕ → Type 0
NumberOf digits n text = (v : ℕ) × (k : ℕ) × Lexed text (number v k ∷ []) × (ticks digits v k ≡ n) × (k ≤ digits) × ((k ≡ digits) ⊎ (n % 10 ≡ 0))

full_or : (n v d k : ℕ) → k ≤ d → v * 10 ^ (d - k) ≡ n → (k ≡ d) ⊎ (n % 10 ≡ 0)
full_or n v d k l e = by_order (cases_order k d)
  where
    tens : k < d → n % 10 ≡ 0
    tens m =
        let i : d - k ≡ suc (d - k - 1) = omega arith in
        let f : v * 10 ^ (d - k) ≡ v * 10 ^ (d - k - 1) * 10 = ap (λ z. v * 10 ^ z) i ∙ (ap (λ z. v * z) (pow-suc 10 (d - k - 1)) ∙ omega arith) in
        omega (arith, e, f)

    by_order : (k ≡ d) ⊎ ((k < d) ⊎ (d < k)) → (k ≡ d) ⊎ (n % 10 ≡ 0)
    by_order (inl e) = inl e
    by_order (inr (inl m)) = inr (tens m)
    by_order (inr (inr m)) = absurd (omega arith)

number_at : (digits n : ℕ) (text : List ℕ) (h : IsDecimalText digits n text) (w : IsWhole h.whole (decimal h.whole)) (ds : List ℕ) → h.decimals ≡ ds
    → Lexed text (number (decimal_value h.whole h.decimals) (length h.decimals) ∷ [])
number_at digits n text h w [] e =
    let t : text ≡ w.first ∷ w.rest = h.is ∙ (ap (λ z. decimal h.whole ++ after_point z) e ∙ (append-nil (decimal h.whole) ∙ w.is)) in
    let v : decimal_value 0 (w.first ∷ w.rest ++ []) ≡ decimal_value h.whole h.decimals =
    ap (λ z. decimal_value 0 z) (append-nil (w.first ∷ w.rest)) ∙ (w.value ∙ ap (λ z. decimal_value h.whole z) (sym e)) in
    let k : 0 ≡ length h.decimals = ap (λ z. length z) (sym e) in
    rw t (rw (v, k) at (integer_lexed w.first w.rest w.digits))
number_at digits n text h w (d ∷ ds) e =
    let a : all is_digit (d ∷ ds) ≡ true = ap (λ z. all is_digit z) (sym e) ∙ h.are_digits in
    let f : without_zeros (d ∷ ds) ≡ h.decimals = ap (λ z. without_zeros z) (sym e) ∙ h.fewest in
    let t : text ≡ w.first ∷ w.rest ++ 46 ∷ d ∷ ds = h.is ∙ (ap (λ z. decimal h.whole ++ after_point z) e ∙ ap (λ z. z ++ 46 ∷ d ∷ ds) w.is) in
    let v : decimal_value 0 (w.first ∷ w.rest ++ without_zeros (d ∷ ds)) ≡ decimal_value h.whole h.decimals =
    ap (λ z. decimal_value 0 (w.first ∷ w.rest ++ z)) f
    ∙ (decimal_value-append 0 (w.first ∷ w.rest) h.decimals ∙ ap (λ z. decimal_value z h.decimals) w.value) in
    let k : length (without_zeros (d ∷ ds)) ≡ length h.decimals = ap (λ z. length z) f in
    rw t (rw (v, k) at (decimals_lexed w.first w.rest d ds w.digits a))

-- a number with decimals
pub number_text : (digits n : ℕ) (text : List ℕ) → n < 2 ^ 64 → IsDecimalText digits n text → NumberOf digits n text
number_text digits n text l h =
    let q : h.whole ≤ n = whole_least n h.whole (decimal_value h.whole h.decimals) (10 ^ digits) (10 ^ length h.decimals)
    (some_power digits) (some_power (length h.decimals)) h.same
    (value_least h.whole h.decimals) in
    let w = whole_is h.whole (omega (arith, q)) in
    let m = few_decimals digits n text h in
    let e = shorter n (decimal_value h.whole h.decimals) digits (length h.decimals) m h.same in (
      decimal_value h.whole h.decimals,
      length h.decimals,
      number_at digits n text h w h.decimals refl,
      e,
      m,
      full_or n (decimal_value h.whole h.decimals) digits (length h.decimals) m e,
    )
