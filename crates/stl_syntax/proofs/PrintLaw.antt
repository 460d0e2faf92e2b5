-- A formula has one printed text.
use Rattle.std.proofs.Common.{◌≡◌, ℕ, suc, ◌+◌, ◌-◌, ◌*◌, ◌^◌, ◌<◌, ◌≤◌, ◌&&◌, Bool, true, false, List, [], ◌∷◌, ◌++◌, length}
use Rattle.std.proofs.Common.{reverse, ℤ, pos, negsuc, refl, sym, ◌∙◌, ap, subst, arith, ◌⊎◌, inl, inr, lit<, pow-add}
use Rattle.std.proofs.Math.Nat.{one-le-pow, pow-suc, eq_of_mul-eq-mul_right, sub-pos_iff_lt}
use Rattle.std.proofs.lemmas.Bool.{cases_order, cases_Bool, and_parts, leb-true}
use Rattle.std.proofs.lemmas.List.{length_push, length-reverse}
use Rattle.std.specs.Prelude.{codes, decimal, Option, Some, None, ◌==◌, MatchBool, if◌then◌else◌}
use Rattle.stl_syntax.specs.Characters.{after_first, without_zeros, is_digit, all, decimal_value}
use Rattle.stl_syntax.specs.Formula.{Subformula, constant, atom, negation, conjunction, disjunction}
use Rattle.stl_syntax.specs.Formula.{implication, until, eventually, always, since, once, historically}
use Rattle.stl_syntax.specs.Print.{IsDecimalText, IsConstantText, IsAtomText, IsUpperText, IsBoundText}
use Rattle.stl_syntax.specs.Print.{IsPastBoundText, InParens, Before, Between, Bare, Bounded, IsPrinted}
use Rattle.stl_syntax.specs.Print.{after_point, terms_text, relation_text, opening, closing, has_two}
use Rattle.stl_syntax.specs.declared.scale.Scale.{Scale}
use Rattle.stl_syntax.specs.declared.atom.Atom.{Atom}
use Rattle.stl_syntax.proofs.DecimalLemmas.{decimal_value-push, without_zeros-zero}

-- a digit is from 48 to 57
digit_bounds : (c : ℕ) → is_digit c ≡ true → (48 ≤ c) × (c ≤ 57)
digit_bounds c h = let parts = and_parts _ _ h in (leb-true 48 c parts.0, leb-true c 57 parts.1)

-- numbers of as many digits are equal digit by digit
digits_same : (w v : ℕ) (xs ys : List ℕ) → length xs ≡ length ys → all is_digit xs ≡ true → all is_digit ys ≡ true
    → decimal_value w xs ≡ decimal_value v ys → (w ≡ v) × (xs ≡ ys)
digits_same w v [] [] l h k e = (e, refl)
digits_same w v [] (y ∷ ys) l h k e = absurd (omega (arith, l))
digits_same w v (x ∷ xs) [] l h k e = absurd (omega (arith, l))
digits_same w v (x ∷ xs) (y ∷ ys) l h k e =
    let here = and_parts (is_digit x) (all is_digit xs) h in
    let there = and_parts (is_digit y) (all is_digit ys) k in
    let rest : (10 * w + (x - 48) ≡ 10 * v + (y - 48)) × (xs ≡ ys) =
    digits_same (10 * w + (x - 48)) (10 * v + (y - 48)) xs ys (omega (arith, l)) here.1 there.1 e in
    let a = digit_bounds x here.0 in
    let b = digit_bounds y there.0 in
    let tens : w ≡ v = omega (arith, rest.0, a.0, a.1, b.0, b.1) in
    let ones : x ≡ y = omega (arith, rest.0, a.0, a.1, b.0, b.1) in
    (tens, rw (ones, rest.1) refl)

-- a list is empty, or has a last element
last_of : (xs : List ℕ) → (xs ≡ []) ⊎ ((front : List ℕ) × (c : ℕ) × (xs ≡ front ++ c ∷ []))
last_of [] = inl refl
last_of (x ∷ xs) = inr (by_rest (last_of xs))
  where
    by_rest : (xs ≡ []) ⊎ ((front : List ℕ) × (c : ℕ) × (xs ≡ front ++ c ∷ [])) → (front : List ℕ) × (c : ℕ) × (x ∷ xs ≡ front ++ c ∷ [])
    by_rest (inl e) = ([], x, ap (λ l. x ∷ l) e)
    by_rest (inr (front, c, e)) = (x ∷ front, c, ap (λ l. x ∷ l) e)

length-after_first : (p : ℕ → Bool) (xs : List ℕ) → length (after_first p xs) ≤ length xs
length-after_first p [] = omega arith
length-after_first p (c ∷ xs) = by_test (length-after_first p xs) (cases_Bool (p c))
  where
    by_test : length (after_first p xs) ≤ length xs → (p c ≡ true) ⊎ (p c ≡ false) → length (after_first p (c ∷ xs)) ≤ length (c ∷ xs)
    by_test less (inl t) = rw t (omega arith)
    by_test less (inr f) = rw f (omega arith)

-- decimals without a zero at their end do not end in a zero
no_last_zero : (front : List ℕ) → without_zeros (front ++ 48 ∷ []) ≡ front ++ 48 ∷ [] → ⊥
no_last_zero front e =
    let short : length (without_zeros front) ≤ length front = omega (
      arith,
      length-reverse (after_first (λ c. c == 48) (reverse front)),
      length-after_first (λ c. c == 48) (reverse front),
      length-reverse front,
    ) in
    let same : length (without_zeros front) ≡ length (front ++ 48 ∷ []) = ap length (sym (without_zeros-zero front) ∙ e) in
    omega (arith, short, same, length_push front 48)

less : (k : ℕ) → 0 < k → k ≡ suc (k - 1)
less k some = omega arith

last_digit : (front : List ℕ) (c : ℕ) → all is_digit (front ++ c ∷ []) ≡ true → (is_digit c && true) ≡ true
last_digit [] c h = h
last_digit (x ∷ front) c h = last_digit front c (and_parts (is_digit x) (all is_digit (front ++ c ∷ [])) h).1

-- with more places than another decimal of the same value, the last digit is 0
pub longer : (w v k : ℕ) (xs : List ℕ) → 0 < k → all is_digit xs ≡ true → without_zeros xs ≡ xs → decimal_value v xs ≡ w * 10 ^ k → 0 < length xs → ⊥
longer w v k xs some digits fewest e l = by_last (last_of xs)
  where
    by_last : (xs ≡ []) ⊎ ((front : List ℕ) × (c : ℕ) × (xs ≡ front ++ c ∷ [])) → ⊥
    by_last (inl nil) = let none : length xs ≡ 0 = ap length nil in omega (arith, none, l)
    by_last (inr (front, c, is)) =
        let at_end : is_digit c ≡ true = (and_parts (is_digit c) true (last_digit front c (subst (λ ys. all is_digit ys ≡ true) is digits))).0 in
        let bounds = digit_bounds c at_end in
        let value : 10 * decimal_value v front + (c - 48) ≡ w * 10 ^ k = sym (decimal_value-push v front c) ∙ ap (decimal_value v) (sym is) ∙ e in
        let power : 10 ^ k ≡ 10 ^ (k - 1) * 10 = ap (λ j. 10 ^ j) (less k some) ∙ pow-suc 10 (k - 1) in
        let tens : w * 10 ^ k ≡ w * 10 ^ (k - 1) * 10 = ap (λ p. w * p) power ∙ omega arith in
        let zero_digit : c ≡ 48 = omega (arith, value, tens, bounds.0, bounds.1) in
        no_last_zero front (subst (λ d. without_zeros (front ++ d ∷ []) ≡ front ++ d ∷ []) zero_digit (subst (λ ys. without_zeros ys ≡ ys) is fewest))

assoc : (a b c : ℕ) → a * (b * c) ≡ a * b * c
assoc a b c = omega arith

-- the value with more places
more : (n p w v : ℕ) (xs ys : List ℕ) → 0 < p → length xs < length ys → n * 10 ^ length xs ≡ decimal_value w xs * p
    → n * 10 ^ length ys ≡ decimal_value v ys * p
    → decimal_value v ys ≡ decimal_value w xs * 10 ^ (length ys - length xs)
more n p w v xs ys some l e f =
    let k : ℕ = length ys - length xs in
    let split : length ys ≡ length xs + k = omega arith in
    let power : 10 ^ length ys ≡ 10 ^ length xs * 10 ^ k = ap (λ j. 10 ^ j) split ∙ pow-add 10 (length xs) k in
    let grown : n * 10 ^ length ys ≡ decimal_value w xs * p * 10 ^ k = ap (λ q. n * q) power ∙ assoc n (10 ^ length xs) (10 ^ k) ∙ ap (λ q. q * 10 ^ k) e in
    let same : decimal_value v ys * p ≡ decimal_value w xs * 10 ^ k * p = sym f ∙ grown ∙ omega arith in
    eq_of_mul-eq-mul_right p some (decimal_value v ys) (decimal_value w xs * 10 ^ k) same

-- the whole part and the decimals are determined
parts_same : (digits n : ℕ) (t u : List ℕ) (a : IsDecimalText digits n t) (b : IsDecimalText digits n u) → (a.whole ≡ b.whole) × (a.decimals ≡ b.decimals)
parts_same digits n t u a b = by_order (cases_order (length xs) (length ys))
  where
    xs : List ℕ
    xs = a.decimals

    ys : List ℕ
    ys = b.decimals

    p : ℕ
    p = 10 ^ digits

    some : 0 < p
    some = one-le-pow digits 10 (lit< tt)

    by_order : (length xs ≡ length ys) ⊎ ((length xs < length ys) ⊎ (length ys < length xs)) → (a.whole ≡ b.whole) × (xs ≡ ys)
    by_order (inl l) =
        let same : decimal_value a.whole xs * p ≡ decimal_value b.whole ys * p = sym a.same ∙ ap (λ k. n * 10 ^ k) l ∙ b.same in
        digits_same a.whole b.whole xs ys l a.are_digits b.are_digits
        (eq_of_mul-eq-mul_right p some (decimal_value a.whole xs) (decimal_value b.whole ys) same)
    by_order (inr (inl l)) = absurd (longer (decimal_value a.whole xs) b.whole (length ys - length xs) ys
        (sub-pos_iff_lt.1 l) b.are_digits b.fewest (more n p a.whole b.whole xs ys some l a.same b.same) (omega (arith, l)))
    by_order (inr (inr l)) = absurd (longer (decimal_value b.whole ys) a.whole (length xs - length ys) xs
        (sub-pos_iff_lt.1 l) a.are_digits a.fewest (more n p b.whole a.whole ys xs some l b.same a.same) (omega (arith, l)))

-- at most one text is of a kind
abbrev HasOne : (List ℕ → Type 0) → Type 0
HasOne P = (t u : List ℕ) → P t → P u → t ≡ u

one_decimal : (digits n : ℕ) → HasOne (IsDecimalText digits n)
one_decimal digits n t u a b =
    let same = parts_same digits n t u a b in
    a.is ∙ ap (λ w. decimal w ++ after_point a.decimals) same.0 ∙ ap (λ ds. decimal b.whole ++ after_point ds) same.1 ∙ sym b.is

one_constant : (digits : ℕ) (z : ℤ) → HasOne (IsConstantText digits z)
one_constant digits (pos n) t u a b = one_decimal digits n t u a b
one_constant digits (negsuc n) t u (x, a, e) (y, b, f) = e ∙ ap (λ l. codes "-" ++ l) (one_decimal digits (suc n) x y a b) ∙ sym f

one_atom : (s : Scale) (a : Atom) → HasOne (IsAtomText s a)
one_atom s a t u (x, h, e) (y, k, f) =
    e ∙ ap (λ l. terms_text a.terms ++ codes " " ++ relation_text a.rel ++ codes " " ++ l) (one_constant s.value a.limit x y h k) ∙ sym f

one_upper : (s : Scale) (b : Option ℕ) → HasOne (IsUpperText s b)
one_upper s None t u e f = e ∙ sym f
one_upper s (Some b) t u h k = one_decimal s.time b t u h k

one_bound : (s : Scale) (a : ℕ) (b : Option ℕ) (a_in b_in : Bool) → HasOne (IsBoundText s a b a_in b_in)
one_bound s a b a_in b_in t u (x, y, h, i, e) (v, w, j, k, f) =
    e ∙ ap (λ l. opening a_in ++ l ++ codes "," ++ y ++ closing b_in) (one_decimal s.time a x v h j)
    ∙ ap (λ l. opening a_in ++ v ++ codes "," ++ l ++ closing b_in) (one_upper s b y w i k) ∙ sym f

one_of_two : (b : Bool) (P Q : List ℕ → Type 0) → HasOne P → HasOne Q → HasOne (λ t. MatchBool b (P t) (Q t))
one_of_two true P Q h k t u a b = h t u a b
one_of_two false P Q h k t u a b = k t u a b

one_past : (s : Scale) (a : ℕ) (b : Option ℕ) (a_in b_in : Bool) → HasOne (IsPastBoundText s a b a_in b_in)
one_past s a (Some b) a_in b_in t u h k = one_bound s a (Some b) a_in b_in t u h k
one_past s a None a_in b_in t u h k =
    one_of_two ((a == 0) && a_in) (λ t. t ≡ []) (IsBoundText s a None a_in b_in) (λ t u e f. e ∙ sym f) (one_bound s a None a_in b_in) t u h k

one_bare : (word : List ℕ) → HasOne (Bare word)
one_bare word t u e f = e ∙ sym f

one_bounded : (word : List ℕ) (P : List ℕ → Type 0) → HasOne P → HasOne (Bounded word P)
one_bounded word P one t u (x, h, e) (y, k, f) = e ∙ ap (λ l. word ++ l) (one x y h k) ∙ sym f

one_in_parens : (b : Bool) (P : List ℕ → Type 0) → HasOne P → HasOne (InParens b P)
one_in_parens b P one t u (x, h, e) (y, k, f) = e ∙ ap (λ l. if b then codes "(" ++ l ++ codes ")" else l) (one x y h k) ∙ sym f

one_before : (W P : List ℕ → Type 0) → HasOne W → HasOne P → HasOne (Before W P)
one_before W P word one t u (w, x, h, i, e) (v, y, j, k, f) =
    e ∙ ap (λ l. l ++ codes " " ++ x) (word w v h j) ∙ ap (λ l. v ++ codes " " ++ l) (one x y i k) ∙ sym f

one_between : (P W Q : List ℕ → Type 0) → HasOne P → HasOne W → HasOne Q → HasOne (Between P W Q)
one_between P W Q left word right t u (x, w, y, h, i, j, e) (x', w', y', k, l, m, f) =
    e ∙ ap (λ z. z ++ codes " " ++ w ++ codes " " ++ y) (left x x' h k) ∙ ap (λ z. x' ++ codes " " ++ z ++ codes " " ++ y) (word w w' i l)
    ∙ ap (λ z. x' ++ codes " " ++ w' ++ codes " " ++ z) (right y y' j m) ∙ sym f

-- a tree has one printed text
pub one_printed : (s : Scale) (p : Subformula) → HasOne (IsPrinted s p)
one_printed s (constant b) = λ t u e f. e ∙ sym f
one_printed s (atom i a) = one_atom s a
one_printed s (negation p) = one_before _ _ (one_bare (codes "not")) (one_in_parens (has_two p) _ (one_printed s p))
one_printed s (conjunction p q) = one_between _ _ _ (one_in_parens (has_two p) _ (one_printed s p)) (one_bare (codes "and"))
    (one_in_parens (has_two q) _ (one_printed s q))
one_printed s (disjunction p q) = one_between _ _ _ (one_in_parens (has_two p) _ (one_printed s p)) (one_bare (codes "or"))
    (one_in_parens (has_two q) _ (one_printed s q))
one_printed s (implication p q) = one_between _ _ _ (one_in_parens (has_two p) _ (one_printed s p)) (one_bare (codes "implies"))
    (one_in_parens (has_two q) _ (one_printed s q))
one_printed s (until a b p q) =
    one_between _ _ _ (one_in_parens (has_two p) _ (one_printed s p))
    (one_bounded (codes "until") _ (one_bound s a (Some b) true true)) (one_in_parens (has_two q) _ (one_printed s q))
one_printed s (since a b p q) =
    one_between _ _ _ (one_in_parens (has_two p) _ (one_printed s p)) (one_bounded (codes "since") _ (one_past s a b true true))
    (one_in_parens (has_two q) _ (one_printed s q))
one_printed s (eventually a b a_in b_in p) = one_before _ _
    (one_bounded (codes "eventually") _ (one_bound s a (Some b) a_in b_in)) (one_in_parens (has_two p) _ (one_printed s p))
one_printed s (always a b a_in b_in p) =
    one_before _ _ (one_bounded (codes "always") _ (one_bound s a (Some b) a_in b_in)) (one_in_parens (has_two p) _ (one_printed s p))
one_printed s (once a b a_in b_in p) = one_before _ _ (one_bounded (codes "once") _ (one_past s a b a_in b_in)) (one_in_parens (has_two p) _ (one_printed s p))
one_printed s (historically a b a_in b_in p) =
    one_before _ _ (one_bounded (codes "historically") _ (one_past s a b a_in b_in)) (one_in_parens (has_two p) _ (one_printed s p))
