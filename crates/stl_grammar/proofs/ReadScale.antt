-- The scale of a formula that was read is the least that holds its numbers.
use Rattle.std.proofs.Common.{◌≡◌, ℕ, zero, suc, ◌-◌, ◌*◌, ◌^◌, ◌%◌, ◌<◌, ◌≤◌, List, [], ◌∷◌, ◌++◌, length}
use Rattle.std.proofs.Common.{reverse, refl, ap, sym, ◌∙◌, Bool, true, false, max, arith, append_assoc, inl, inr, ◌⊎◌}
use Rattle.std.specs.Prelude.{codes, ◌==◌, nat_abs, Option}
use Rattle.std.proofs.lemmas.List.{append-nil, reverse-append}
use Rattle.std.proofs.lemmas.Bool.{cases_order, and_parts}
use Rattle.std.proofs.lemmas.Bool.Decides.{nat_tests}
use Rattle.stl_syntax.specs.Characters.{is_digit, all, decimal_value, without_zeros, after_first, ticks}
use Rattle.stl_syntax.specs.declared.scale.Scale.{Scale}
use Rattle.stl_syntax.specs.declared.node.Node.{Node}
use Rattle.stl_syntax.specs.declared.node.Node.TheVariants.{Atom as Leaf}
use Rattle.stl_syntax.specs.declared.atom.Atom.{Atom}
use Rattle.stl_syntax.proofs.DecimalLemmas.{decimal_value-push, all-without_zeros}
use Rattle.stl_grammar.specs.Tokens.{an_integer, a_decimal, Lexes, nothing as no_text, token, blank}
use Rattle.stl_grammar.specs.Grammar.{Token, word, number, relation, open_paren, close_paren, comma, first_decimals, value_digits, time_digits}
use Rattle.stl_grammar.specs.Grammar.{IsConstant, plain, positive, negative, IsAtom, first, signed}
use Rattle.stl_grammar.specs.Laws.{with_upper, bounds_of, constants_of, Any, IsUneven, NeedsDigits, ReadScalesAreLeast}
use Rattle.stl_grammar.specs.declared.operator.Timed.{Timed}
use Rattle.stl_grammar.proofs.Derivations.{connective_word, timed_word, timed_node, constant_word, by_brackets, Bounded, left_out, within, endless}
use Rattle.stl_grammar.proofs.Derivations.{Operand, negated, prefixed, constant, enclosed, compared, Derived, joined, beside, alone, formula_derived}
use Rattle.stl_grammar.proofs.NumberLemmas.{abs_neg}
use Rattle.stl_grammar.proofs.LeastDigits.{value_low, node_bounds}
use Rattle.stl_grammar.proofs.TokenEnds.{ends_well, begins_comma, derived_ends, operand_ends, bound_time, bound_value}
use Rattle.stl_grammar.proofs.TokenEnds.{time_append, value_append, short_atom, short_signed}

-- a decimal whose last digit is no zero is no multiple of ten
last_uneven : (v : ℕ) (front : List ℕ) (c : ℕ) → is_digit c ≡ true → (c ≡ 48 → ⊥) → IsUneven (decimal_value v (front ++ c ∷ []))
last_uneven v front c d n e =
    let f = decimal_value-push v front c in
    let l = digit_low c d in
    n (omega (arith, e, f, l.0, l.1))
  where
    digit_low : (c : ℕ) → is_digit c ≡ true → (48 ≤ c) × (c ≤ 57)
    digit_low c h = (grind (arith, nat_tests, h), grind (arith, nat_tests, h))

-- without zeros at the end, decimals are none, or end in another digit
record EndsWell (xs : List ℕ) : Type 0 where
  front : List ℕ
  last : ℕ
  is : xs ≡ front ++ last ∷ []
  other : last ≡ 48 → ⊥

after_zeros : (xs : List ℕ) → (after_first (λ c. c == 48) xs ≡ []) ⊎ ((c : ℕ) × (more : List ℕ) × (after_first (λ c. c == 48) xs ≡ c ∷ more) × (c ≡ 48 → ⊥))
after_zeros [] = inl refl
after_zeros (c ∷ xs) = split (c == 48) refl (after_zeros xs)
  where
    split : (b : Bool) → (c == 48) ≡ b
        → ((after_first (λ c. c == 48) xs ≡ []) ⊎ ((d : ℕ) × (more : List ℕ) × (after_first (λ c. c == 48) xs ≡ d ∷ more) × (d ≡ 48 → ⊥)))
        → (after_first (λ c. c == 48) (c ∷ xs) ≡ []) ⊎ ((d : ℕ) × (more : List ℕ) × (after_first (λ c. c == 48) (c ∷ xs) ≡ d ∷ more) × (d ≡ 48 → ⊥))
    split true e h = rw e h
    split false e h = inr (c, xs, rw e refl, λ f. let g : (48 == 48) ≡ false = rw f at e in cc)

without_ends : (xs : List ℕ) → (without_zeros xs ≡ []) ⊎ EndsWell (without_zeros xs)
without_ends xs = by_case (after_zeros (reverse xs))
  where
    by_case : (after_first (λ c. c == 48) (reverse xs) ≡ []) ⊎ ((c : ℕ) × (more : List ℕ) × (after_first (λ c. c == 48) (reverse xs) ≡ c ∷ more) × (c ≡ 48 → ⊥))
        → (without_zeros xs ≡ []) ⊎ EndsWell (without_zeros xs)
    by_case (inl e) = inl (ap (λ z. reverse z) e)
    by_case (inr (c, more, e, n)) = inr (record { front = reverse more; last = c; is = ap (λ z. reverse z) e ∙ reverse-append (c ∷ []) more; other = n })

-- a number with decimals is no multiple of ten
abbrev AreExact : List Token → Type 0
AreExact [] = Unit {0}
AreExact (number v k ∷ ts) = ((k ≡ 0) ⊎ IsUneven v) × AreExact ts
AreExact (_ ∷ ts) = AreExact ts

number_exact : (digits decimals : List ℕ) → all is_digit decimals ≡ true
    → (length (without_zeros decimals) ≡ 0) ⊎ IsUneven (decimal_value 0 (digits ++ without_zeros decimals))
number_exact digits decimals h = by_case (without_ends decimals)
  where
    by_case : (without_zeros decimals ≡ []) ⊎ EndsWell (without_zeros decimals)
        → (length (without_zeros decimals) ≡ 0) ⊎ IsUneven (decimal_value 0 (digits ++ without_zeros decimals))
    by_case (inl e) = inl (ap (λ z. length z) e)
    by_case (inr w) =
        let a : all is_digit (w.front ++ w.last ∷ []) ≡ true = ap (λ z. all is_digit z) (sym w.is) ∙ all-without_zeros decimals h in
        let d = last_digit w.front w.last a in
        let e : decimal_value 0 (digits ++ without_zeros decimals) ≡ decimal_value 0 (digits ++ w.front ++ w.last ∷ []) =
        ap (λ z. decimal_value 0 (digits ++ z)) w.is ∙ ap (λ z. decimal_value 0 z) (sym (append_assoc digits w.front (w.last ∷ []))) in
        inr (λ x. last_uneven 0 (digits ++ w.front) w.last d w.other (ap (λ z. z % 10) (sym e) ∙ x))
      where
        last_digit : (front : List ℕ) (c : ℕ) → all is_digit (front ++ c ∷ []) ≡ true → is_digit c ≡ true
        last_digit [] c h = (and_parts (is_digit c) true h).0
        last_digit (x ∷ front) c h = last_digit front c (and_parts (is_digit x) (all is_digit (front ++ c ∷ [])) h).1

lexes_exact : {text : List ℕ} {ts : List Token} → Lexes text ts → AreExact ts
lexes_exact no_text = tt
lexes_exact (blank b l) = lexes_exact l
lexes_exact (token bytes text e (an_integer a s n) l) = (inl refl, lexes_exact l)
lexes_exact (token bytes text e (a_decimal c digits d decimals a b s) l) = (number_exact (c ∷ digits) (d ∷ decimals) b, lexes_exact l)
lexes_exact (token bytes text e _ l) = lexes_exact l

exact_left : (ts us : List Token) → AreExact (ts ++ us) → AreExact ts
exact_left [] us h = tt
exact_left (number n k ∷ ts) us h = (h.0, exact_left ts us h.1)
exact_left (t ∷ ts) us h = exact_left ts us h

exact_right : (ts us : List Token) → AreExact (ts ++ us) → AreExact us
exact_right [] us h = h
exact_right (number n k ∷ ts) us h = exact_right ts us h.1
exact_right (t ∷ ts) us h = exact_right ts us h

-- a number with all the digits
ticks_full : (d v k : ℕ) → k ≡ d → 0 < d → (k ≡ 0) ⊎ IsUneven v → IsUneven (ticks d v k)
ticks_full d v k e l (inl z) = absurd (omega arith)
ticks_full d v k e l (inr u) =
    let f : v * 10 ^ (d - k) ≡ v = (let g : d - k ≡ 0 = omega arith in ap (λ z. v * 10 ^ z) g ∙ omega arith) in λ x. u (ap (λ z. z % 10) (sym f) ∙ x)

-- one of some
any_left : {X : Type 0} (P : X → Type 0) (xs ys : List X) → Any P xs → Any P (xs ++ ys)
any_left P [] ys h = absurd h
any_left P (x ∷ xs) ys (inl h) = inl h
any_left P (x ∷ xs) ys (inr h) = inr (any_left P xs ys h)

any_right : {X : Type 0} (P : X → Type 0) (xs ys : List X) → Any P ys → Any P (xs ++ ys)
any_right P [] ys h = h
any_right P (x ∷ xs) ys h = inr (any_right P xs ys h)

-- one of two numbers is the greatest
of_max : (a b d : ℕ) → max a b ≡ d → (a ≡ d) ⊎ (b ≡ d)
of_max a b d e = by_order (cases_order a b)
  where
    by_order : (a ≡ b) ⊎ ((a < b) ⊎ (b < a)) → (a ≡ d) ⊎ (b ≡ d)
    by_order (inl f) = inl (omega arith)
    by_order (inr (inl f)) = inr (omega arith)
    by_order (inr (inr f)) = inl (omega arith)

-- one of the nodes of an operator
in_left : (P : Node → Type 0) (ns ms : List Node) (n : Node) → Any P ns → Any P (ns ++ ms ++ n ∷ [])
in_left P ns ms n h = any_left P (ns ++ ms) (n ∷ []) (any_left P ns ms h)

in_right : (P : Node → Type 0) (ns ms : List Node) (n : Node) → Any P ms → Any P (ns ++ ms ++ n ∷ [])
in_right P ns ms n h = any_left P (ns ++ ms) (n ∷ []) (any_right P ns ms h)

in_last : (P : Node → Type 0) (ns : List Node) (n : Node) → P n → Any P (ns ++ n ∷ [])
in_last P ns n h = any_right P ns (n ∷ []) (inl h)

-- of two numbers with the greatest decimals
one_of_two : (d a j b k : ℕ) → max j k ≡ d → 0 < d → (j ≡ 0) ⊎ IsUneven a → (k ≡ 0) ⊎ IsUneven b → Any IsUneven (ticks d a j ∷ ticks d b k ∷ [])
one_of_two d a j b k e l g h = by_which (of_max j k d e)
  where
    by_which : (j ≡ d) ⊎ (k ≡ d) → Any IsUneven (ticks d a j ∷ ticks d b k ∷ [])
    by_which (inl f) = inl (ticks_full d a j f l g)
    by_which (inr f) = inr (inl (ticks_full d b k f l h))

-- a bound that has all the digits
bound_any : {d a : ℕ} {o : Timed} {b : Option ℕ} {us : List Token} {x y : Bool} → Bounded d o us a b x y → AreExact us → 0 < d
    → time_digits us ≡ d → Any IsUneven (with_upper a b)
bound_any {d} (left_out e) h l f = absurd (omega (arith, f))
bound_any {d} (within {a = a} {j} {b} {k} p q) h l e =
    let f = by_brackets (λ t u. time_digits (t ∷ number a j ∷ comma ∷ number b k ∷ u ∷ []) ≡ max j k)
    (omega arith) (omega arith) (omega arith) (omega arith) p q in
    let x = by_brackets (λ t u. AreExact (t ∷ number a j ∷ comma ∷ number b k ∷ u ∷ []) → ((j ≡ 0) ⊎ IsUneven a) × ((k ≡ 0) ⊎ IsUneven b))
    (λ h. (h.0, h.1.0)) (λ h. (h.0, h.1.0)) (λ h. (h.0, h.1.0)) (λ h. (h.0, h.1.0)) p q h in
    one_of_two d a j b k (sym f ∙ e) l x.0 x.1
bound_any {d} (endless {a = a} {j} e p q) h l f =
    let g = by_brackets (λ t u. time_digits (t ∷ number a j ∷ comma ∷ word (codes "inf") ∷ u ∷ []) ≡ j)
    (omega arith) (omega arith) (omega arith) (omega arith) p q in
    let x = by_brackets (λ t u. AreExact (t ∷ number a j ∷ comma ∷ word (codes "inf") ∷ u ∷ []) → (j ≡ 0) ⊎ IsUneven a)
    (λ h. h.0) (λ h. h.0) (λ h. h.0) (λ h. h.0) p q h in
    inl (ticks_full d a j (sym g ∙ f) l x)

-- an atom has no bounds
atom_time : {d : ℕ} {ts : List Token} {a : _} → IsAtom d ts a → time_digits ts ≡ 0
atom_time (first {vs = vs} {rel = rel} t u c) =
    let x = (short_atom (record { time = 0; value = first_decimals vs }) rel t u c (omega arith)).time in
    omega (arith, x)
atom_time (signed {vs = vs} {rel = rel} u c) =
    let x = (short_signed (record { time = 0; value = first_decimals vs }) rel u c (omega arith)).time in
    omega (arith, x)

-- a bound that has all the digits
abbrev HasUnevenBound : Node → Type 0
HasUnevenBound n = Any IsUneven (bounds_of n)

-- a measure of tokens, as the most decimals of their bounds, that is d where a node is one of P
record Measures (s : Scale) (m : List Token → ℕ) (d : ℕ) (P : Node → Type 0) : Type 0 where
  some : 0 < d
  none : m [] ≡ 0
  words : (w : List ℕ) (ts : List Token) → m (word w ∷ ts) ≡ m ts
  parens : (ts : List Token) → m (open_paren ∷ ts) ≡ m ts
  paren_ends : m (close_paren ∷ []) ≡ 0
  joins : (ts us : List Token) → ends_well ts ≡ true → begins_comma us ≡ false → m (ts ++ us) ≡ max (m ts) (m us)
  bounds : {o : Timed} {a : ℕ} {b : Option ℕ} {us : List Token} {x y : Bool} (ts : List Token) → Bounded s.time o us a b x y
      → m (us ++ ts) ≡ max (m us) (m ts)
  bound : (of : Timed) {a : ℕ} {b : Option ℕ} {us : List Token} {x y : Bool} (p q : ℕ) → Bounded s.time of us a b x y → AreExact us
      → m us ≡ d → P (timed_node of a b x y p q)
  atom : {ts : List Token} {a : Atom} → IsAtom s.value ts a → AreExact ts → m ts ≡ d → P (Leaf a)

module _ (s : Scale) (m : List Token → ℕ) (d : ℕ) (P : Node → Type 0) (h : Measures s m d P) where
  -- the sides of an operator
  sides : (ts us : List Token) (w : List ℕ) → ends_well ts ≡ true → m (ts ++ word w ∷ us) ≡ d → (m ts ≡ d) ⊎ (m us ≡ d)
  sides ts us w e f = of_max (m ts) (m us) d (sym (h.joins ts (word w ∷ us) e refl ∙ ap (λ n. max (m ts) n) (h.words w us)) ∙ f)

  mutual
    derived_any : {r k : ℕ} {ts : List Token} {ns : List Node} → Derived s r k ts ns → AreExact ts → m ts ≡ d → Any P ns
    derived_any (joined o {ts = ts} {us} {ns} {ms} l c e) x f = elim (sides ts us (connective_word o) (derived_ends c) f) [
      | inl g ↦ in_left P ns ms _ (derived_any c (exact_left ts (word (connective_word o) ∷ us) x) g)
      | inr g ↦ in_right P ns ms _ (derived_any e (exact_right ts (word (connective_word o) ∷ us) x) g)
    ]
    derived_any (beside of {ts = ts} {us} {vs} {ns} {ms} e l p w q) x f =
        let z : AreExact (us ++ vs) = exact_right ts (word (timed_word of) ∷ (us ++ vs)) x in
        elim (sides ts (us ++ vs) (timed_word of) (operand_ends p) f) [
          | inl g ↦ in_left P ns ms _ (operand_any p (exact_left ts (word (timed_word of) ∷ (us ++ vs)) x) g)
          | inr g ↦ elim (of_max (m us) (m vs) d (sym (h.bounds vs w) ∙ g)) [
            | inl i ↦ in_last P (ns ++ ms) _ (h.bound of _ _ w (exact_left us vs z) i)
            | inr i ↦ in_right P ns ms _ (operand_any q (exact_right us vs z) i)
          ]
        ]
    derived_any (alone p) x f = operand_any p x f

    operand_any : {k : ℕ} {ts : List Token} {ns : List Node} → Operand s k ts ns → AreExact ts → m ts ≡ d → Any P ns
    operand_any (negated {ts = ts} {ns} p) x f = any_left P ns _ (operand_any p x (sym (h.words _ ts) ∙ f))
    operand_any (prefixed of {ts = ts} {us} {ns} e w p) x f =
        elim (of_max (m us) (m ts) d (sym (h.words (timed_word of) (us ++ ts) ∙ h.bounds ts w) ∙ f)) [
          | inl i ↦ in_last P ns _ (h.bound of _ _ w (exact_left us ts x) i)
          | inr i ↦ any_left P ns _ (operand_any p (exact_right us ts x) i)
        ]
    operand_any (constant b) x f = let g = h.words (constant_word b) [] in absurd (omega (arith, f, g, h.none, h.some))
    operand_any (enclosed {ts = ts} c) x f =
        let g = h.parens (ts ++ close_paren ∷ []) ∙ h.joins ts (close_paren ∷ []) (derived_ends c) refl in
        derived_any c (exact_left ts (close_paren ∷ []) x) (omega (arith, f, g, h.paren_ends))
    operand_any (compared a) x f = inl (h.atom a x f)

-- the decimals of bounds
time_measure : (s : Scale) → 0 < s.time → Measures s time_digits s.time HasUnevenBound
time_measure s some = record {
  some = some;
  none = refl;
  words = λ w ts. refl;
  parens = λ ts. refl;
  paren_ends = refl;
  joins = λ ts us e f. time_append ts us e f;
  bounds = λ ts w. bound_time ts w;
  bound = λ of p q w x e. rw (node_bounds of p q w) (bound_any w x some e);
  atom = λ a x e. let z = atom_time a in absurd (omega (arith, z, e, some));
}

-- an atom has the digits of its constant
constant_any : {d : ℕ} {vs : List Token} {c : _} → IsConstant d vs c → AreExact vs → 0 < d → first_decimals vs ≡ d → IsUneven (nat_abs c)
constant_any {d} (plain {n = n} {k}) h l e = ticks_full d n k e l h.0
constant_any {d} (positive {n = n} {k}) h l e = ticks_full d n k e l h.0
constant_any {d} (negative {n = n} {k}) h l e = λ x. ticks_full d n k e l h.0 (ap (λ z. z % 10) (sym (abs_neg (ticks d n k))) ∙ x)

-- a constant that has all the digits
abbrev HasUnevenConstant : Node → Type 0
HasUnevenConstant n = Any IsUneven (constants_of n)

atom_any : {d : ℕ} {ts : List Token} {a : _} → IsAtom d ts a → AreExact ts → 0 < d → value_digits ts ≡ d → HasUnevenConstant (Leaf a)
atom_any {d} (first {ts = ts} {us} {vs} {rel = rel} t u c) h l e =
    let x = (short_atom (record { time = 0; value = first_decimals vs }) rel t u c (omega arith)).value in
    let y = value_low (ts ++ us) vs rel in
    inl (constant_any c (exact_right (ts ++ us) (relation rel ∷ vs) h) l (omega (arith, x, y, e)))
atom_any {d} (signed {us = us} {vs} {rel = rel} u c) h l e =
    let x = (short_signed (record { time = 0; value = first_decimals vs }) rel u c (omega arith)).value in
    let y = value_low us vs rel in
    inl (constant_any c (exact_right us (relation rel ∷ vs) h) l (omega (arith, x, y, e)))

bound_none : {d a : ℕ} {o : Timed} {b : Option ℕ} {us : List Token} {x y : Bool} → Bounded d o us a b x y → value_digits us ≡ 0
bound_none {us = us} w = ap value_digits (sym (append-nil us)) ∙ bound_value [] w

-- and those of constants
value_measure : (s : Scale) → 0 < s.value → Measures s value_digits s.value HasUnevenConstant
value_measure s some = record {
  some = some;
  none = refl;
  words = λ w ts. refl;
  parens = λ ts. refl;
  paren_ends = refl;
  joins = λ ts us e f. value_append ts us e;
  bounds = λ ts w. let f = bound_value ts w in let g = bound_none w in omega (arith, f, g);
  bound = λ of p q w x e. let f = bound_none w in absurd (omega (arith, e, f, some));
  atom = λ a x e. atom_any a x some e;
}

-- none, or some
none_or : (n : ℕ) → (n ≡ 0) ⊎ (0 < n)
none_or zero = inl refl
none_or (suc n) = inr (omega arith)

-- the scale of a formula that was read is the least
pub read_scales_are_least : ReadScalesAreLeast
read_scales_are_least f text h = record {
  time = by_time (none_or f.scale.time);
  value = by_value (none_or f.scale.value);
}
  where
    parsed : Derived f.scale 1 0 h.tokens f.nodes
    parsed = formula_derived 1 (omega arith) h.parsed

    exact : AreExact h.tokens
    exact = lexes_exact h.lexed

    by_time : (f.scale.time ≡ 0) ⊎ (0 < f.scale.time) → NeedsDigits f.scale.time bounds_of f.nodes
    by_time (inl e) = inl e
    by_time (inr l) = inr (derived_any f.scale time_digits f.scale.time HasUnevenBound (time_measure f.scale l) parsed exact (ap (λ s. s.time) (sym h.scale)))

    by_value : (f.scale.value ≡ 0) ⊎ (0 < f.scale.value) → NeedsDigits f.scale.value constants_of f.nodes
    by_value (inl e) = inl e
    by_value (inr l) =
        inr (derived_any f.scale value_digits f.scale.value HasUnevenConstant (value_measure f.scale l) parsed exact (ap (λ s. s.value) (sym h.scale)))
