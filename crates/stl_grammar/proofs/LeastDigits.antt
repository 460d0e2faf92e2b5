-- Where the tokens of a formula have fewer decimals than the scale has digits, its numbers are multiples of ten.
use Rattle.std.proofs.Common.{◌≡◌, ℕ, suc, ◌-◌, ◌*◌, ◌^◌, ◌%◌, ◌<◌, ◌≤◌, List, [], ◌∷◌, ◌++◌}
use Rattle.std.proofs.Common.{refl, ap, sym, ◌∙◌, Bool, arith, append_assoc, inl, inr, ◌⊎◌}
use Rattle.std.specs.Prelude.{codes, nat_abs, Option, All}
use Rattle.std.proofs.Math.Nat.{pow-suc}
use Rattle.std.proofs.lemmas.List.{append-nil}
use Rattle.std.proofs.lemmas.Bool.{cases_order}
use Rattle.stl_syntax.specs.declared.rel.Rel.{Rel}
use Rattle.std.proofs.lemmas.List.Elements.{All-append, All-cons, All-nil, All-head, All-tail, All-weaker}
use Rattle.stl_syntax.specs.Characters.{ticks}
use Rattle.stl_syntax.specs.declared.scale.Scale.{Scale}
use Rattle.stl_syntax.specs.declared.node.Node.{Node}
use Rattle.stl_syntax.specs.declared.node.Node.TheVariants.{Const, Atom as Leaf}
use Rattle.stl_grammar.specs.Grammar.{Token, word, number, relation, open_paren, close_paren, comma, plus, minus}
use Rattle.stl_grammar.specs.Grammar.{first_decimals, value_digits, time_digits, IsConstant, plain, positive, negative, IsAtom, first, signed}
use Rattle.stl_grammar.specs.declared.operator.Timed.{Timed}
use Rattle.stl_grammar.specs.declared.operator.Timed.TheVariants.{Until as TUntil, Eventually as TEventually, Always as TAlways}
use Rattle.stl_grammar.proofs.Derivations.{Connective, by_and, connective_word, connective_node, timed_word, timed_node, Bounded, left_out, within, endless}
use Rattle.stl_grammar.proofs.Derivations.{has_upper, Operand, negated, prefixed, constant, enclosed, compared, Derived, joined, beside, alone}
use Rattle.stl_grammar.proofs.Derivations.{formula_derived}
use Rattle.stl_grammar.specs.Laws.{with_upper, bounds_of, constants_of, Any, IsUneven, NeedsDigits, PrintedTextsAreRead}
use Rattle.stl_grammar.proofs.NumberLemmas.{abs_neg}
use Rattle.stl_grammar.proofs.PrintedRead.{printed_read}

-- a number with fewer decimals is a multiple of ten ticks
ticks_ten : (digits a j : ℕ) → j < digits → ticks digits a j % 10 ≡ 0
ticks_ten digits a j l =
    let i : digits - j ≡ suc (digits - j - 1) = omega arith in
    let f : a * 10 ^ (digits - j) ≡ a * 10 ^ (digits - j - 1) * 10 = ap (λ z. a * 10 ^ z) i ∙ (ap (λ z. a * z) (pow-suc 10 (digits - j - 1)) ∙ omega arith) in
    omega (arith, f)

first_grows : (ts us : List Token) → first_decimals ts ≤ first_decimals (ts ++ us)
first_grows [] us = omega arith
first_grows (number n k ∷ ts) us = omega arith
first_grows (plus ∷ []) us = omega arith
first_grows (minus ∷ []) us = omega arith
first_grows (plus ∷ number n k ∷ ts) us = omega arith
first_grows (minus ∷ number n k ∷ ts) us = omega arith
first_grows (plus ∷ u ∷ ts) us = omega arith
first_grows (minus ∷ u ∷ ts) us = omega arith
first_grows (t ∷ ts) us = omega arith

-- the decimals about commas, and after relations, are at most so many
record IsLow (dt dv : ℕ) (ts : List Token) : Type 0 where
  time : (pre post : List Token) (a j : ℕ) → ts ≡ pre ++ number a j ∷ comma ∷ post → (j ≤ dt) × (first_decimals post ≤ dt)
  value : (pre post : List Token) (r : _) → ts ≡ pre ++ relation r ∷ post → first_decimals post ≤ dv

low_left : (dt dv : ℕ) (ts us : List Token) → IsLow dt dv (ts ++ us) → IsLow dt dv ts
low_left dt dv ts us h = record {
  time = λ pre post a j e.
      let x = h.time pre (post ++ us) a j (ap (λ z. z ++ us) e ∙ append_assoc pre (number a j ∷ comma ∷ post) us) in
      let y = first_grows post us in (x.0, omega (arith, x.1, y));
  value = λ pre post r e.
      let x = h.value pre (post ++ us) r (ap (λ z. z ++ us) e ∙ append_assoc pre (relation r ∷ post) us) in
      let y = first_grows post us in omega (arith, x, y);
}

low_right : (dt dv : ℕ) (ts us : List Token) → IsLow dt dv (ts ++ us) → IsLow dt dv us
low_right dt dv ts us h = record {
  time = λ pre post a j e. h.time (ts ++ pre) post a j (ap (λ z. ts ++ z) e ∙ sym (append_assoc ts pre (number a j ∷ comma ∷ post)));
  value = λ pre post r e. h.value (ts ++ pre) post r (ap (λ z. ts ++ z) e ∙ sym (append_assoc ts pre (relation r ∷ post)));
}

low_rest : (dt dv : ℕ) (t : Token) (ts : List Token) → IsLow dt dv (t ∷ ts) → IsLow dt dv ts
low_rest dt dv t ts h = low_right dt dv (t ∷ []) ts h

time_low : (pre post : List Token) (a j : ℕ)
    → (j ≤ time_digits (pre ++ number a j ∷ comma ∷ post)) × (first_decimals post ≤ time_digits (pre ++ number a j ∷ comma ∷ post))
time_low [] post a j = (omega arith, omega arith)
time_low (number n i ∷ pre) post a j = let x = time_low pre post a j in (omega (arith, x.0), omega (arith, x.1))
time_low (t ∷ pre) post a j = time_low pre post a j

-- the constant after a relation has no more decimals than all
pub value_low : (pre post : List Token) (r : Rel) → first_decimals post ≤ value_digits (pre ++ relation r ∷ post)
value_low [] post r = omega arith
value_low (relation q ∷ pre) post r = let x = value_low pre post r in omega (arith, x)
value_low (t ∷ pre) post r = value_low pre post r

whole_low : (ts : List Token) → IsLow (time_digits ts) (value_digits ts) ts
whole_low ts = record {
  time = λ pre post a j e. let x = time_low pre post a j in let f = ap time_digits e in (omega (arith, x.0, f), omega (arith, x.1, f));
  value = λ pre post r e. let x = value_low pre post r in let f = ap value_digits e in omega (arith, x, f);
}

-- all are multiples of ten
abbrev Tens : List ℕ → Type 0
Tens [] = Unit {0}
Tens (x ∷ xs) = (x % 10 ≡ 0) × Tens xs

abs_ticks : {d : ℕ} {vs : List Token} {c : _} (us : List Token) → IsConstant d vs c → first_decimals (vs ++ us) < d → nat_abs c % 10 ≡ 0
abs_ticks {d} us (plain {n = n} {k}) l = ticks_ten d n k l
abs_ticks {d} us (positive {n = n} {k}) l = ticks_ten d n k l
abs_ticks {d} us (negative {n = n} {k}) l = ap (λ z. z % 10) (abs_neg (ticks d n k)) ∙ ticks_ten d n k l

-- the numbers of an operator's node are those of its bound
pub node_bounds : (of : Timed) {d a : ℕ} {b : Option ℕ} {us : List Token} {x y : Bool} (p q : ℕ) → Bounded d of us a b x y
    → bounds_of (timed_node of a b x y p q) ≡ with_upper a b
node_bounds TUntil {a = a} p q w = ap (λ z. with_upper a z) (has_upper TUntil refl w)
node_bounds TEventually {a = a} p q w = ap (λ z. with_upper a z) (has_upper TEventually refl w)
node_bounds TAlways {a = a} p q w = ap (λ z. with_upper a z) (has_upper TAlways refl w)
node_bounds _ p q w = refl

node_constants : (of : Timed) (a : ℕ) (b : Option ℕ) (x y : Bool) (p q : ℕ) → constants_of (timed_node of a b x y p q) ≡ []
node_constants TUntil a b x y p q = refl
node_constants _ a b x y p q = refl

module _ (s : Scale) (dt dv : ℕ) where
  -- the node's numbers are multiples of ten where the decimals are fewer
  abbrev IsTen : Node → Type 0
  IsTen n = (dt < s.time → Tens (bounds_of n)) × (dv < s.value → Tens (constants_of n))

  abbrev Low : List Token → Type 0
  Low ts = IsLow dt dv ts

  one_ten : (ns : List Node) (n : Node) → All IsTen ns → IsTen n → All IsTen (ns ++ n ∷ [])
  one_ten ns n h g = All-append IsTen ns (n ∷ []) h (All-cons IsTen n [] g (All-nil IsTen))

  two_ten : (ns ms : List Node) (n : Node) → All IsTen ns → All IsTen ms → IsTen n → All IsTen (ns ++ ms ++ n ∷ [])
  two_ten ns ms n h k g = one_ten (ns ++ ms) n (All-append IsTen ns ms h k) g

  bound_ten : {o : Timed} {us : List Token} {a : ℕ} {b : Option ℕ} {x y : Bool} → Bounded s.time o us a b x y → Low us → dt < s.time → Tens (with_upper a b)
  bound_ten (left_out e) h l = (omega arith, tt)
  bound_ten (within {a = a} {j} {b} {k} {t} {u} p q) h l =
      let z = h.time (t ∷ []) (number b k ∷ u ∷ []) a j refl in (ticks_ten s.time a j (omega (arith, z.0)), (ticks_ten s.time b k (omega (arith, z.1)), tt))
  bound_ten (endless {a = a} {j} {t} {u} e p q) h l =
      let z = h.time (t ∷ []) (word (codes "inf") ∷ u ∷ []) a j refl in (ticks_ten s.time a j (omega (arith, z.0)), tt)

  atom_ten : {ts : List Token} {a : _} → IsAtom s.value ts a → Low ts → dv < s.value → Tens (constants_of (Leaf a))
  atom_ten (first {ts = ts} {us = us} {vs = vs} {rel = rel} t u c) h l =
      let z = h.value (ts ++ us) vs rel refl in let y = first_grows vs [] in
      (abs_ticks [] c (rw (append-nil vs) (omega (arith, z))), tt)
  atom_ten (signed {us = us} {vs = vs} {rel = rel} u c) h l =
      let z = h.value us vs rel refl in (abs_ticks [] c (rw (append-nil vs) (omega (arith, z))), tt)

  connective_ten : (o : Connective) (p q : ℕ) → IsTen (connective_node o p q)
  connective_ten by_and p q = (λ i. tt, λ i. tt)
  connective_ten _ p q = (λ i. tt, λ i. tt)

  timed_ten : (of : Timed) {us : List Token} {a : ℕ} {b : Option ℕ} {x y : Bool} (p q : ℕ) → Bounded s.time of us a b x y → Low us
      → IsTen (timed_node of a b x y p q)
  timed_ten of {a = a} {b} {x} {y} p q w h = (λ i. rw (node_bounds of p q w) (bound_ten w h i), λ i. rw (node_constants of a b x y p q) tt)

  mutual
    derived_ten : {r k : ℕ} {ts : List Token} {ns : List Node} → Derived s r k ts ns → Low ts → All IsTen ns
    derived_ten (joined o {ts = ts} {us} {ns} {ms} l d e) h =
        let w : Token = word (connective_word o) in
        two_ten ns ms _ (derived_ten d (low_left dt dv ts (w ∷ us) h)) (derived_ten e (low_rest dt dv w us (low_right dt dv ts (w ∷ us) h)))
        (connective_ten o _ _)
    derived_ten (beside of {ts = ts} {us} {vs} {ns} {ms} e l p w q) h =
        let i = low_rest dt dv (word (timed_word of)) (us ++ vs) (low_right dt dv ts (word (timed_word of) ∷ (us ++ vs)) h) in
        two_ten ns ms _ (operand_ten p (low_left dt dv ts (word (timed_word of) ∷ (us ++ vs)) h)) (operand_ten q (low_right dt dv us vs i))
        (timed_ten of _ _ w (low_left dt dv us vs i))
    derived_ten (alone p) h = operand_ten p h

    operand_ten : {k : ℕ} {ts : List Token} {ns : List Node} → Operand s k ts ns → Low ts → All IsTen ns
    operand_ten (negated {ts = ts} {ns} p) h = one_ten ns _ (operand_ten p (low_rest dt dv (word (codes "not")) ts h)) (λ i. tt, λ i. tt)
    operand_ten (prefixed of {ts = ts} {us} {ns} e w p) h =
        let i = low_rest dt dv (word (timed_word of)) (us ++ ts) h in
        one_ten ns _ (operand_ten p (low_right dt dv us ts i)) (timed_ten of _ _ w (low_left dt dv us ts i))
    operand_ten (constant b) h = All-cons IsTen (Const b) [] (λ i. tt, λ i. tt) (All-nil IsTen)
    operand_ten (enclosed {ts = ts} d) h = derived_ten d (low_left dt dv ts (close_paren ∷ []) (low_rest dt dv open_paren (ts ++ close_paren ∷ []) h))
    operand_ten (compared {a = a} x) h = All-cons IsTen (Leaf a) [] (λ i. tt, λ i. atom_ten x h i) (All-nil IsTen)

-- where all numbers are multiples of ten, none is not
no_uneven : (xs : List ℕ) → Tens xs → ¬ Any IsUneven xs
no_uneven [] h a = a
no_uneven (x ∷ xs) h (inl a) = a h.0
no_uneven (x ∷ xs) h (inr a) = no_uneven xs h.1 a

no_node : (numbers : Node → List ℕ) (ns : List Node) → All (λ n. Tens (numbers n)) ns → ¬ Any (λ n. Any IsUneven (numbers n)) ns
no_node numbers [] h a = a
no_node numbers (n ∷ ns) h (inl a) = no_uneven (numbers n) (All-head (λ n. Tens (numbers n)) n ns h) a
no_node numbers (n ∷ ns) h (inr a) = no_node numbers ns (All-tail (λ n. Tens (numbers n)) n ns h) a

-- digits that are needed are there
digits_there : (digits low : ℕ) (numbers : Node → List ℕ) (ns : List Node) → low ≤ digits
    → (low < digits → All (λ n. Tens (numbers n)) ns) → NeedsDigits digits numbers ns → digits ≡ low
digits_there digits low numbers ns l h (inl e) = omega arith
digits_there digits low numbers ns l h (inr a) = by_order (cases_order digits low)
  where
    by_order : (digits ≡ low) ⊎ ((digits < low) ⊎ (low < digits)) → digits ≡ low
    by_order (inl e) = e
    by_order (inr (inl m)) = absurd (omega arith)
    by_order (inr (inr m)) = absurd (no_node numbers ns (h m) a)

scale_is : (s : Scale) (t v : ℕ) → s.time ≡ t → s.value ≡ v → s ≡ record { time = t; value = v }
scale_is s t v e f = ap (λ z. scale_by z s.value) e ∙ ap (λ z. scale_by t z) f
  where
    scale_by : ℕ → ℕ → Scale
    scale_by t v = record { time = t; value = v }

-- the printed text of a formula that was read is read as it
pub printed_texts_are_read : PrintedTextsAreRead
printed_texts_are_read f text w least h =
    let (ts, l, d, short) = printed_read f text w h in
    let all = derived_ten f.scale (time_digits ts) (value_digits ts) (formula_derived 1 (omega arith) d) (whole_low ts) in
    let P = IsTen f.scale (time_digits ts) (value_digits ts) in
    let time = digits_there f.scale.time (time_digits ts) bounds_of f.nodes short.short.time (λ m.
    All-weaker P (λ n. Tens (bounds_of n)) (λ n g. g.0 m) f.nodes all) least.time in
    let value = digits_there f.scale.value (value_digits ts) constants_of f.nodes short.short.value (λ m.
    All-weaker P (λ n. Tens (constants_of n)) (λ n g. g.1 m) f.nodes all) least.value in
    record { tokens = ts; lexed = l; scale = scale_is f.scale (time_digits ts) (value_digits ts) time value; parsed = d }
