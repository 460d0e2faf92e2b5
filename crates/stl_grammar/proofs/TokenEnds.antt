-- The last token of a formula.
use Rattle.std.proofs.Common.{◌≡◌, ℕ, List, [], ◌∷◌, ◌++◌, refl, Bool, true, false, max, ◌≤◌, arith, ap, ◌∙◌, append_assoc}
use Rattle.std.specs.Prelude.{codes}
use Rattle.stl_syntax.specs.declared.scale.Scale.{Scale}
use Rattle.stl_syntax.specs.declared.node.Node.{Node}
use Rattle.stl_grammar.specs.Tokens.{Token, word, number, relation, open_paren, close_paren, comma, plus, minus}
use Rattle.stl_grammar.specs.Grammar.{IsConstant, plain, IsTerm, scaled, AreTerms, more_plus}
use Rattle.stl_grammar.specs.Grammar.{more_minus, IsAtom, first, signed, first_decimals, value_digits, time_digits}
use Rattle.stl_grammar.specs.Grammar.{name as term_name, none as no_terms}
use Rattle.stl_grammar.specs.declared.operator.Timed.{Timed}
use Rattle.stl_grammar.proofs.Derivations.{constant_word, by_brackets, Bounded, left_out, within, endless, Operand, negated, prefixed, constant}
use Rattle.stl_grammar.proofs.Derivations.{enclosed, compared, Derived, joined, beside, alone}

-- the last token may be that of a formula
unfoldable pub can_end : Token → Bool
can_end (word w) = true
can_end (number n k) = true
can_end close_paren = true
can_end _ = false

unfoldable pub ends_well : List Token → Bool
ends_well [] = false
ends_well (t ∷ []) = can_end t
ends_well (t ∷ u ∷ ts) = ends_well (u ∷ ts)

-- one token before
pub after_one : (t : Token) (ts : List Token) → ends_well ts ≡ true → ends_well (t ∷ ts) ≡ true
unfolding ends_well
after_one t [] h = absurd (cc)
after_one t (u ∷ ts) h = h

-- and some before
pub after_some : (ts us : List Token) → ends_well us ≡ true → ends_well (ts ++ us) ≡ true
after_some [] us h = h
after_some (t ∷ ts) us h = after_one t (ts ++ us) (after_some ts us h)

constant_ends : {digits : ℕ} {ts : List Token} {c : _} → IsConstant digits ts c → ends_well ts ≡ true
unfolding ends_well can_end
constant_ends plain = refl
constant_ends _ = refl

atom_ends : {digits : ℕ} {ts : List Token} {a : _} → IsAtom digits ts a → ends_well ts ≡ true
atom_ends (first {ts = ts} {us} {vs} {rel = rel} t u c) = after_some (ts ++ us) (relation rel ∷ vs) (after_one (relation rel) vs (constant_ends c))
atom_ends (signed {us = us} {vs} {rel = rel} u c) = after_some us (relation rel ∷ vs) (after_one (relation rel) vs (constant_ends c))

truth_ends : (b : Bool) → ends_well (word (constant_word b) ∷ []) ≡ true
unfolding ends_well can_end
truth_ends true = refl
truth_ends false = refl

paren_ends : ends_well (close_paren ∷ []) ≡ true
unfolding ends_well can_end
paren_ends = refl

mutual
  -- a formula, or a part of one that operators join
  pub derived_ends : {s : Scale} {r k : ℕ} {ts : List Token} {ns : List Node} → Derived s r k ts ns → ends_well ts ≡ true
  derived_ends (joined o {ts = ts} {us} l d e) = after_some ts (word _ ∷ us) (after_one _ us (derived_ends e))
  derived_ends (beside of {ts = ts} {us} {vs} e l p w q) =
      after_some ts (word _ ∷ (us ++ vs)) (after_one _ (us ++ vs) (after_some us vs (operand_ends q)))
  derived_ends (alone p) = operand_ends p

  -- an operand
  pub operand_ends : {s : Scale} {k : ℕ} {ts : List Token} {ns : List Node} → Operand s k ts ns → ends_well ts ≡ true
  operand_ends (negated {ts = ts} p) = after_one _ ts (operand_ends p)
  operand_ends (prefixed of {ts = ts} {us} e w p) = after_one _ (us ++ ts) (after_some us ts (operand_ends p))
  operand_ends (constant b) = truth_ends b
  operand_ends (enclosed {ts = ts} d) = after_one _ (ts ++ close_paren ∷ []) (after_some ts (close_paren ∷ []) paren_ends)
  operand_ends (compared a) = atom_ends a

-- tokens that do not begin with a comma
abbrev pub begins_comma : List Token → Bool
begins_comma (comma ∷ ts) = true
begins_comma _ = false

first_append : (ts us : List Token) → ends_well ts ≡ true → first_decimals (ts ++ us) ≡ first_decimals ts
unfolding ends_well can_end
first_append [] us h = absurd (cc)
first_append (plus ∷ []) us h = absurd (cc)
first_append (minus ∷ []) us h = absurd (cc)
first_append (plus ∷ u ∷ ts) us h = by_next u
  where
    by_next : (u : Token) → first_decimals (plus ∷ u ∷ ts ++ us) ≡ first_decimals (plus ∷ u ∷ ts)
    by_next (number n k) = refl
    by_next _ = refl
first_append (minus ∷ u ∷ ts) us h = by_next u
  where
    by_next : (u : Token) → first_decimals (minus ∷ u ∷ ts ++ us) ≡ first_decimals (minus ∷ u ∷ ts)
    by_next (number n k) = refl
    by_next _ = refl
first_append (_ ∷ ts) us h = refl

-- decimals of constants in joined tokens
pub value_append : (ts us : List Token) → ends_well ts ≡ true → value_digits (ts ++ us) ≡ max (value_digits ts) (value_digits us)
unfolding ends_well can_end
value_append [] us h = absurd (cc)
value_append (word w ∷ []) us h = omega arith
value_append (number n k ∷ []) us h = omega arith
value_append (close_paren ∷ []) us h = omega arith
value_append (_ ∷ []) us h = absurd (cc)
value_append (relation r ∷ u ∷ ts) us h =
    let f = first_append (u ∷ ts) us h in let g = value_append (u ∷ ts) us h in omega (arith, f, g)
value_append (_ ∷ u ∷ ts) us h = value_append (u ∷ ts) us h

number_before : (n k : ℕ) (us : List Token) → begins_comma us ≡ false → time_digits (number n k ∷ us) ≡ time_digits us
number_before n k [] h = omega arith
number_before n k (comma ∷ us) h = absurd (cc)
number_before n k (u ∷ us) h = omega arith

-- decimals of bounds
pub time_append : (ts us : List Token) → ends_well ts ≡ true → begins_comma us ≡ false → time_digits (ts ++ us) ≡ max (time_digits ts) (time_digits us)
unfolding ends_well can_end
time_append [] us h e = absurd (cc)
time_append (word w ∷ []) us h e = omega arith
time_append (number n k ∷ []) us h e = let f = number_before n k us e in omega (arith, f)
time_append (close_paren ∷ []) us h e = omega arith
time_append (_ ∷ []) us h e = absurd (cc)
time_append (number n k ∷ comma ∷ []) us h e = absurd (cc)
time_append (number n k ∷ comma ∷ u ∷ ts) us h e =
    let f = first_append (u ∷ ts) us h in let g = time_append (comma ∷ u ∷ ts) us h e in omega (arith, f, g)
time_append (number n k ∷ u ∷ ts) us h e = let g = time_append (u ∷ ts) us h e in omega (arith, g)
time_append (_ ∷ u ∷ ts) us h e = time_append (u ∷ ts) us h e

-- the decimals of the tokens are no more than the scale's digits
pub record IsShort (s : Scale) (ts : List Token) : Type 0 where
  -- of bounds
  pub time : time_digits ts ≤ s.time
  -- of constants
  pub value : value_digits ts ≤ s.value

-- joined tokens with few decimals have few
pub short_joined : (s : Scale) (ts us : List Token) → ends_well ts ≡ true → begins_comma us ≡ false → IsShort s ts → IsShort s us → IsShort s (ts ++ us)
short_joined s ts us h e a b = record {
  time = let f = time_append ts us h e in omega (arith, f, a.time, b.time);
  value = let f = value_append ts us h in omega (arith, f, a.value, b.value);
}

-- a word before
pub short_word : (s : Scale) (w : List ℕ) (ts : List Token) → IsShort s ts → IsShort s (word w ∷ ts)
short_word s w ts a = record { time = a.time; value = a.value }

-- parentheses around
pub short_parens : (s : Scale) (ts : List Token) → ends_well ts ≡ true → IsShort s ts → IsShort s (open_paren ∷ ts ++ close_paren ∷ [])
short_parens s ts h a =
    let b : IsShort s (close_paren ∷ []) = record { time = omega arith; value = omega arith } in
    let c = short_joined s ts (close_paren ∷ []) h refl a b in record { time = c.time; value = c.value }

-- an atom's tokens have the decimals of its constant
term_value : {ts : List Token} {k : ℕ} {w : List ℕ} (us : List Token) → IsTerm ts k w → value_digits (ts ++ us) ≡ value_digits us
term_value us (term_name e) = refl
term_value us (scaled e) = refl

term_time : {ts : List Token} {k : ℕ} {w : List ℕ} (us : List Token) → IsTerm ts k w → time_digits (ts ++ us) ≡ time_digits us
term_time us (term_name e) = refl
term_time us (scaled e) = omega arith

terms_value : {ts : List Token} {terms : _} (us : List Token) → AreTerms ts terms → value_digits (ts ++ us) ≡ value_digits us
terms_value us no_terms = refl
terms_value us (more_plus {ts = ts} {us = vs} t u) = ap value_digits (append_assoc ts vs us) ∙ (term_value (vs ++ us) t ∙ terms_value us u)
terms_value us (more_minus {ts = ts} {us = vs} t u) = ap value_digits (append_assoc ts vs us) ∙ (term_value (vs ++ us) t ∙ terms_value us u)

terms_time : {ts : List Token} {terms : _} (us : List Token) → AreTerms ts terms → time_digits (ts ++ us) ≡ time_digits us
terms_time us no_terms = refl
terms_time us (more_plus {ts = ts} {us = vs} t u) = ap time_digits (append_assoc ts vs us) ∙ (term_time (vs ++ us) t ∙ terms_time us u)
terms_time us (more_minus {ts = ts} {us = vs} t u) = ap time_digits (append_assoc ts vs us) ∙ (term_time (vs ++ us) t ∙ terms_time us u)

constant_time : {d : ℕ} {vs : List Token} {c : _} → IsConstant d vs c → time_digits vs ≡ 0
constant_time plain = refl
constant_time _ = refl

constant_value : {d : ℕ} {vs : List Token} {c : _} → IsConstant d vs c → value_digits vs ≡ 0
constant_value plain = refl
constant_value _ = refl

-- an atom
pub short_atom : {d : ℕ} (s : Scale) {ts us vs : List Token} {k : ℕ} {w : List ℕ} {terms : _} {c : _} (rel : _) → IsTerm ts k w
    → AreTerms us terms → IsConstant d vs c
    → first_decimals vs ≤ s.value → IsShort s (ts ++ us ++ relation rel ∷ vs)
short_atom s {ts} {us} {vs} rel t u c l =
    let e : ts ++ us ++ relation rel ∷ vs ≡ ts ++ (us ++ relation rel ∷ vs) = append_assoc ts us (relation rel ∷ vs) in
    let f = ap time_digits e ∙ (term_time (us ++ relation rel ∷ vs) t ∙ (terms_time (relation rel ∷ vs) u ∙ constant_time c)) in
    let g = ap value_digits e ∙ (term_value (us ++ relation rel ∷ vs) t ∙ terms_value (relation rel ∷ vs) u) in
    let i = constant_value c in
    record { time = omega (arith, f); value = omega (arith, g, i, l) }

-- an atom with a sign
pub short_signed : {d : ℕ} (s : Scale) {us vs : List Token} {terms : _} {c : _} (rel : _) → AreTerms us terms → IsConstant d vs c → first_decimals vs ≤ s.value
    → IsShort s (us ++ relation rel ∷ vs)
short_signed s {us} {vs} rel u c l =
    let f = terms_time (relation rel ∷ vs) u ∙ constant_time c in let g = terms_value (relation rel ∷ vs) u in let i = constant_value c in
    record { time = omega (arith, f); value = omega (arith, g, i, l) }

-- the decimals of a bound, before other tokens
pub bound_time : {d a : ℕ} {o : Timed} {b : _} {us : List Token} {x y : Bool} (ts : List Token) → Bounded d o us a b x y
    → time_digits (us ++ ts) ≡ max (time_digits us) (time_digits ts)
bound_time ts (left_out e) = omega arith
bound_time ts (within {a = a} {j} {b} {k} p q) = by_brackets (λ t u. time_digits (t ∷ number a j ∷ comma ∷ number b k ∷ u ∷ ts)
    ≡ max (time_digits (t ∷ number a j ∷ comma ∷ number b k ∷ u ∷ [])) (time_digits ts)) (omega arith) (omega arith) (omega arith) (omega arith) p q
bound_time ts (endless {a = a} {j} e p q) = by_brackets (λ t u. time_digits (t ∷ number a j ∷ comma ∷ word (codes "inf") ∷ u ∷ ts)
    ≡ max (time_digits (t ∷ number a j ∷ comma ∷ word (codes "inf") ∷ u ∷ [])) (time_digits ts)) (omega arith) (omega arith) (omega arith) (omega arith) p q

-- it has no constant
pub bound_value : {d a : ℕ} {o : Timed} {b : _} {us : List Token} {x y : Bool} (ts : List Token) → Bounded d o us a b x y
    → value_digits (us ++ ts) ≡ value_digits ts
bound_value ts (left_out e) = refl
bound_value ts (within {a = a} {j} {b} {k} p q) =
    by_brackets (λ t u. value_digits (t ∷ number a j ∷ comma ∷ number b k ∷ u ∷ ts) ≡ value_digits ts) refl refl refl refl p q
bound_value ts (endless {a = a} {j} e p q) =
    by_brackets (λ t u. value_digits (t ∷ number a j ∷ comma ∷ word (codes "inf") ∷ u ∷ ts) ≡ value_digits ts) refl refl refl refl p q

-- a bound before an operand
pub short_bound : {d a : ℕ} {o : Timed} {b : _} {us : List Token} {x y : Bool} (s : Scale) (ts : List Token) → Bounded d o us a b x y
    → time_digits us ≤ s.time → IsShort s ts → IsShort s (us ++ ts)
short_bound s ts w l h = record { time = omega (arith, bound_time ts w, h.time); value = rw (bound_value ts w) h.value }
