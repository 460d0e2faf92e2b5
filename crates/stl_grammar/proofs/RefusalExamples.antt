-- First refusals of small texts.
use Rattle.std.proofs.Common.{◌≡◌, ◌∙◌, ap, sym, ℕ, ◌≤◌, Bool, ◌||◌, inl, inr, List, [], ◌∷◌, length, refl, true, false, lit≤, arith}
use Rattle.std.proofs.lemmas.Bool.{or_parts, false≢true}
use Rattle.std.specs.Prelude.{codes, pos}
use Rattle.stl_syntax.specs.Characters.{ticks}
use Rattle.stl_syntax.specs.Choice.{Where}
use Rattle.stl_grammar.specs.Tokens.{Token, word, number, relation, open_bracket, close_bracket, comma}
use Rattle.stl_grammar.specs.Tokens.{a_word, an_integer, a_decimal, at_least, bracket, a_comma}
use Rattle.stl_grammar.specs.Grammar.{plain, IsFormula, disjunct, conjunct, timed, operand, eventually, always_true, atom, first, bounded, inside}
use Rattle.stl_grammar.specs.Grammar.{name as term_name, none as no_terms}
use Rattle.stl_grammar.specs.FormulaRefusals.{MayBegin, MayEnd, BeginsNoToken, RefusedAt, here, later, at_end}
use Rattle.stl_grammar.specs.FormulaRefusals.{blank, bad_byte, IsFormulaFault, is_unbounded, pending, nodes_made}
use Rattle.stl_grammar.specs.FormulaRefusals.{begins_fifth_term, is_bad_number, is_out_of_order}
use Rattle.stl_grammar.proofs.Derivations.{formula_derived}
use Rattle.stl_grammar.proofs.TokenEnds.{can_end, ends_well, derived_ends}
use Rattle.stl_syntax.specs.declared.node.Node.TheVariants.{Const, Atom as Leaf, Eventually}
use Rattle.stl_syntax.specs.declared.rel.Rel.TheVariants.{AtLeast}
use Rattle.stl_grammar.specs.declared.fault.What.TheVariants.{Constant}
use Rattle.stl_grammar.specs.declared.fault.FormulaFault.{FormulaFault}
use Rattle.stl_grammar.specs.declared.fault.FormulaFault.TheVariants.{Empty, BadByte, Expected, UnboundedFuture, BoundOrder, BadNumber}

-- a test of the token and of what stands about it refuses it
abbrev pub fails_test : List Token → Token → List ℕ → Bool
fails_test before t text = is_unbounded before t text || (begins_fifth_term before t || (is_bad_number before t || is_out_of_order before t))

-- a token at which no refusal stands
pub not_refused : (before : List Token) (t : Token) (text : List ℕ) (p : ℕ) → fails_test before t text ≡ false → MayBegin (t ∷ before)
    → length (pending (t ∷ before)) ≤ 64 → nodes_made (t ∷ before) ≤ 256 → (x : FormulaFault) → ¬ RefusedAt before t text p x
not_refused before t text p passes begins deep many x = by_refusal
  where
    first : (is_unbounded before t text ≡ false) × ((begins_fifth_term before t || (is_bad_number before t || is_out_of_order before t)) ≡ false)
    first = or_parts (is_unbounded before t text) (begins_fifth_term before t || (is_bad_number before t || is_out_of_order before t)) passes

    second : (begins_fifth_term before t ≡ false) × ((is_bad_number before t || is_out_of_order before t) ≡ false)
    second = or_parts (begins_fifth_term before t) (is_bad_number before t || is_out_of_order before t) first.1

    third : (is_bad_number before t ≡ false) × (is_out_of_order before t ≡ false)
    third = or_parts (is_bad_number before t) (is_out_of_order before t) second.1

    by_refusal : ¬ RefusedAt before t text p x
    by_refusal (inl (h, z)) = false≢true (sym first.0 ∙ h)
    by_refusal (inr (_, inl (h, z))) = h begins
    by_refusal (inr (_, inr (_, inl (h, z)))) = omega (arith, deep)
    by_refusal (inr (_, inr (_, inr (_, inl (h, z))))) = omega (arith, many)
    by_refusal (inr (_, inr (_, inr (_, inr (_, inl (h, z)))))) = false≢true (sym second.0 ∙ h)
    by_refusal (inr (_, inr (_, inr (_, inr (_, inr (_, inl (h, z))))))) = false≢true (sym third.0 ∙ h)
    by_refusal (inr (_, inr (_, inr (_, inr (_, inr (_, inr (_, (h, z)))))))) = false≢true (sym third.1 ∙ h)

-- a case that does not hold is passed over
pub passed : {A : Type 0} (P : Type 0) (a : A) → ¬ P → (x : A) → ¬ Where P a x
passed P a h x w = h w.0

empty : IsFormulaFault (codes " ") Empty
empty = inr (passed _ _ (λ h. omega arith), inl (refl, refl))

-- `eventually x >= 1`: unbounded future at 0
unbounded : IsFormulaFault (codes "eventually x >= 1") (UnboundedFuture 0)
unbounded = inr (
  passed _ _ (λ h. omega arith),
  inr (passed _ _ (λ h. cc), inl (here (word (codes "eventually")) (codes "eventually") (codes " x >= 1") refl (a_word refl refl refl) (inl (refl, refl)))),
)

-- `x >=`: a constant is expected at 4
abbrev x_at_least : (n k : ℕ) → IsFormula (record { time = 0; value = 0 }) 0 (word (codes "x") ∷ relation AtLeast ∷ number n k ∷ [])
    (Leaf (record { terms = record { coef = pos 1; name = codes "x" } ∷ []; rel = AtLeast; limit = pos (ticks 0 n k) }) ∷ [])
x_at_least n k = disjunct (conjunct (timed (operand (atom (first (term_name {w = codes "x"} refl) no_terms plain)))))

no_constant : IsFormulaFault (codes "x >=") (Expected 4 Constant)
unfolding ends_well can_end
no_constant = inr (
  passed _ _ (λ h. omega arith),
  inr (
    passed _ _ (λ h. cc),
    inl (
        later (word (codes "x")) (codes "x") (codes " >=") refl (a_word refl refl refl)
        (not_refused [] (word (codes "x")) (codes " >=") 0 refl (relation AtLeast ∷ number 0 0 ∷ [], _, x_at_least 0 0) (lit≤ tt) (lit≤ tt))
        (blank refl (
        later (relation AtLeast) (codes ">=") [] refl at_least
        (not_refused (word (codes "x") ∷ []) (relation AtLeast) [] 2 refl (number 0 0 ∷ [], _, x_at_least 0 0) (lit≤ tt) (lit≤ tt))
        (at_end none)))),
  ),
)
  where
    none : ¬ MayEnd (relation AtLeast ∷ word (codes "x") ∷ [])
    none (nodes, f) = let h = derived_ends (formula_derived 1 (omega arith) f) in cc

-- a point begins no token
abbrev first_byte : List ℕ → ℕ
first_byte [] = 0
first_byte (c ∷ text) = c

no_point : BeginsNoToken (codes ".")
no_point bytes text t e (a_word {c = c} h k l) = let x : 46 ≡ c = ap first_byte e in let y = rw (← x) at h in cc
no_point bytes text t e (an_integer {c = c} {digits} h k l) = let x : 46 ≡ c = ap first_byte e in let y = rw (← x) at h in cc
no_point bytes text t e (a_decimal c digits d decimals h k l) = let x : 46 ≡ c = ap first_byte e in let y = rw (← x) at h in cc
no_point bytes text t e _ = let x = ap first_byte e in omega (arith, x)

-- `x >= 1.`: a bad byte at 6
bad_point : IsFormulaFault (codes "x >= 1.") (BadByte 6)
bad_point = inr (
  passed _ _ (λ h. omega arith),
  inr (
    passed _ _ (λ h. cc),
    inl (
        later (word (codes "x")) (codes "x") (codes " >= 1.") refl (a_word refl refl refl)
        (not_refused [] (word (codes "x")) (codes " >= 1.") 0 refl (relation AtLeast ∷ number 0 0 ∷ [], _, x_at_least 0 0) (lit≤ tt) (lit≤ tt))
        (blank refl (
        later (relation AtLeast) (codes ">=") (codes " 1.") refl at_least
        (not_refused (word (codes "x") ∷ []) (relation AtLeast) (codes " 1.") 2 refl (number 0 0 ∷ [], _, x_at_least 0 0) (lit≤ tt) (lit≤ tt))
        (blank refl (
        later (number 1 0) (codes "1") (codes ".") refl (an_integer refl refl refl)
        (not_refused (relation AtLeast ∷ word (codes "x") ∷ []) (number 1 0) (codes ".") 5 refl ([], _, x_at_least 1 0) (lit≤ tt) (lit≤ tt))
        (bad_byte refl no_point)))))),
  ),
)

-- `x >= 0.0000001`: the number at 5 is too large
bad_number : IsFormulaFault (codes "x >= 0.0000001") (BadNumber 5)
bad_number = inr (
  passed _ _ (λ h. omega arith),
  inr (
    passed _ _ (λ h. cc),
    inl (
        later (word (codes "x")) (codes "x") (codes " >= 0.0000001") refl (a_word refl refl refl)
        (not_refused [] (word (codes "x")) (codes " >= 0.0000001") 0 refl (relation AtLeast ∷ number 0 0 ∷ [], _, x_at_least 0 0)
        (lit≤ tt) (lit≤ tt))
        (blank refl (
        later (relation AtLeast) (codes ">=") (codes " 0.0000001") refl at_least
        (not_refused (word (codes "x") ∷ []) (relation AtLeast) (codes " 0.0000001") 2 refl (number 0 0 ∷ [], _, x_at_least 0 0)
        (lit≤ tt) (lit≤ tt))
        (blank refl (
        here (number 1 7) (codes "0.0000001") [] refl (a_decimal 48 [] 48 (codes "000001") refl refl tt)
        (inr (
          passed _ _ (λ h. cc),
          inr (
            passed _ _ (λ h. h ([], _, x_at_least 1 7)),
            inr (
              passed _ _ (λ h. omega arith),
              inr (
                passed _ _ (λ h. omega arith),
                inr (passed _ _ (λ h. cc), inl (refl, refl)),
              ),
            ),
          ),
        ))))))),
  ),
)

-- `eventually[3,2] x >= 1`: the bounds are out of order at 13
abbrev bound_first : MayBegin (number 2 0 ∷ comma ∷ number 3 0 ∷ open_bracket ∷ word (codes "eventually") ∷ [])
bound_first = (
  close_bracket ∷ word (codes "true") ∷ [],
  Const true ∷ Eventually 0 3 2 true true ∷ [],
  disjunct (conjunct (timed (operand (eventually {ns = Const true ∷ []} (bounded {a = 3} {j = 0} {b = 2} {k = 0} inside inside) always_true)))),
)

out_of_order : IsFormulaFault (codes "eventually[3,2] x >= 1") (BoundOrder 13)
out_of_order = inr (
  passed _ _ (λ h. omega arith),
  inr (
    passed _ _ (λ h. cc),
    inl (
        later (word (codes "eventually")) (codes "eventually") (codes "[3,2] x >= 1") refl (a_word refl refl refl)
        (not_refused [] _ (codes "[3,2] x >= 1") 0 refl (
          open_bracket ∷ number 3 0 ∷ comma ∷ number 2 0 ∷ bound_first.0,
          bound_first.1,
          bound_first.2,
        ) (lit≤ tt) (lit≤ tt))
        (later open_bracket (codes "[") (codes "3,2] x >= 1") refl bracket
        (not_refused (word (codes "eventually") ∷ []) _ (codes "3,2] x >= 1") 10 refl
        (number 3 0 ∷ comma ∷ number 2 0 ∷ bound_first.0, bound_first.1, bound_first.2) (lit≤ tt) (lit≤ tt))
        (later (number 3 0) (codes "3") (codes ",2] x >= 1") refl (an_integer refl refl refl)
        (not_refused (open_bracket ∷ word (codes "eventually") ∷ []) _ (codes ",2] x >= 1") 11 refl
        (comma ∷ number 2 0 ∷ bound_first.0, bound_first.1, bound_first.2) (lit≤ tt) (lit≤ tt))
        (later comma (codes ",") (codes "2] x >= 1") refl a_comma
        (not_refused (number 3 0 ∷ open_bracket ∷ word (codes "eventually") ∷ []) _ (codes "2] x >= 1") 12 refl
        (number 2 0 ∷ bound_first.0, bound_first.1, bound_first.2) (lit≤ tt) (lit≤ tt))
        (here (number 2 0) (codes "2") (codes "] x >= 1") refl (an_integer refl refl refl)
        (inr (
          passed _ _ (λ h. cc),
          inr (
            passed _ _ (λ h. h bound_first),
            inr (
              passed _ _ (λ h. omega arith),
              inr (
                passed _ _ (λ h. omega arith),
                inr (passed _ _ (λ h. cc), inr (passed _ _ (λ h. cc), (refl, refl))),
              ),
            ),
          ),
        ))))))),
  ),
)

-- `until` alone: unbounded future at 0, and not an operand that is missing
until_alone : IsFormulaFault (codes "until") (UnboundedFuture 0)
until_alone = inr (
  passed _ _ (λ h. omega arith),
  inr (passed _ _ (λ h. cc), inl (here (word (codes "until")) (codes "until") [] refl (a_word refl refl tt) (inl (refl, refl)))),
)

-- `x >= 1 eventually`: unbounded future at 7, where the word could not follow
eventually_after : IsFormulaFault (codes "x >= 1 eventually") (UnboundedFuture 7)
eventually_after = inr (
  passed _ _ (λ h. omega arith),
  inr (
    passed _ _ (λ h. cc),
    inl (
        later (word (codes "x")) (codes "x") (codes " >= 1 eventually") refl (a_word refl refl refl)
        (not_refused [] (word (codes "x")) (codes " >= 1 eventually") 0 refl
        (relation AtLeast ∷ number 0 0 ∷ [], _, x_at_least 0 0) (lit≤ tt) (lit≤ tt))
        (blank refl (
        later (relation AtLeast) (codes ">=") (codes " 1 eventually") refl at_least
        (not_refused (word (codes "x") ∷ []) (relation AtLeast) (codes " 1 eventually") 2 refl
        (number 0 0 ∷ [], _, x_at_least 0 0) (lit≤ tt) (lit≤ tt))
        (blank refl (
        later (number 1 0) (codes "1") (codes " eventually") refl (an_integer refl refl refl)
        (not_refused (relation AtLeast ∷ word (codes "x") ∷ []) (number 1 0) (codes " eventually") 5 refl ([], _, x_at_least 1 0)
        (lit≤ tt) (lit≤ tt))
        (blank refl (here (word (codes "eventually")) (codes "eventually") [] refl (a_word refl refl tt) (inl (refl, refl))))))))),
  ),
)

-- `true until]0,2] x >= 5`: a bound of until is closed
open_until : IsFormulaFault (codes "true until]0,2] x >= 5") (UnboundedFuture 5)
open_until = inr (
  passed _ _ (λ h. omega arith),
  inr (
    passed _ _ (λ h. cc),
    inl (
        later (word (codes "true")) (codes "true") (codes " until]0,2] x >= 5") refl (a_word refl refl refl)
        (not_refused [] (word (codes "true")) (codes " until]0,2] x >= 5") 0 refl
        ([], Const true ∷ [], disjunct (conjunct (timed (operand always_true)))) (lit≤ tt) (lit≤ tt))
        (blank refl (here (word (codes "until")) (codes "until") (codes "]0,2] x >= 5") refl (a_word refl refl refl) (inl (refl, refl))))),
  ),
)
