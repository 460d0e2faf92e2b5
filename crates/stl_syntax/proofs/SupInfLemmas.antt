-- A formula has at most one Sup-Inf value at a time.
use Rattle.std.proofs.Common.{◌≡◌, ℕ, ◌⊎◌, inl, inr, true, false, sym, ◌∙◌}
use Rattle.rational.specs.Time.{Rational}
use Rattle.stl_syntax.specs.Trace.{Trace}
use Rattle.stl_syntax.specs.Formula.{Subformula, constant, atom, negation, conjunction, disjunction}
use Rattle.stl_syntax.specs.Formula.{implication, until, eventually, always, since, once, historically}
use Rattle.rational.specs.Extended.{Extended, minus_infinity, finite, infinity, ◌≤ᵉ◌, ◌≈ᵉ◌, opposite, IsLeast, IsGreatest}
use Rattle.stl_syntax.specs.Truth.{expression}
use Rattle.stl_syntax.specs.SupInf.{Reading, margins, truths, Gives, Setting, SupInf, one, minus_one, margin, margin_setting}
use Rattle.stl_syntax.specs.declared.atom.Atom.{Atom}
use Rattle.rational.proofs.ExtendedLemmas.{le_transᵉ, opposite_le, opposite_le', Sup-unique, Inf-unique, least_same, greatest_same}
use Rattle.rational.proofs.AffineLemmas.{same_reflᵉ, same_symᵉ, same_transᵉ, opposite_same}
use Rattle.rational.proofs.Sups.{sup_value_same, inf_value_same}

-- the reading gives at most one value for an atom occurrence at a time
abbrev pub GivesOne : Reading → Type 0
GivesOne A = (i : ℕ) (a : Atom) (t : Rational) (r r' : Extended) → Gives A i a t r → Gives A i a t r' → r ≤ᵉ r'

least_le : (v w r v' w' r' : Extended) → v ≤ᵉ v' → w ≤ᵉ w' → IsLeast v w r → IsLeast v' w' r' → r ≤ᵉ r'
least_le v w r v' w' r' h k l m = by_one m.one_of
  where
    by_one : (v' ≤ᵉ r') ⊎ (w' ≤ᵉ r') → r ≤ᵉ r'
    by_one (inl x) = le_transᵉ r v r' l.left (le_transᵉ v v' r' h x)
    by_one (inr x) = le_transᵉ r w r' l.right (le_transᵉ w w' r' k x)

greatest_le : (v w r v' w' r' : Extended) → v ≤ᵉ v' → w ≤ᵉ w' → IsGreatest v w r → IsGreatest v' w' r' → r ≤ᵉ r'
greatest_le v w r v' w' r' h k l m = by_one l.one_of
  where
    by_one : (r ≤ᵉ v) ⊎ (r ≤ᵉ w) → r ≤ᵉ r'
    by_one (inl x) = le_transᵉ r v r' x (le_transᵉ v v' r' h m.left)
    by_one (inr x) = le_transᵉ r w r' x (le_transᵉ w w' r' k m.right)

-- there is at most one value
pub SupInf-unique : (p : Subformula) (s : Setting) (t : Rational) (r r' : Extended) → GivesOne s.atoms → SupInf p s t r → SupInf p s t r' → r ≤ᵉ r'
SupInf-unique (constant true) s t r r' g h k = le_transᵉ r s.highest r' h.at_most k.at_least
SupInf-unique (constant false) s t r r' g h k = le_transᵉ r s.lowest r' h.at_most k.at_least
SupInf-unique (atom i a) s t r r' g h k = g i a t r r' h k
SupInf-unique (negation p) s t r r' g h k = opposite_le r r' (SupInf-unique p s t (opposite r') (opposite r) g k h)
SupInf-unique (conjunction p q) s t r r' g (v, w, h, k, l) (v', w', h', k', l') =
    least_le v w r v' w' r' (SupInf-unique p s t v v' g h h') (SupInf-unique q s t w w' g k k') l l'
SupInf-unique (disjunction p q) s t r r' g (v, w, h, k, l) (v', w', h', k', l') =
    greatest_le v w r v' w' r' (SupInf-unique p s t v v' g h h') (SupInf-unique q s t w w' g k k') l l'
SupInf-unique (implication p q) s t r r' g (v, w, h, k, l) (v', w', h', k', l') =
    greatest_le (opposite v) w r (opposite v') w' r'
    (opposite_le' v' v (SupInf-unique p s t v' v g h' h)) (SupInf-unique q s t w w' g k k') l l'
SupInf-unique (until a b p q) s t r r' g h k = Sup-unique s.lowest r r' h k
SupInf-unique (eventually a b a_in b_in p) s t r r' g h k = Sup-unique s.lowest r r' h k
SupInf-unique (always a b a_in b_in p) s t r r' g h k = Inf-unique s.highest r r' h k
SupInf-unique (since a b p q) s t r r' g h k = Sup-unique s.lowest r r' h k
SupInf-unique (once a b a_in b_in p) s t r r' g h k = Sup-unique s.lowest r r' h k
SupInf-unique (historically a b a_in b_in p) s t r r' g h k = Inf-unique s.highest r r' h k

-- a trace read as margins gives one value, and so does one that is read as 1 and -1
pub margins_give_one : (tr : Trace) → GivesOne (margins tr)
margins_give_one tr i a t r r' h k = le_transᵉ r _ r' h.at_most k.at_least

-- truths give one value
pub truths_give_one : (tr : Trace) → GivesOne (truths tr)
truths_give_one tr i a t r r' (inl (h, e)) (inl (k, f)) = le_transᵉ r one r' e.at_most f.at_least
truths_give_one tr i a t r r' (inl (h, e)) (inr (k, f)) = absurd (let g : true ≡ false = sym h ∙ k in cc)
truths_give_one tr i a t r r' (inr (h, e)) (inl (k, f)) = absurd (let g : true ≡ false = sym k ∙ h in cc)
truths_give_one tr i a t r r' (inr (h, e)) (inr (k, f)) = le_transᵉ r minus_one r' e.at_most f.at_least

-- a margin by another pair is the margin too
pub value_alike : (p : Subformula) (tr : Trace) (t : Rational) (r s : Extended) → r ≈ᵉ s → SupInf p (margin_setting tr) t r → SupInf p (margin_setting tr) t s
value_alike (constant true) tr t r s e h = same_transᵉ s r infinity (same_symᵉ r s e) h
value_alike (constant false) tr t r s e h = same_transᵉ s r minus_infinity (same_symᵉ r s e) h
value_alike (atom i a) tr t r s e h = same_transᵉ s r (finite (margin a.rel (expression a tr t))) (same_symᵉ r s e) h
value_alike (negation p) tr t r s e h = value_alike p tr t (opposite r) (opposite s) (opposite_same r s e) h
value_alike (conjunction p q) tr t r s e (v, w, f, g, l) = (v, w, f, g, least_same v v w w r s (same_reflᵉ v) (same_reflᵉ w) e l)
value_alike (disjunction p q) tr t r s e (v, w, f, g, l) = (v, w, f, g, greatest_same v v w w r s (same_reflᵉ v) (same_reflᵉ w) e l)
value_alike (implication p q) tr t r s e (v, w, f, g, l) =
    (v, w, f, g, greatest_same (opposite v) (opposite v) w w r s (same_reflᵉ (opposite v)) (same_reflᵉ w) e l)
value_alike (eventually a b i j p) tr t r s e h = sup_value_same r s e h
value_alike (always a b i j p) tr t r s e h = inf_value_same r s e h
value_alike (once a b i j p) tr t r s e h = sup_value_same r s e h
value_alike (historically a b i j p) tr t r s e h = inf_value_same r s e h
value_alike (until a b p q) tr t r s e h = sup_value_same r s e h
value_alike (since a b p q) tr t r s e h = sup_value_same r s e h
