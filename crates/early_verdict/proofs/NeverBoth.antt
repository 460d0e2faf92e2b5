-- Nothing is settled both true and false.
use Rattle.std.proofs.Common.{inl, inr}
use Rattle.std.proofs.lemmas.Bool.{both_ways}
use Rattle.rational.specs.Time.{Rational}
use Rattle.stl_syntax.specs.Trace.{Trace}
use Rattle.stl_syntax.specs.Formula.{Subformula, constant, atom, negation, conjunction, disjunction}
use Rattle.stl_syntax.specs.Formula.{implication, until, eventually, always, since, once, historically}
use Rattle.stl_syntax.specs.Truth.{holds_at}
use Rattle.stl_syntax.specs.Early.{Settled, SettledNot}

-- no formula is settled true and settled false at one time
pub never_both : (p : Subformula) (tr : Trace) (t : Rational) → Settled p tr t → SettledNot p tr t → ⊥
never_both (constant b) tr t h k = both_ways b k h
never_both (atom i a) tr t h k = both_ways (holds_at a tr t) k.1 h.1
never_both (negation p) tr t h k = never_both p tr t k h
never_both (conjunction p q) tr t h (inl k) = never_both p tr t h.0 k
never_both (conjunction p q) tr t h (inr k) = never_both q tr t h.1 k
never_both (disjunction p q) tr t (inl h) k = never_both p tr t h k.0
never_both (disjunction p q) tr t (inr h) k = never_both q tr t h k.1
never_both (implication p q) tr t (inl h) k = never_both p tr t k.0 h
never_both (implication p q) tr t (inr h) k = never_both q tr t h k.1
never_both (eventually a b a_in b_in p) tr t (u, w, s, h) k = never_both p tr u h (k u w)
never_both (always a b a_in b_in p) tr t h (u, w, s, k) = never_both p tr u (h u w) k
never_both (once a b a_in b_in p) tr t (u, w, s, h) k = never_both p tr u h (k u w)
never_both (historically a b a_in b_in p) tr t h (u, w, s, k) = never_both p tr u (h u w) k
never_both (until a b p q) tr t (u, w, s, h, l) k = elim (k u w) [ inl m ↦ never_both q tr u h m | inr m ↦ never_both p tr m.0 (l m.0 m.1) m.2 ]
never_both (since a b p q) tr t (u, w, s, h, l) k = elim (k u w) [ inl m ↦ never_both q tr u h m | inr m ↦ never_both p tr m.0 (l m.0 m.1) m.2 ]
