-- What is certain by the items holds in every trace that agrees on them.
use Rattle.std.proofs.Common.{◌≡◌, ℕ, inl, inr, Bool, true, false, IsTrue, List, [], ◌∷◌, refl, sym, ap, ◌∙◌}
use Rattle.std.specs.Prelude.{Option, MatchBool}
use Rattle.rational.specs.Time.{Rational}
use Rattle.rational.specs.Windows.{Ahead, Behind}
use Rattle.stl_syntax.specs.Trace.{Trace, start, stop}
use Rattle.stl_syntax.specs.Formula.{Subformula, constant, atom, negation, conjunction, disjunction, implication}
use Rattle.stl_syntax.specs.Formula.{until, eventually, always, since, once, historically, subformula, StandsIn}
use Rattle.stl_syntax.specs.Truth.{Truth, holds_at}
use Rattle.stl_syntax.specs.Kleene.{IsCovered, Must, MustNot}
use Rattle.stl_syntax.specs.Kept.{AreSo, Agree}
use Rattle.stl_syntax.specs.declared.items.Item.{Item}
use Rattle.stl_syntax.specs.declared.node.Node.{Node}
use Rattle.stl_syntax.specs.declared.atom.Atom.{Atom}

-- certainly true and certainly false exclude each other
mutual
  -- what is certainly true holds
  pub clear : (p : Subformula) (items : List Item) (tr : Trace) (t : Rational) → Must p items tr t → Truth p tr t
  clear (constant b) items tr t h = h
  clear (atom i a) items tr t h = h.0
  clear (negation p) items tr t h = λ k. clear_not p items tr t h k
  clear (conjunction p q) items tr t h = (clear p items tr t h.0, clear q items tr t h.1)
  clear (disjunction p q) items tr t (inl h) = inl (clear p items tr t h)
  clear (disjunction p q) items tr t (inr h) = inr (clear q items tr t h)
  clear (implication p q) items tr t (inl h) = λ k. absurd (clear_not p items tr t h k)
  clear (implication p q) items tr t (inr h) = λ k. clear q items tr t h
  clear (until a b p q) items tr t (u, w, h, k) = (u, w, clear q items tr u h, λ v l. clear p items tr v (k v l))
  clear (eventually a b a_in b_in p) items tr t (u, w, h) = (u, w, clear p items tr u h)
  clear (always a b a_in b_in p) items tr t h = λ u w. clear p items tr u (h u w)
  clear (since a b p q) items tr t (u, w, h, k) = (u, w, clear q items tr u h, λ v l. clear p items tr v (k v l))
  clear (once a b a_in b_in p) items tr t (u, w, h) = (u, w, clear p items tr u h)
  clear (historically a b a_in b_in p) items tr t h = λ u w. clear p items tr u (h u w)

  -- and what is certainly false fails
  pub clear_not : (p : Subformula) (items : List Item) (tr : Trace) (t : Rational) → MustNot p items tr t → ¬ Truth p tr t
  clear_not (constant b) items tr t h k = cc
  clear_not (atom i a) items tr t h k = let e = h.0 in cc
  clear_not (negation p) items tr t h k = k (clear p items tr t h)
  clear_not (conjunction p q) items tr t (inl h) k = clear_not p items tr t h k.0
  clear_not (conjunction p q) items tr t (inr h) k = clear_not q items tr t h k.1
  clear_not (disjunction p q) items tr t h (inl k) = clear_not p items tr t h.0 k
  clear_not (disjunction p q) items tr t h (inr k) = clear_not q items tr t h.1 k
  clear_not (implication p q) items tr t h k = clear_not q items tr t h.1 (k (clear p items tr t h.0))
  clear_not (until a b p q) items tr t h (u, w, k, l) =
      absurd (elim (h u w) [ inl m ↦ clear_not q items tr u m k | inr m ↦ clear_not p items tr m.0 m.2 (l m.0 m.1) ])
  clear_not (eventually a b a_in b_in p) items tr t h (u, w, k) = clear_not p items tr u (h u w) k
  clear_not (always a b a_in b_in p) items tr t (u, w, h) k = clear_not p items tr u h (k u w)
  clear_not (since a b p q) items tr t h (u, w, k, l) =
      absurd (elim (h u w) [ inl m ↦ clear_not q items tr u m k | inr m ↦ clear_not p items tr m.0 m.2 (l m.0 m.1) ])
  clear_not (once a b a_in b_in p) items tr t h (u, w, k) = clear_not p items tr u (h u w) k
  clear_not (historically a b a_in b_in p) items tr t (u, w, h) k = clear_not p items tr u h (k u w)

-- an atom that is covered has in the second trace the truth of the first
carried : (nodes : List Node) (tr tr' : Trace) (items : List Item) (i : ℕ) (a : Atom) (t : Rational) → subformula nodes i ≡ atom i a
    → AreSo nodes tr items → AreSo nodes tr' items → IsCovered items i t → holds_at a tr t ≡ holds_at a tr' t
carried nodes tr tr' [] i a t s g h c = absurd c
carried nodes tr tr' (e ∷ items) i a t s g h (inr c) = carried nodes tr tr' items i a t s g.1 h.1 c
carried nodes tr tr' (e ∷ items) i a t s g h (inl (n, c)) = by_truth e.holds (at tr (g.0 t c)) (at tr' (h.0 t c))
  where
    named : subformula nodes e.node ≡ atom i a
    named = ap (λ j. subformula nodes j) n ∙ s

    at : (x : Trace) → MatchBool e.holds (Truth (subformula nodes e.node) x t) (¬ Truth (subformula nodes e.node) x t)
        → MatchBool e.holds (IsTrue (holds_at a x t)) (¬ IsTrue (holds_at a x t))
    at x m = rw named at m

    tests : (b c : Bool) → (b ≡ true → ⊥) → (c ≡ true → ⊥) → b ≡ c
    tests true c f g = absurd (f refl)
    tests false true f g = absurd (g refl)
    tests false false f g = refl

    by_truth : (b : Bool) → MatchBool b (IsTrue (holds_at a tr t)) (¬ IsTrue (holds_at a tr t))
        → MatchBool b (IsTrue (holds_at a tr' t)) (¬ IsTrue (holds_at a tr' t)) → holds_at a tr t ≡ holds_at a tr' t
    by_truth true x y = x ∙ sym y
    by_truth false x y = tests (holds_at a tr t) (holds_at a tr' t) x y

module _ (nodes : List Node) (items : List Item) (tr tr' : Trace) (agree : Agree nodes tr' tr items) (known : AreSo nodes tr items) where
  ahead_over : (a b : ℕ) (a_in b_in : Bool) (t u : Rational) → Ahead (start tr) (stop tr) a b a_in b_in t u → Ahead (start tr') (stop tr') a b a_in b_in t u
  ahead_over a b a_in b_in t u w = rw (agree.like.start_same, agree.like.stop_same) w

  ahead_back : (a b : ℕ) (a_in b_in : Bool) (t u : Rational) → Ahead (start tr') (stop tr') a b a_in b_in t u → Ahead (start tr) (stop tr) a b a_in b_in t u
  ahead_back a b a_in b_in t u w = rw (agree.like.start_same, agree.like.stop_same) at w

  behind_over : (a : ℕ) (b : Option ℕ) (a_in b_in : Bool) (t u : Rational) → Behind (start tr) (stop tr) a b a_in b_in t u
      → Behind (start tr') (stop tr') a b a_in b_in t u
  behind_over a b a_in b_in t u w = rw (agree.like.start_same, agree.like.stop_same) w

  behind_back : (a : ℕ) (b : Option ℕ) (a_in b_in : Bool) (t u : Rational) → Behind (start tr') (stop tr') a b a_in b_in t u
      → Behind (start tr) (stop tr) a b a_in b_in t u
  behind_back a b a_in b_in t u w = rw (agree.like.start_same, agree.like.stop_same) at w

  mutual
    -- what is certainly true holds in every trace that agrees on the items
    pub certain : (p : Subformula) (t : Rational) → StandsIn nodes p → Must p items tr t → Truth p tr' t
    certain (constant b) t s h = h
    certain (atom i a) t s h = sym (carried nodes tr tr' items i a t s known agree.so h.1) ∙ h.0
    certain (negation p) t s h = λ k. certain_not p t s h k
    certain (conjunction p q) t s h = (certain p t s.0 h.0, certain q t s.1 h.1)
    certain (disjunction p q) t s (inl h) = inl (certain p t s.0 h)
    certain (disjunction p q) t s (inr h) = inr (certain q t s.1 h)
    certain (implication p q) t s (inl h) = λ k. absurd (certain_not p t s.0 h k)
    certain (implication p q) t s (inr h) = λ k. certain q t s.1 h
    certain (until a b p q) t s (u, w, h, k) = (u, ahead_over a b true true t u w, certain q u s.1 h, λ v l. certain p v s.0 (k v l))
    certain (eventually a b a_in b_in p) t s (u, w, h) = (u, ahead_over a b a_in b_in t u w, certain p u s h)
    certain (always a b a_in b_in p) t s h = λ u w. certain p u s (h u (ahead_back a b a_in b_in t u w))
    certain (since a b p q) t s (u, w, h, k) = (u, behind_over a b true true t u w, certain q u s.1 h, λ v l. certain p v s.0 (k v l))
    certain (once a b a_in b_in p) t s (u, w, h) = (u, behind_over a b a_in b_in t u w, certain p u s h)
    certain (historically a b a_in b_in p) t s h = λ u w. certain p u s (h u (behind_back a b a_in b_in t u w))

    -- and what is certainly false fails there
    pub certain_not : (p : Subformula) (t : Rational) → StandsIn nodes p → MustNot p items tr t → ¬ Truth p tr' t
    certain_not (constant b) t s h k = cc
    certain_not (atom i a) t s h k = let e = sym (carried nodes tr tr' items i a t s known agree.so h.1) ∙ h.0 in cc
    certain_not (negation p) t s h k = k (certain p t s h)
    certain_not (conjunction p q) t s (inl h) k = certain_not p t s.0 h k.0
    certain_not (conjunction p q) t s (inr h) k = certain_not q t s.1 h k.1
    certain_not (disjunction p q) t s h (inl k) = certain_not p t s.0 h.0 k
    certain_not (disjunction p q) t s h (inr k) = certain_not q t s.1 h.1 k
    certain_not (implication p q) t s h k = certain_not q t s.1 h.1 (k (certain p t s.0 h.0))
    certain_not (until a b p q) t s h (u, w, k, l) =
        absurd (elim (h u (ahead_back a b true true t u w)) [ inl m ↦ certain_not q u s.1 m k | inr m ↦ certain_not p m.0 s.0 m.2 (l m.0 m.1) ])
    certain_not (eventually a b a_in b_in p) t s h (u, w, k) = certain_not p u s (h u (ahead_back a b a_in b_in t u w)) k
    certain_not (always a b a_in b_in p) t s (u, w, h) k = certain_not p u s h (k u (ahead_over a b a_in b_in t u w))
    certain_not (since a b p q) t s h (u, w, k, l) =
        absurd (elim (h u (behind_back a b true true t u w)) [ inl m ↦ certain_not q u s.1 m k | inr m ↦ certain_not p m.0 s.0 m.2 (l m.0 m.1) ])
    certain_not (once a b a_in b_in p) t s h (u, w, k) = certain_not p u s (h u (behind_back a b a_in b_in t u w)) k
    certain_not (historically a b a_in b_in p) t s (u, w, h) k = certain_not p u s h (k u (behind_over a b a_in b_in t u w))
