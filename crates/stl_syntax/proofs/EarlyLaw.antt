-- What rows settle holds in every trace that goes on from them.
use Rattle.std.proofs.Common.{ℕ, pos, List, ◌∷◌, ◌++◌, inl, inr, Bool, true, false, ◌≡◌, refl}
use Rattle.std.specs.Prelude.{Option, MatchBool, IsFalse}
use Rattle.rational.proofs.Order.{le_trans, le_refl, same_sym}
use Rattle.rational.specs.Time.{Rational, ◌≤ʳ◌, Within, whole}
use Rattle.rational.specs.Windows.{Ahead, Behind}
use Rattle.stl_syntax.specs.Trace.{Header, Row, Trace, AreRowsAfter, row_time, last_time}
use Rattle.stl_syntax.specs.Formula.{Subformula, constant, atom, negation, conjunction, disjunction}
use Rattle.stl_syntax.specs.Formula.{implication, until, eventually, always, since, once, historically}
use Rattle.stl_syntax.specs.Truth.{Truth, holds_at}
use Rattle.stl_syntax.specs.Early.{OpenAhead, OpenBehind, IsSure, Settled, SettledNot, Decides}
use Rattle.stl_syntax.specs.declared.atom.Atom.{Atom}
use Rattle.stl_syntax.proofs.TruthLemmas.{compares_same}
use Rattle.stl_syntax.proofs.PrefixLaw.{trace, same_atom, longer}

module _ (header : Header) (n : ℕ) (r : Row) (rows more : List Row) (ok : AreRowsAfter n r.time (rows ++ more)) where
  abbrev from : Rational
  from = row_time r

  abbrev to : Rational
  to = whole (pos (last_time r.time (rows ++ more)))

  abbrev so_far : Trace
  so_far = trace header (r ∷ rows)

  abbrev all_rows : Trace
  all_rows = trace header (r ∷ (rows ++ more))

  opened : (a b : ℕ) (a_in b_in : Bool) (t u : Rational) → Ahead from to a b a_in b_in t u → OpenAhead from a b a_in b_in t u
  opened a b a_in b_in t u w = record { after = w.inside.above; begins = w.begins; ends = w.ends }

  closed : (a b : ℕ) (a_in b_in : Bool) (t u : Rational) → OpenAhead from a b a_in b_in t u → u ≤ʳ to → Ahead from to a b a_in b_in t u
  closed a b a_in b_in t u w h = record { inside = record { above = w.after; below = h }; begins = w.begins; ends = w.ends }

  opened_behind : (a : ℕ) (b : Option ℕ) (a_in b_in : Bool) (t u : Rational) → Behind from to a b a_in b_in t u → OpenBehind from a b a_in b_in t u
  opened_behind a b a_in b_in t u w = record { after = w.inside.above; begins = w.begins; ends = w.ends }

  closed_behind : (a : ℕ) (b : Option ℕ) (a_in b_in : Bool) (t u : Rational) → OpenBehind from a b a_in b_in t u → u ≤ʳ to → Behind from to a b a_in b_in t u
  closed_behind a b a_in b_in t u w h = record { inside = record { above = w.after; below = h }; begins = w.begins; ends = w.ends }

  -- a sure time is one of the trace
  sure_in : (t u : Rational) → Within from to t → IsSure so_far t u → Within from to u
  sure_in t u h (s, inl l) = record { above = s; below = le_trans l (longer header n r rows more ok) }
  sure_in t u h (s, inr l) = record { above = s; below = le_trans l h.below }

  between : (t u v : Rational) → Within from to t → Within from to u → Within t u v → Within from to v
  between t u v h k l = record { above = le_trans h.above l.above; below = le_trans l.below k.below }

  mutual
    -- what is settled true holds in every trace that goes on
    pub settled : (p : Subformula) (t : Rational) → Within from to t → Settled p so_far t → Truth p all_rows t
    settled (constant b) t i h = h
    settled (atom k a) t i h = compares_same a.rel _ _ (same_atom header n r rows more ok a t i.above h.0) h.1
    settled (negation p) t i h = settled_not p t i h
    settled (conjunction p q) t i h = (settled p t i h.0, settled q t i h.1)
    settled (disjunction p q) t i (inl h) = inl (settled p t i h)
    settled (disjunction p q) t i (inr h) = inr (settled q t i h)
    settled (implication p q) t i (inl h) = λ k. absurd (settled_not p t i h k)
    settled (implication p q) t i (inr h) = λ k. settled q t i h
    settled (eventually a b a_in b_in p) t i (u, w, s, h) = let j = sure_in t u i s in (u, closed a b a_in b_in t u w j.below, settled p u j h)
    settled (always a b a_in b_in p) t i h = λ u w. settled p u w.inside (h u (opened a b a_in b_in t u w))
    settled (once a b a_in b_in p) t i (u, w, s, h) = let j = sure_in t u i s in (u, closed_behind a b a_in b_in t u w j.below, settled p u j h)
    settled (historically a b a_in b_in p) t i h = λ u w. settled p u w.inside (h u (opened_behind a b a_in b_in t u w))
    settled (until a b p q) t i (u, w, s, h, k) =
        let j = sure_in t u i s in (u, closed a b true true t u w j.below, settled q u j h, λ v l. settled p v (between t u v i j l) (k v l))
    settled (since a b p q) t i (u, w, s, h, k) =
        let j = sure_in t u i s in (u, closed_behind a b true true t u w j.below, settled q u j h, λ v l. settled p v (between u t v j i l) (k v l))

    -- and what is settled false fails there
    pub settled_not : (p : Subformula) (t : Rational) → Within from to t → SettledNot p so_far t → ¬ Truth p all_rows t
    settled_not (constant b) t i h k = cc
    settled_not (atom j a) t i h k = let e = compares_same a.rel _ _ (same_sym (same_atom header n r rows more ok a t i.above h.0)) k in let d = h.1 in cc
    settled_not (negation p) t i h k = k (settled p t i h)
    settled_not (conjunction p q) t i (inl h) k = settled_not p t i h k.0
    settled_not (conjunction p q) t i (inr h) k = settled_not q t i h k.1
    settled_not (disjunction p q) t i h (inl k) = settled_not p t i h.0 k
    settled_not (disjunction p q) t i h (inr k) = settled_not q t i h.1 k
    settled_not (implication p q) t i h k = settled_not q t i h.1 (k (settled p t i h.0))
    settled_not (eventually a b a_in b_in p) t i h (u, w, k) = settled_not p u w.inside (h u (opened a b a_in b_in t u w)) k
    settled_not (always a b a_in b_in p) t i (u, w, s, h) k = let j = sure_in t u i s in settled_not p u j h (k u (closed a b a_in b_in t u w j.below))
    settled_not (once a b a_in b_in p) t i h (u, w, k) = settled_not p u w.inside (h u (opened_behind a b a_in b_in t u w)) k
    settled_not (historically a b a_in b_in p) t i (u, w, s, h) k =
        let j = sure_in t u i s in
        settled_not p u j h (k u (closed_behind a b a_in b_in t u w j.below))
    settled_not (until a b p q) t i h (u, w, k, l) =
        absurd (elim (h u (opened a b true true t u w)) [
          | inl m ↦ settled_not q u w.inside m k
          | inr m ↦ settled_not p m.0 (between t u m.0 i w.inside m.1) m.2 (l m.0 m.1)
        ])
    settled_not (since a b p q) t i h (u, w, k, l) =
        absurd (elim (h u (opened_behind a b true true t u w)) [
          | inl m ↦ settled_not q u w.inside m k
          | inr m ↦ settled_not p m.0 (between u t m.0 w.inside i m.1) m.2 (l m.0 m.1)
        ])

  -- what is settled stays so
  sure_stays : (t u : Rational) → IsSure so_far t u → IsSure all_rows t u
  sure_stays t u (s, inl l) = (s, inl (le_trans l (longer header n r rows more ok)))
  sure_stays t u (s, inr l) = (s, inr l)

  fails_same : (a : Atom) (t : Rational) → from ≤ʳ t → t ≤ʳ whole (pos (last_time r.time rows)) → IsFalse (holds_at a so_far t)
      → IsFalse (holds_at a all_rows t)
  fails_same a t i h f = by_test (holds_at a all_rows t) refl
    where
      by_test : (b : Bool) → holds_at a all_rows t ≡ b → IsFalse (holds_at a all_rows t)
      by_test false e = e
      by_test true e = absurd (let k = compares_same a.rel _ _ (same_sym (same_atom header n r rows more ok a t i h)) e in cc)

  mutual
    -- what is settled true stays so with more rows
    pub stays : (p : Subformula) (t : Rational) → from ≤ʳ t → Settled p so_far t → Settled p all_rows t
    stays (constant b) t i h = h
    stays (atom k a) t i h = (le_trans h.0 (longer header n r rows more ok), compares_same a.rel _ _ (same_atom header n r rows more ok a t i h.0) h.1)
    stays (negation p) t i h = stays_not p t i h
    stays (conjunction p q) t i h = (stays p t i h.0, stays q t i h.1)
    stays (disjunction p q) t i (inl h) = inl (stays p t i h)
    stays (disjunction p q) t i (inr h) = inr (stays q t i h)
    stays (implication p q) t i (inl h) = inl (stays_not p t i h)
    stays (implication p q) t i (inr h) = inr (stays q t i h)
    stays (eventually a b a_in b_in p) t i (u, w, s, h) = (u, w, sure_stays t u s, stays p u w.after h)
    stays (always a b a_in b_in p) t i h = λ u w. stays p u w.after (h u w)
    stays (once a b a_in b_in p) t i (u, w, s, h) = (u, w, sure_stays t u s, stays p u w.after h)
    stays (historically a b a_in b_in p) t i h = λ u w. stays p u w.after (h u w)
    stays (until a b p q) t i (u, w, s, h, k) = (u, w, sure_stays t u s, stays q u w.after h, λ v l. stays p v (le_trans i l.above) (k v l))
    stays (since a b p q) t i (u, w, s, h, k) = (u, w, sure_stays t u s, stays q u w.after h, λ v l. stays p v (le_trans w.after l.above) (k v l))

    -- and so does what is settled false
    pub stays_not : (p : Subformula) (t : Rational) → from ≤ʳ t → SettledNot p so_far t → SettledNot p all_rows t
    stays_not (constant b) t i h = h
    stays_not (atom k a) t i h = (le_trans h.0 (longer header n r rows more ok), fails_same a t i h.0 h.1)
    stays_not (negation p) t i h = stays p t i h
    stays_not (conjunction p q) t i (inl h) = inl (stays_not p t i h)
    stays_not (conjunction p q) t i (inr h) = inr (stays_not q t i h)
    stays_not (disjunction p q) t i h = (stays_not p t i h.0, stays_not q t i h.1)
    stays_not (implication p q) t i h = (stays p t i h.0, stays_not q t i h.1)
    stays_not (eventually a b a_in b_in p) t i h = λ u w. stays_not p u w.after (h u w)
    stays_not (always a b a_in b_in p) t i (u, w, s, h) = (u, w, sure_stays t u s, stays_not p u w.after h)
    stays_not (once a b a_in b_in p) t i h = λ u w. stays_not p u w.after (h u w)
    stays_not (historically a b a_in b_in p) t i (u, w, s, h) = (u, w, sure_stays t u s, stays_not p u w.after h)
    stays_not (until a b p q) t i h = λ u w.
        elim (h u w) [ inl m ↦ inl (stays_not q u w.after m) | inr m ↦ inr (m.0, m.1, stays_not p m.0 (le_trans i m.1.above) m.2) ]
    stays_not (since a b p q) t i h = λ u w.
        elim (h u w) [ inl m ↦ inl (stays_not q u w.after m) | inr m ↦ inr (m.0, m.1, stays_not p m.0 (le_trans w.after m.1.above) m.2) ]

  -- a verdict that the rows decide is the truth at the start
  pub Decides-truth : (p : Subformula) (holds : Bool) → from ≤ʳ to → Decides p so_far holds → MatchBool holds (Truth p all_rows from) (¬ Truth p all_rows from)
  Decides-truth p true h d = settled p from (record { above = le_refl from; below = h }) d
  Decides-truth p false h d = settled_not p from (record { above = le_refl from; below = h }) d

  -- and it stays decided
  pub Decides-stays : (p : Subformula) (holds : Bool) → Decides p so_far holds → Decides p all_rows holds
  Decides-stays p true d = stays p from (le_refl from) d
  Decides-stays p false d = stays_not p from (le_refl from) d
