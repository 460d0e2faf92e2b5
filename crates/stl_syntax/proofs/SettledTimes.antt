-- What is settled does not depend on the pair by which a time is written.
use Rattle.std.proofs.Common.{ℕ, inl, inr, Bool, true, sym, ◌∙◌}
use Rattle.std.specs.Prelude.{Option, Some, None}
use Rattle.rational.specs.Time.{Rational, Within, later, ◌≈◌}
use Rattle.rational.proofs.Order.{le_trans, le_of_same, ge_of_same, same_sym}
use Rattle.rational.proofs.TimeLemmas.{later_le, precedes_after, precedes_before}
use Rattle.stl_syntax.specs.Trace.{Trace, start}
use Rattle.stl_syntax.specs.Formula.{Subformula, constant, atom, negation, conjunction, disjunction}
use Rattle.stl_syntax.specs.Formula.{implication, until, eventually, always, since, once, historically}
use Rattle.stl_syntax.specs.Early.{Settled, SettledNot, OpenAhead, OpenBehind, IsSure}
use Rattle.stl_syntax.specs.Laws.{SettledIsOfTimes}
use Rattle.stl_syntax.proofs.TimeLaw.{holds_same}

open_ahead_same : {t u : Rational} (from : Rational) (a b : ℕ) (a_in b_in : Bool) (x : Rational) → t ≈ u
    → OpenAhead from a b a_in b_in t x → OpenAhead from a b a_in b_in u x
open_ahead_same {t} {u} from a b a_in b_in x e w = record {
  after = w.after;
  begins = precedes_after a_in (later u a) (later t a) x (later_le a (ge_of_same e)) w.begins;
  ends = precedes_before b_in x (later t b) (later u b) w.ends (later_le b (le_of_same e));
}

open_behind_same : {t u : Rational} (from : Rational) (a : ℕ) (b : Option ℕ) (a_in b_in : Bool) (x : Rational) → t ≈ u → OpenBehind from a b a_in b_in t x
    → OpenBehind from a b a_in b_in u x
open_behind_same {t} {u} from a None a_in b_in x e w = record {
  after = w.after;
  begins = w.begins;
  ends = precedes_before a_in (later x a) t u w.ends (le_of_same e);
}
open_behind_same {t} {u} from a (Some b) a_in b_in x e w = record {
  after = w.after;
  begins = precedes_after b_in u t (later x b) (ge_of_same e) w.begins;
  ends = precedes_before a_in (later x a) t u w.ends (le_of_same e);
}

sure_same : {t u : Rational} (tr : Trace) (x : Rational) → t ≈ u → IsSure tr t x → IsSure tr u x
sure_same tr x e (s, inl l) = (s, inl l)
sure_same tr x e (s, inr l) = (s, inr (le_trans l (le_of_same e)))

from_same : {t u : Rational} (x v : Rational) → t ≈ u → Within t x v → Within u x v
from_same x v e h = record { above = le_trans (ge_of_same e) h.above; below = h.below }

to_same : {t u : Rational} (x v : Rational) → t ≈ u → Within x t v → Within x u v
to_same x v e h = record { above = h.above; below = le_trans h.below (le_of_same e) }

mutual
  same : {t u : Rational} (p : Subformula) (tr : Trace) → t ≈ u → Settled p tr t → Settled p tr u
  same (constant b) tr e h = h
  same (atom i a) tr e h = (le_trans (ge_of_same e) h.0, sym (holds_same a tr e) ∙ h.1)
  same (negation p) tr e h = same_not p tr e h
  same (conjunction p q) tr e h = (same p tr e h.0, same q tr e h.1)
  same (disjunction p q) tr e (inl h) = inl (same p tr e h)
  same (disjunction p q) tr e (inr h) = inr (same q tr e h)
  same (implication p q) tr e (inl h) = inl (same_not p tr e h)
  same (implication p q) tr e (inr h) = inr (same q tr e h)
  same (eventually a b a_in b_in p) tr e (x, w, s, h) = (x, open_ahead_same (start tr) a b a_in b_in x e w, sure_same tr x e s, h)
  same (always a b a_in b_in p) tr e h = λ x w. h x (open_ahead_same (start tr) a b a_in b_in x (same_sym e) w)
  same (once a b a_in b_in p) tr e (x, w, s, h) = (x, open_behind_same (start tr) a b a_in b_in x e w, sure_same tr x e s, h)
  same (historically a b a_in b_in p) tr e h = λ x w. h x (open_behind_same (start tr) a b a_in b_in x (same_sym e) w)
  same (until a b p q) tr e (x, w, s, h, k) =
      (x, open_ahead_same (start tr) a b true true x e w, sure_same tr x e s, h, λ v l. k v (from_same x v (same_sym e) l))
  same (since a b p q) tr e (x, w, s, h, k) =
      (x, open_behind_same (start tr) a b true true x e w, sure_same tr x e s, h, λ v l. k v (to_same x v (same_sym e) l))

  same_not : {t u : Rational} (p : Subformula) (tr : Trace) → t ≈ u → SettledNot p tr t → SettledNot p tr u
  same_not (constant b) tr e h = h
  same_not (atom i a) tr e h = (le_trans (ge_of_same e) h.0, sym (holds_same a tr e) ∙ h.1)
  same_not (negation p) tr e h = same p tr e h
  same_not (conjunction p q) tr e (inl h) = inl (same_not p tr e h)
  same_not (conjunction p q) tr e (inr h) = inr (same_not q tr e h)
  same_not (disjunction p q) tr e h = (same_not p tr e h.0, same_not q tr e h.1)
  same_not (implication p q) tr e h = (same p tr e h.0, same_not q tr e h.1)
  same_not (eventually a b a_in b_in p) tr e h = λ x w. h x (open_ahead_same (start tr) a b a_in b_in x (same_sym e) w)
  same_not (always a b a_in b_in p) tr e (x, w, s, h) = (x, open_ahead_same (start tr) a b a_in b_in x e w, sure_same tr x e s, h)
  same_not (once a b a_in b_in p) tr e h = λ x w. h x (open_behind_same (start tr) a b a_in b_in x (same_sym e) w)
  same_not (historically a b a_in b_in p) tr e (x, w, s, h) = (x, open_behind_same (start tr) a b a_in b_in x e w, sure_same tr x e s, h)
  same_not (until a b p q) tr e h =
      λ x w. elim (h x (open_ahead_same (start tr) a b true true x (same_sym e) w)) [ inl m ↦ inl m | inr m ↦ inr (m.0, from_same x m.0 e m.1, m.2) ]
  same_not (since a b p q) tr e h =
      λ x w. elim (h x (open_behind_same (start tr) a b true true x (same_sym e) w)) [ inl m ↦ inl m | inr m ↦ inr (m.0, to_same x m.0 e m.1, m.2) ]

-- the law on the pairs of a time
pub settled_is_of_times : SettledIsOfTimes
settled_is_of_times p tr t u e = (same p tr e, same_not p tr e)
