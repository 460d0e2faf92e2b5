-- The truth of an atom up to a row, as it turns over or goes on: what is added of it, and what is not yet.
use Rattle.std.proofs.Common.{◌≡◌, ◌⊎◌, inl, inr, sym, subst, ◌∙◌, ◌<◌, arith, Bool, true, false}
use Rattle.std.specs.Prelude.{IfOk, OnOk, Result, Ok, Err}
use Rattle.rational.specs.Time.{Rational, ◌<ʳ◌, ◌≈◌}
use Rattle.rational.proofs.Order.{le_of_lt, lt_or_same_or_gt, le_of_same, ge_of_same, same_of_le, lt_of_lt_of_le, lt_of_le_of_lt}
use Rattle.stl_syntax.specs.Trace.{Row, Trace, row_time}
use Rattle.stl_syntax.specs.Truth.{holds_at}
use Rattle.stl_syntax.specs.declared.atom.Atom.{Atom}
use Rattle.rational.specs.Places.{Place, Same, AtMost}
use Rattle.frac128.specs.Cuts.{place}
use Rattle.early_verdict.specs.Adding.{AddsOnce, HasAdded, HasGrown, Piece, Turns, BetweenRows, before_row, after_row}
use Rattle.early_verdict.specs.Fitting.{AreSetsTidy}
use Rattle.early_verdict.specs.declared.atoms.Pending.{Pending}
use Rattle.frac128.specs.declared.cut.Cut.{Cut}
use Rattle.early_verdict.specs.declared.sets.Sets.{Sets}
use Rattle.rational.proofs.PlaceLemmas.{sides, not_both, upto_same, after_same, same_places, after_at_most}
use Rattle.early_verdict.proofs.AtomSets.{added_alike, added_then, grown_none, grown_of}

-- what is said of a good answer follows from what is known of it
pub if_good : {T E : Type 0} (r : Result T E) {P Q : T → Type 0} → IfOk r P → ((x : T) → P x → Q x) → IfOk r Q
if_good (Ok x) h f = f x h
if_good (Err e) h f = tt

-- and so does what speaks of no answer
pub on_if : {T E : Type 0} (r : Result T E) {P : T → Type 0} {Q : Type 0} → IfOk r P → ((x : T) → P x → Q) → OnOk r Q
on_if (Ok x) h f = f x h
on_if (Err e) h f = tt

-- the place just before a time of the trace
abbrev pub before_time : Rational → Place
before_time t = record { at = t; after = false }

-- and the one just after it
abbrev pub after_time : Rational → Place
after_time t = record { at = t; after = true }

-- the piece of a pending truth, under other names
piece_named : (old new : Sets) (b b' : Bool) (c c' : Cut) (to : Place) → b ≡ b' → c ≡ c' → HasAdded old new (Piece b (place c) to)
    → HasAdded old new (Piece b' (place c') to)
piece_named old new b b' c c' to e f h = subst (λ x. HasAdded old new (Piece b' (place x) to)) f (subst (λ x. HasAdded old new (Piece x (place c) to)) e h)

-- both sets have grown by what was added at a turn
pub turned_grown : (old new : Sets) (was next : Pending) (holds : Bool) (at : Place) → AreSetsTidy old → Turns was holds at old new next → HasGrown old new
turned_grown old new was next holds at tidy (e, inl same) = subst (λ s. HasGrown old s) (sym same.2) (grown_none old tidy)
turned_grown old new was next holds at tidy (e, inr turned) = grown_of turned.1

-- the times of the pending truth up to a later place are said with those that were added
adds_by : {p : Pending} {at there : Place} {Q R : Bool → Rational → Type 0} {old new : Sets} → AtMost at there → AddsOnce p at Q old new
    → ((v : Bool) (t : Rational) → Q v t ⊎ Piece p.holds at there v t → R v t)
    → ((v : Bool) (t : Rational) → R v t → Q v t ⊎ Piece p.holds at there v t) → AddsOnce p there R old new
adds_by {at = at} {there = there} l h out into = record {
  once = λ then to m k.
      added_alike (h.once then to (λ t u. m t (l t u)) k)
      (λ v t x. elim x [
        | inl q ↦ inl (out v t (inl q))
        | inr y ↦ elim (sides there t) [ inl u ↦ inl (out v t (inr (y.0, y.1, u))) | inr a ↦ inr (y.0, a, y.2) ]
      ])
      (λ v t x. elim x [
        | inl r ↦ elim (into v t r) [ inl q ↦ inl q | inr y ↦ inr (y.0, y.1, m t y.2) ]
        | inr y ↦ inr (y.0, after_at_most at there t l y.1, y.2)
      ]);
}

-- before anything of it is added, a truth that is pending from its begin on has no times yet
pub adds_begun : (c : Place) (cut : Cut) → Same (place cut) c → (holds : Bool) (own : Sets)
    → AddsOnce (record { holds = holds; from = cut }) c (λ v t. ⊥) own own
adds_begun c cut is holds own = record {
  once = λ then to m h.
      added_alike h (λ v t p. inr (p.0, after_same (place cut) c t is p.1, p.2))
      (λ v t p. elim p [ inl n ↦ absurd n | inr k ↦ (k.0, after_same c (place cut) t (same_places is) k.1, k.2) ]);
}

-- once it has turned, the truth that was pending has its times up to the turn
pub adds_turned : (old mid new : Sets) (was next : Pending) (holds : Bool) (at there : Place) (Q : Bool → Rational → Type 0) → AtMost at there
    → AddsOnce was at Q old mid → Turns was holds there mid new next → AddsOnce next there (λ v t. Q v t ⊎ Piece was.holds at there v t) old new
adds_turned old mid new was next holds at there Q l h (e, inl same) = record {
  once = λ then to m k.
      subst (λ b. HasAdded old then (λ v t. (Q v t ⊎ Piece was.holds at there v t) ⊎ Piece b there to v t)) (same.0 ∙ sym e)
      (longer.once then to m (subst (λ s. HasAdded s then (Piece was.holds (place was.from) to)) same.2
      (piece_named new then next.holds was.holds next.from was.from to (e ∙ sym same.0) same.1 k)));
}
  where
    longer : AddsOnce was there (λ v t. Q v t ⊎ Piece was.holds at there v t) old mid
    longer = adds_by l h (λ v t x. x) (λ v t x. x)
adds_turned old mid new was next holds at there Q l h (e, inr turned) = record {
  once = λ then to m k. added_then (h.once new there l turned.1) (subst (λ c. HasAdded new then (Piece next.holds c to)) turned.0 k);
}

module _ (a : Atom) (tr : Trace) (q r : Row) (from : Cut) (starts : Same (place from) (after_row q)) (rises : q.time < r.time) where
  row_rises : row_time q <ʳ row_time r
  row_rises = record { lt = omega (arith, rises) }

  -- one truth on the gap between two rows is pending with all of it
  pub adds_whole : (b : Bool) → ((t : Rational) → row_time q <ʳ t → t <ʳ row_time r → holds_at a tr t ≡ b) → (own : Sets)
      → AddsOnce (record { holds = b; from = from }) (before_row r) (BetweenRows a tr q r) own own
  adds_whole b is own = adds_by (λ t u. lt_of_le_of_lt u row_rises) (adds_begun (after_row q) from starts b own)
      (λ v t p. elim p [ inl n ↦ absurd n | inr k ↦ (k.1, k.2, is t k.1 k.2 ∙ k.0) ])
      (λ v t k. inr (sym (is t k.0 k.1) ∙ k.2, k.0, k.1))

  module _ (before point after : Bool) (at : Rational) (first : row_time q <ʳ at) (second : at <ʳ row_time r)
      (until_then : (t : Rational) → row_time q <ʳ t → t <ʳ at → holds_at a tr t ≡ before) (there : (t : Rational) → t ≈ at → holds_at a tr t ≡ point)
      (from_then : (t : Rational) → at <ʳ t → t <ʳ row_time r → holds_at a tr t ≡ after) where
    -- what was added at the first turn of a truth that turns over twice in the gap, and at both
    abbrev Once : Bool → Rational → Type 0
    Once v t = ⊥ ⊎ Piece before (after_row q) (before_time at) v t

    abbrev Twice : Bool → Bool → Rational → Type 0
    Twice b v t = Once v t ⊎ Piece b (before_time at) (after_time at) v t

    -- once both turns were taken the truth after the second is pending, with all of the gap
    pub adds_split : (old mid new : Sets) (p s : Pending) → Turns (record { holds = before; from = from }) point (before_time at) old mid p
        → Turns p after (after_time at) mid new s → AddsOnce s (before_row r) (BetweenRows a tr q r) old new
    adds_split old mid new p s e f = adds_by (λ t u. lt_of_le_of_lt u second) twice out into
      where
        once : AddsOnce p (before_time at) Once old mid
        once = adds_turned old old mid (record { holds = before; from = from }) p point (after_row q) (before_time at) (λ v t. ⊥)
            (λ t u. lt_of_le_of_lt u first) (adds_begun (after_row q) from starts before old) e

        twice : AddsOnce s (after_time at) (Twice p.holds) old new
        twice = adds_turned old mid new p s after (before_time at) (after_time at) Once (λ t u. le_of_lt u) once f

        out : (v : Bool) (t : Rational) → Twice p.holds v t ⊎ Piece s.holds (after_time at) (before_row r) v t → BetweenRows a tr q r v t
        out v t (inl (inl (inl n))) = absurd n
        out v t (inl (inl (inr k))) = (k.1, lt_of_lt_of_le k.2 (le_of_lt second), until_then t k.1 k.2 ∙ k.0)
        out v t (inl (inr k)) = (lt_of_lt_of_le first k.1, lt_of_le_of_lt k.2 second, there t (same_of_le k.2 k.1) ∙ sym e.0 ∙ k.0)
        out v t (inr k) = (lt_of_le_of_lt (le_of_lt first) k.1, k.2, from_then t k.1 k.2 ∙ sym f.0 ∙ k.0)

        into : (v : Bool) (t : Rational) → BetweenRows a tr q r v t → Twice p.holds v t ⊎ Piece s.holds (after_time at) (before_row r) v t
        into v t h = elim (lt_or_same_or_gt t at) [
          | inl l ↦ inl (inl (inr (sym (until_then t h.0 l) ∙ h.2, h.0, l)))
          | inr (inl x) ↦ inl (inr (e.0 ∙ sym (there t x) ∙ h.2, ge_of_same x, le_of_same x))
          | inr (inr l) ↦ inr (f.0 ∙ sym (from_then t l h.1) ∙ h.2, l, h.1)
        ]

module _ (r : Row) (cut : Cut) (is : Same (place cut) (before_row r)) where
  -- once the truth at the row is told it is pending from the row on, or from before it
  pub adds_at_row : (old mid new : Sets) (was next : Pending) (holds : Bool) (Q : Bool → Rational → Type 0) → AddsOnce was (before_row r) Q old mid
      → Turns was holds (place cut) mid new next → AddsOnce next (before_row r) Q old new
  adds_at_row old mid new was next holds Q h turns = adds_by (λ t u. upto_same (place cut) (before_row r) t is u)
      (adds_turned old mid new was next holds (before_row r) (place cut) Q (λ t u. upto_same (before_row r) (place cut) t (same_places is) u) h turns)
      (λ v t p. elim p [
        | inl (inl y) ↦ y
        | inl (inr y) ↦ absurd (not_both (before_row r) t (upto_same (place cut) (before_row r) t is y.2) y.1)
        | inr y ↦ absurd (not_both (before_row r) t y.2 (after_same (place cut) (before_row r) t is y.1))
      ])
      (λ v t y. inl (inl y))

-- the row's own time with them
pub adds_row : (old new then : Sets) (next : Pending) (holds : Bool) (r : Row) (to : Cut) (Q : Bool → Rational → Type 0) → next.holds ≡ holds
    → Same (place to) (after_row r) → AddsOnce next (before_row r) Q old new → HasAdded new then (Piece holds (place next.from) (place to))
    → HasAdded old then (λ v t. Q v t ⊎ Piece holds (before_row r) (place to) v t)
adds_row old new then next holds r to Q e is h k =
    subst (λ b. HasAdded old then (λ v t. Q v t ⊎ Piece b (before_row r) (place to) v t)) e
    (h.once then (place to) (λ t u. upto_same (after_row r) (place to) t (same_places is) (le_of_lt u))
    (subst (λ b. HasAdded new then (Piece b (place next.from) (place to))) (sym e) k))
