-- Up to where an input was read, once what is needed no more was dropped from its edge.
use Rattle.std.proofs.Common.{◌≡◌, ◌⊎◌, inl, inr, refl, sym, ap, subst, ◌∙◌, ℕ, zero, suc, ◌+◌, ◌-◌, ◌<◌, Bool, true, false}
use Rattle.std.proofs.Common.{Option, Some, List, [], ◌∷◌, drop, length, slice_get, ℤ, arith}
use Rattle.std.specs.Prelude.{IfSome}
use Rattle.rational.specs.Rational.{◌≤ʳ◌, ◌<ʳ◌, whole}
use Rattle.rational.proofs.Order.{le_of_lt, le_trans}
use Rattle.frac128.specs.Spans.{interval}
use Rattle.frac128.specs.Value.{value}
use Rattle.stl_syntax.specs.declared.items.Verdict.{Verdict}
use Rattle.rational.specs.Places.{AtMost, Before, Place, Same, Upto, begins, ends}
use Rattle.online_nodes.specs.Held.{Edge, IsDroppedBy}
use Rattle.online_nodes.specs.Operators.{first_place}
use Rattle.online_nodes.specs.Truths.{Tells, Truths}
use Rattle.online_nodes.proofs.TellingLemmas.{tells_first}
use Rattle.online_nodes.proofs.StepFacts.{just_after}
use Rattle.rational.proofs.PlaceLemmas.{same_places, upto_of_before, upto_same}
use Rattle.rational.proofs.Lists.{slice_get-append_right}
use Rattle.online_nodes.proofs.ToldSoFar.{same_itself}
use Rattle.std.specs.Prelude.{MatchBool}
use Rattle.std.proofs.lemmas.Option.{same_Some, none-some}

suc_below : (k n : ℕ) → k < n → suc k < suc n
suc_below k n l = omega arith

some_below : (n : ℕ) → 0 < suc n
some_below n = omega arith

behind_below : (k a b : ℕ) → k < a - b → b + k < a
behind_below k a b l = omega arith

below_suc : (a n : ℕ) → a ≡ suc n → 0 < a
below_suc a n e = omega (arith, e)

-- a verdict that ends by a number ends no later than just after it
pub ends_by_number : (f : ℤ) (v : Verdict) → value v.on.to ≤ʳ whole f → AtMost (ends (interval v.on)) (just_after f)
ends_by_number f v h t u = le_trans (by_side v.on.to_in u) h
  where
    by_side : (b : Bool) → MatchBool b (t ≤ʳ value v.on.to) (t <ʳ value v.on.to) → t ≤ʳ value v.on.to
    by_side true l = l
    by_side false l = le_of_lt l

module _ (P : Truths) (f : ℤ) where
  -- each of the first verdicts ends by the number
  abbrev pub EndBy : List Verdict → ℕ → Type 0
  EndBy vs n = (k : ℕ) → k < n → IfSome (slice_get vs k) (λ v. value v.on.to ≤ʳ whole f)

  -- what is left begins no earlier, and no later than that number, if some are gone
  pub read_after_drop : (from : Place) (vs : List Verdict) (stop : Place) (n : ℕ) → Tells P from vs stop → EndBy vs n
      → AtMost (first_place vs stop) (first_place (drop n vs) stop)
      × ((drop n vs ≡ vs) ⊎ AtMost (first_place (drop n vs) stop) (just_after f))
  read_after_drop from [] stop zero h ended = ((λ t u. u), inl refl)
  read_after_drop from [] stop (suc n) h ended = ((λ t u. u), inl refl)
  read_after_drop from (v ∷ vs) stop zero h ended = ((λ t u. u), inl refl)
  read_after_drop from (v ∷ vs) stop (suc n) (s, b, all, rest) ended =
      by_rest (read_after_drop (ends (interval v.on)) vs stop n rest (λ k l. ended (suc k) (suc_below k n l)))
    where
      next : Same (ends (interval v.on)) (first_place vs stop)
      next = (tells_first P (ends (interval v.on)) vs stop rest).1

      by_rest : AtMost (first_place vs stop) (first_place (drop n vs) stop)
          × ((drop n vs ≡ vs) ⊎ AtMost (first_place (drop n vs) stop) (just_after f))
          → AtMost (begins (interval v.on)) (first_place (drop n vs) stop)
          × ((drop n vs ≡ v ∷ vs) ⊎ AtMost (first_place (drop n vs) stop) (just_after f))
      by_rest (later, which) = (
        (λ t u. later t (upto_same (ends (interval v.on)) (first_place vs stop) t next
            (upto_of_before from (ends (interval v.on)) t b (upto_same (begins (interval v.on)) from t (same_places s) u)))),
        inr (elim which [
          | inl e ↦ λ t u. ends_by_number f v (ended 0 (some_below n)) t
              (upto_same (first_place vs stop) (ends (interval v.on)) t (same_places next)
              (subst (λ l. Upto (first_place l stop) t) e u))
          | inr h ↦ h
        ]),
      )

module _ (P : Truths) where
  -- what tells, without its first verdicts tells the rest
  pub tells_drop : (c : Place) (vs : List Verdict) (d : Place) (n : ℕ) → Tells P c vs d → Tells P (first_place (drop n vs) d) (drop n vs) d
  tells_drop c vs d zero h = (tells_first P c vs d h).0
  tells_drop c [] d (suc n) h = same_itself d
  tells_drop c (v ∷ vs) d (suc n) (s, b, all, rest) = tells_drop (ends (interval v.on)) vs d n rest

  -- where it begins comes before its first verdict's end
  pub tells_some : (vs : List Verdict) (d : Place) (v : Verdict) → Tells P (first_place vs d) vs d → slice_get vs 0 ≡ Some v
      → Before (first_place vs d) (ends (interval v.on))
  tells_some [] d v h e = absurd (none-some v e)
  tells_some (w ∷ vs) d v h e =
      let is : w ≡ v = same_Some w v e in
      subst (λ (y : Verdict). Before (begins (interval w.on)) (ends (interval y.on))) is h.1

module _ {f : ℤ} {old new : Edge} (dropped : IsDroppedBy f old new) where
  -- how many of those that were not read are gone
  abbrev pub gone : ℕ
  gone = dropped.count - length old.seen

  -- what is unread of the edge lacks what was dropped
  pub dropped_fresh : new.fresh ≡ drop gone old.fresh
  dropped_fresh = ap (λ (x : Edge). x.fresh) dropped.is

  -- the edge's number stays
  pub dropped_number : new.number ≡ old.number
  dropped_number = ap (λ (x : Edge). x.number) dropped.is

  -- and it joins where it joined
  pub dropped_joins : new.joins ≡ old.joins
  dropped_joins = ap (λ (x : Edge). x.joins) dropped.is

  -- each dropped verdict ends by the limit
  pub gone_end : (k : ℕ) → k < gone → IfSome (slice_get old.fresh k) (λ v. value v.on.to ≤ʳ whole f)
  gone_end k l =
      subst (λ (o : Option Verdict). IfSome o (λ v. value v.on.to ≤ʳ whole f)) (slice_get-append_right old.seen old.fresh k)
      (dropped.ended (length old.seen + k) (behind_below k dropped.count (length old.seen) l))

  -- where the reader reads on: as before, or no later than just after the number
  pub dropped_read : (P : Truths) (from stop : Place) → Tells P from old.fresh stop
      → AtMost (first_place old.fresh stop) (first_place new.fresh stop)
      × ((new.fresh ≡ old.fresh) ⊎ AtMost (first_place new.fresh stop) (just_after f))
  dropped_read P from stop h =
      subst (λ l. AtMost (first_place old.fresh stop) (first_place l stop)
      × ((l ≡ old.fresh) ⊎ AtMost (first_place l stop) (just_after f))) (sym dropped_fresh)
      (read_after_drop P f from old.fresh stop gone h gone_end)

  -- what tells what was not read tells what is left of it
  pub dropped_tells : (P : Truths) (from stop : Place) → Tells P from old.fresh stop → Tells P (first_place new.fresh stop) new.fresh stop
  dropped_tells P from stop h =
      subst (λ l. Tells P (first_place l stop) l stop) (sym dropped_fresh) (tells_drop P from old.fresh stop gone h)

  -- nothing that was not read is gone, or its first verdict ends by the number, and what is left begins no later than just after it
  pub dropped_parts : (P : Truths) (from stop : Place) → Tells P from old.fresh stop
      → (new.fresh ≡ old.fresh)
      ⊎ ((v : Verdict) × (slice_get old.fresh 0 ≡ Some v) × (value v.on.to ≤ʳ whole f) × AtMost (first_place new.fresh stop) (just_after f))
  dropped_parts P from stop h = elim (dropped_read P from stop h).1 [ inl same ↦ inl same | inr by ↦ by_first old.fresh refl by ]
    where
      by_first : (vs : List Verdict) → old.fresh ≡ vs → AtMost (first_place new.fresh stop) (just_after f)
          → (new.fresh ≡ old.fresh)
          ⊎ ((v : Verdict) × (slice_get old.fresh 0 ≡ Some v) × (value v.on.to ≤ʳ whole f) × AtMost (first_place new.fresh stop) (just_after f))
      by_first [] e by = inl (dropped_fresh ∙ ap (drop gone) e ∙ none gone ∙ sym e)
        where
          none : (n : ℕ) → drop {A = Verdict} n [] ≡ []
          none zero = refl
          none (suc n) = refl
      by_first (v ∷ vs) e by = by_gone gone refl
        where
          first : slice_get old.fresh 0 ≡ Some v
          first = ap (λ l. slice_get l 0) e

          by_gone : (n : ℕ) → gone ≡ n
              → (new.fresh ≡ old.fresh)
              ⊎ ((v : Verdict) × (slice_get old.fresh 0 ≡ Some v) × (value v.on.to ≤ʳ whole f) × AtMost (first_place new.fresh stop) (just_after f))
          by_gone zero z = inl (dropped_fresh ∙ ap (λ n. drop n old.fresh) z)
          by_gone (suc n) z =
              inr (v, first, subst (λ (o : Option Verdict). IfSome o (λ v. value v.on.to ≤ʳ whole f)) first (gone_end 0 (below_suc gone n z)), by)
