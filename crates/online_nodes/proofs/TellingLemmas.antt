-- What an input's edge tells an operator: what it holds leads from some place to where the input is answered, and is its truth.
use Rattle.std.proofs.Common.{◌≡◌, ◌⊎◌, inl, inr, sym, ap, subst, ◌∙◌, ℕ, zero, suc, Bool}
use Rattle.std.proofs.Common.{false, Some, List, [], ◌∷◌, ◌++◌, slice_get, ℤ, pos, ◌≤ℤ◌}
use Rattle.std.proofs.lemmas.Option.{same_Some, none-some}
use Rattle.rational.specs.Rational.{Rational, ◌≤ʳ◌, whole}
use Rattle.rational.specs.Time.{Within}
use Rattle.rational.proofs.Order.{le_trans}
use Rattle.rational.proofs.Shift.{le_whole}
use Rattle.frac128.specs.Spans.{interval}
use Rattle.frac128.specs.Value.{value}
use Rattle.stl_syntax.specs.Trace.{Trace, start, stop}
use Rattle.stl_syntax.specs.Formula.{Subformula}
use Rattle.stl_syntax.specs.Truth.{Truth}
use Rattle.stl_syntax.specs.declared.items.Verdict.{Verdict}
use Rattle.rational.specs.Places.{Place, begins, ends, After, AtMost, Before, Same, Upto}
use Rattle.online_nodes.specs.Held.{Edge, held_of}
use Rattle.online_nodes.specs.Operators.{first_place, place_of}
use Rattle.online_nodes.specs.Truths.{Tells, Truths}
use Rattle.online_nodes.specs.Sweeps.{Counted}
use Rattle.online_nodes.proofs.InputLemmas.{counted_tells}
use Rattle.rational.proofs.PlaceLemmas.{after_same, same_before, same_places, same_trans_places, upto_of_before, upto_same}
use Rattle.rational.proofs.PlaceLemmas.{after_at_most, le_of_before, le_of_at_most}
use Rattle.online_nodes.proofs.ToldSoFar.{same_itself}

module _ (P : Truths) where
  -- the begin by another name
  pub tells_same : (c c' : Place) (vs : List Verdict) (d : Place) → Same c c' → Tells P c' vs d → Tells P c vs d
  tells_same c c' [] d s h = same_trans_places s h
  tells_same c c' (v ∷ vs) d s (r, b, all, rest) = (
    same_trans_places s r,
    same_before c c' (ends (interval v.on)) s b,
    (λ t a u. all t (after_same c c' t s a) u),
    rest,
  )

  -- what tells leads on
  pub tells_upto : (c : Place) (vs : List Verdict) (d : Place) → Tells P c vs d → AtMost c d
  tells_upto c [] d s t u = upto_same c d t s u
  tells_upto c (v ∷ vs) d (s, b, all, rest) t u =
      tells_upto (ends (interval v.on)) vs d rest t (upto_of_before c (ends (interval v.on)) t b u)

  -- what stands behind others tells the rest
  pub tells_rest : (c : Place) (xs ys : List Verdict) (d : Place) → Tells P c (xs ++ ys) d → (m : Place) × AtMost c m × Tells P m ys d
  tells_rest c [] ys d h = (c, (λ t u. u), h)
  tells_rest c (x ∷ xs) ys d (s, b, all, rest) =
      let more = tells_rest (ends (interval x.on)) xs ys d rest in
      (more.0, (λ t u. more.1 t (upto_of_before c (ends (interval x.on)) t b u)), more.2)

  -- it begins with its first verdict
  pub tells_first : (c : Place) (vs : List Verdict) (d : Place) → Tells P c vs d → Tells P (first_place vs d) vs d × Same c (first_place vs d)
  tells_first c [] d h = (same_itself d, h)
  tells_first c (v ∷ vs) d h = (tells_same (begins (interval v.on)) c (v ∷ vs) d (same_places h.0) h, h.0)

  -- each verdict lies between, and is not empty
  pub tells_between : (c : Place) (vs : List Verdict) (d : Place) → Tells P c vs d → (k : ℕ) (v : Verdict) → slice_get vs k ≡ Some v
      → AtMost c (begins (interval v.on)) × AtMost (ends (interval v.on)) d × Before (begins (interval v.on)) (ends (interval v.on))
  tells_between c [] d h k v e = absurd (none-some v e)
  tells_between c (w ∷ vs) d (s, b, all, rest) zero v e =
      let is : w ≡ v = same_Some w v e in
      subst (λ (x : Verdict). AtMost c (begins (interval x.on)) × AtMost (ends (interval x.on)) d × Before (begins (interval x.on)) (ends
      (interval x.on))) is (
        (λ t u. upto_same c (begins (interval w.on)) t s u),
        tells_upto (ends (interval w.on)) vs d rest,
        same_before (begins (interval w.on)) c (ends (interval w.on)) (same_places s) b,
      )
  tells_between c (w ∷ vs) d (s, b, all, rest) (suc k) v e =
      let more = tells_between (ends (interval w.on)) vs d rest k v e in
      ((λ t u. more.0 t (upto_of_before c (ends (interval w.on)) t b u)), more.1, more.2)

not_empty : (v : Verdict) (vs : List Verdict) → v ∷ vs ≡ [] → ⊥
not_empty v vs e = cc

-- an input's edge: what it holds tells the input up to where that is answered; it lies within the rows, where there is some
pub record IsTelling (p : Subformula) (tr : Trace) (first now : ℕ) (x : Edge) : Type 0 where
  -- from where the edge holds
  pub from : Place
  -- it tells the truth up to its number
  pub tells : Tells (Truth p tr) from (held_of x) (place_of x.number)
  -- it holds nothing, or begins within the rows and is answered by now
  pub late : (held_of x ≡ [])
      ⊎ (AtMost (record { at = whole (pos first); after = false }) from × (f : ℤ) × (x.number ≡ Some f) × (f ≤ℤ pos now))

module _ {p : Subformula} {tr : Trace} {first now : ℕ} {x : Edge} (telling : IsTelling p tr first now x) where
  fresh_from : (m : Place) × AtMost telling.from m × Tells (Truth p tr) m x.fresh (place_of x.number)
  fresh_from = tells_rest (Truth p tr) telling.from x.seen x.fresh (place_of x.number) telling.tells

  -- what was not read tells the input
  pub fresh_tells : Tells (Truth p tr) (first_place x.fresh (place_of x.number)) x.fresh (place_of x.number)
  fresh_tells = (tells_first (Truth p tr) fresh_from.0 x.fresh (place_of x.number) fresh_from.2).0

  fresh_none : held_of x ≡ [] → x.fresh ≡ []
  fresh_none e = by_seen x.seen e
    where
      by_seen : (xs : List Verdict) → xs ++ x.fresh ≡ [] → x.fresh ≡ []
      by_seen [] e = e
      by_seen (v ∷ xs) e = absurd (not_empty v (xs ++ x.fresh) e)

  -- within the rows
  pub fresh_within : (k : ℕ) (v : Verdict) → slice_get x.fresh k ≡ Some v
      → (whole (pos first) ≤ʳ value v.on.from) × (value v.on.from ≤ʳ value v.on.to) × (value v.on.to ≤ʳ whole (pos now))
  fresh_within k v e = by_late telling.late
    where
      by_late : (held_of x ≡ [])
          ⊎ (AtMost (record { at = whole (pos first); after = false }) telling.from × (f : ℤ) × (x.number ≡ Some f) × (f ≤ℤ pos now))
          → (whole (pos first) ≤ʳ value v.on.from) × (value v.on.from ≤ʳ value v.on.to) × (value v.on.to ≤ʳ whole (pos now))
      by_late (inl none) =
          absurd (none-some v (sym (ap (λ l. slice_get l k) (fresh_none none)) ∙ e))
      by_late (inr (low, f, number, high)) =
          let between = tells_between (Truth p tr) fresh_from.0 x.fresh (place_of x.number) fresh_from.2 k v e in
          let to : (place_of x.number).at ≡ whole f = ap (λ o. (place_of o).at) number in (
            le_of_at_most (record { at = whole (pos first); after = false }) (begins (interval v.on))
                (λ t u. between.0 t (fresh_from.1 t (low t u))),
            le_of_before (begins (interval v.on)) (ends (interval v.on)) between.2,
            le_trans (le_of_at_most (ends (interval v.on)) (place_of x.number) between.1)
                (subst (λ a. a ≤ʳ whole (pos now)) (sym to) (le_whole high)),
          )

  -- and as it counts within the trace
  pub fresh_counted : (seeks : Bool) → start tr ≡ whole (pos first) → stop tr ≡ whole (pos now)
      → Tells (Counted seeks p tr) (first_place x.fresh (place_of x.number)) x.fresh (place_of x.number)
  fresh_counted seeks begin end = by_late telling.late
    where
      by_late : (held_of x ≡ [])
          ⊎ (AtMost (record { at = whole (pos first); after = false }) telling.from × (f : ℤ) × (x.number ≡ Some f) × (f ≤ℤ pos now))
          → Tells (Counted seeks p tr) (first_place x.fresh (place_of x.number)) x.fresh (place_of x.number)
      by_late (inl none) =
          subst (λ l. Tells (Counted seeks p tr) (first_place l (place_of x.number)) l (place_of x.number)) (sym (fresh_none none))
          (same_itself (place_of x.number))
      by_late (inr (low, f, number, high)) =
          (tells_first (Counted seeks p tr) fresh_from.0 x.fresh (place_of x.number)
          (counted_tells seeks p tr fresh_from.0 x.fresh (place_of x.number) within fresh_from.2)).0
        where
          within : (t : Rational) → After fresh_from.0 t → Upto (place_of x.number) t → Within (start tr) (stop tr) t
          within t a u = record {
            above = subst (λ q. q ≤ʳ t) (sym begin)
                (after_at_most (record { at = whole (pos first); after = false }) fresh_from.0 t (λ y h. fresh_from.1 y (low y h)) a);
            below = subst (λ q. t ≤ʳ q) (sym end)
                (le_trans (subst (λ o. Upto (place_of o) t) number u) (le_whole high));
          }
