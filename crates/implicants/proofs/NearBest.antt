-- Chains that are the best but in runs of their node.
use Rattle.std.proofs.Common.{◌≡◌, ◌⊎◌, ℕ, ◌-◌, ◌<◌, ◌≤◌, ◌^◌, inl, inr, Bool, true, false, pos, negsuc, List, []}
use Rattle.std.proofs.Common.{Some, refl, sym, subst, arith}
use Rattle.std.specs.Prelude.{slice_get}
use Rattle.rational.specs.Rational.{IsWithin}
use Rattle.rational.specs.Time.{Rational, whole, ◌≈◌, ◌≤ʳ◌}
use Rattle.rational.specs.Extended.{Extended, Passes, finite, value_at, ◌≤ᵉ◌, ◌≈ᵉ◌}
use Rattle.rational.specs.Places.{After, AtMost, Before, Place, Same, Upto, begins, ends}
use Rattle.rational.proofs.Order.{le_of_lt, le_of_same, ge_of_same, le_trans, lt_of_lt_of_le}
use Rattle.rational.proofs.ExtendedLemmas.{le_transᵉ}
use Rattle.rational.proofs.LevelLemmas.{level_is}
use Rattle.rational.proofs.PlaceLemmas.{after_at_most, at_most_of_not_before, before_of_at_most, before_same, le_of_at_most, not_before_itself, place_order}
use Rattle.rational.proofs.PlaceLemmas.{same_places, upto_same}
use Rattle.frac128.specs.Cuts.{place}
use Rattle.frac128.specs.Spans.{interval}
use Rattle.frac128.specs.Value.{value}
use Rattle.frac128.specs.declared.cut.Cut.{Cut}
use Rattle.frac128.specs.declared.frac.Frac.{Frac}
use Rattle.value_laws.specs.Kinds.{kleene_shape}
use Rattle.value_laws.specs.Values.{kleene_value}
use Rattle.value_laws.specs.declared.kleene.Kleene.{Kleene}
use Rattle.pieces.specs.declared.piece.Piece.{Piece}
use Rattle.pieces.specs.Chains.{Chain, IsNormal, stop}
use Rattle.pieces.specs.Knots.{after, before}
use Rattle.pieces.proofs.ChainLemmas.{to_stop}
use Rattle.pieces.proofs.Ends.{at_most_of_before, at_most_trans}
use Rattle.stl_syntax.specs.SupInf.{one, minus_one}
use Rattle.implicants.specs.Needs.{IsOn}
use Rattle.implicants.specs.Nearby.{CountsFor, GoesUpTo, IsBest, IsBestAt, IsBestChain, IsBestSoFar}
use Rattle.implicants.specs.declared.runs.Run.{Run}
use Rattle.implicants.specs.declared.nearby.View.{View}
use Rattle.implicants.proofs.RootAtStart.{first_worth}
use Rattle.implicants.proofs.NeededCells.{shape_on}
use Rattle.implicants.proofs.AddedRuns.{of_places}
use Rattle.implicants.proofs.Wholes.{input_over}

-- the best value, also written otherwise
pub best_alike : (h : Bool) (v w : Extended) → v ≈ᵉ w → IsBest h w → IsBest h v
best_alike true v w e k = le_transᵉ one w v k e.at_least
best_alike false v w e k = le_transᵉ v w minus_one e.at_most k

-- what is certainly so is worth the best
pub best_passes : (p : Kleene) (h : Bool) (t : Rational) (v : Extended) → p.known ≡ Some h → Passes (kleene_shape.function p) t v → IsBest h v
best_passes p h t v e passes = best_alike h v (value_at (kleene_shape.function p) t) passes (by_known h e)
  where
    by_known : (h : Bool) → p.known ≡ Some h → IsBest h (value_at (kleene_shape.function p) t)
    by_known true e = subst (λ o. finite (whole (kleene_value o)) ≤ᵉ value_at (kleene_shape.function p) t) e (level_is (kleene_value p.known) t).at_least
    by_known false e = subst (λ o. value_at (kleene_shape.function p) t ≤ᵉ finite (whole (kleene_value o))) e (level_is (kleene_value p.known) t).at_most

-- a chain that went on up to a place does not end before it
reaches : (old new : Chain Kleene) (until : Cut) (p : Kleene) → GoesUpTo kleene_shape old until p new → ¬ Before (stop new) (place until)
reaches old new until p (inl h) = subst (λ x. ¬ Before (stop x) (place until)) (sym h.1) h.0
reaches old new until p (inr on) = subst (λ c. ¬ Before c (place until)) (sym on.ends) (not_before_itself (place until))

module _ (runs : List Run) (w : View) where
  -- no pieces yet, from just before the first tick on
  pub near_start : (at : Frac) (x : Chain Kleene) → value at ≈ whole (pos w.first) → w.first ≤ w.last → x ≡ record { from = before (value at); pieces = [] }
      → IsBestSoFar kleene_shape runs w x
  near_start at x begins order made = subst (IsBestSoFar kleene_shape runs w) (sym made) (record {
    starts = (begins, refl);
    later = λ t u. u;
    within = λ t u. le_of_lt (lt_of_lt_of_le u (le_trans (le_of_same begins) ordered));
    worth = λ t v h. absurd h;
  })
    where
      ordered : whole (pos w.first) ≤ʳ whole (pos w.last)
      ordered = record { le = omega (arith, order) }

  -- a chain that is the best so far ends within the limits of times
  pub near_within : (x : Chain Kleene) → IsBestSoFar kleene_shape runs w x → w.last < 2 ^ 32 → IsWithin (2 ^ 34) (stop x).at
  near_within x far b = (
    le_trans below (le_trans (ge_of_same far.starts.0) (le_of_at_most x.from (stop x) far.later)),
    le_trans (le_of_at_most (stop x) (after (whole (pos w.last))) far.within) above,
  )
    where
      below : whole (negsuc (2 ^ 34 - 1)) ≤ʳ whole (pos w.first)
      below = record { le = omega arith }

      above : whole (pos w.last) ≤ʳ whole (pos (2 ^ 34))
      above = record { le = omega (arith, b) }

  -- it goes on by a value that is the best, or by one whose times lie in a run
  near_on : (old new : Chain Kleene) (until : Cut) (p : Kleene) → AtMost (place until) (after (whole (pos w.last)))
      → ((t : Rational) (v : Extended) → After (stop old) t → Upto (place until) t → Passes (kleene_shape.function p) t v → IsBestAt runs w.of w.best t v)
      → IsBestSoFar kleene_shape runs w old → GoesUpTo kleene_shape old until p new → IsBestSoFar kleene_shape runs w new
  near_on old new until p within more far (inl h) = subst (IsBestSoFar kleene_shape runs w) (sym h.1) far
  near_on old new until p within more far (inr on) = record {
    starts = subst (λ c. Same c (before (whole (pos w.first)))) (sym on.begins) far.starts;
    later = to_stop new.from new.pieces on.normal.rising;
    within = subst (λ c. AtMost c (after (whole (pos w.last)))) (sym on.ends) within;
    worth = λ t v h. elim ((on.worth t v).0 h) [ inl k ↦ far.worth t v k | inr k ↦ more t v k.0 k.1 k.2 ];
  }

  module _ (j : ℕ) (r : Run) (from to : Cut) (p q : Kleene) (there : slice_get runs j ≡ Some r) (counts : CountsFor r w)
      (begin : place from ≡ begins (interval r.on)) (end : place to ≡ ends (interval r.on))
      (best : (t : Rational) (v : Extended) → Passes (kleene_shape.function p) t v → IsBest w.best v) where
    in_trace : AtMost (ends (interval r.on)) (after (whole (pos w.last)))
    in_trace = at_most_of_not_before (ends (interval r.on)) (after (whole (pos w.last))) counts.within

    -- so it goes on up to where a run begins
    pub near_begin : (old mid : Chain Kleene) → IsBestSoFar kleene_shape runs w old → GoesUpTo kleene_shape old from p mid
        → IsBestSoFar kleene_shape runs w mid
    near_begin old mid far up = near_on old mid from p
        (subst (λ c. AtMost c (after (whole (pos w.last)))) (sym begin) (at_most_trans (begins (interval r.on)) (ends (interval r.on))
        (after (whole (pos w.last))) (at_most_of_before (begins (interval r.on)) (ends (interval r.on)) counts.some) in_trace))
        (λ t v a u passes. inl (best t v passes)) far up

    -- and over the run
    pub near_run : (old mid new : Chain Kleene) → IsBestSoFar kleene_shape runs w old → GoesUpTo kleene_shape old from p mid
        → GoesUpTo kleene_shape mid to q new → IsBestSoFar kleene_shape runs w new
    near_run old mid new far up over = near_on mid new to q (subst (λ c. AtMost c (after (whole (pos w.last)))) (sym end) in_trace)
        (λ t v a u passes. inr (
          j,
          r,
          there,
          counts.of,
          of_places (interval r.on) t (subst (λ c. After c t) begin (after_at_most (place from) (stop mid) t reached a)) (subst (λ c. Upto c t) end u),
        )) (near_begin old mid far up) over
      where
        reached : AtMost (place from) (stop mid)
        reached = at_most_of_not_before (place from) (stop mid) (reaches old mid from p up)

  -- up to just after the last tick
  pub near_closed : (old new : Chain Kleene) (until : Cut) (p : Kleene) → Same (place until) (after (whole (pos w.last)))
      → ((t : Rational) (v : Extended) → Passes (kleene_shape.function p) t v → IsBest w.best v) → w.first ≤ w.last → w.last < 2 ^ 32
      → IsNormal kleene_shape new → GoesUpTo kleene_shape old until p new → IsBestSoFar kleene_shape runs w old → IsBestChain kleene_shape runs w new
  near_closed old new until p same best order b normal up far = record {
    normal = normal;
    input = input_over w.first w.last new (omega (arith, order, b)) b closed.starts (by_order (place_order (stop new) last));
    worth = closed.worth;
  }
    where
      last : Place
      last = after (whole (pos w.last))

      closed : IsBestSoFar kleene_shape runs w new
      closed = near_on old new until p (λ t u. upto_same (place until) last t same u) (λ t v a u passes. inl (best t v passes)) far up

      by_order : Before (stop new) last ⊎ Same (stop new) last ⊎ Before last (stop new) → Same (stop new) last
      by_order (inl h) = absurd (reaches old new until p up (before_same (stop new) last (place until) h (same_places same)))
      by_order (inr (inl h)) = h
      by_order (inr (inr h)) = absurd (not_before_itself (stop new) (before_of_at_most (stop new) last (stop new) closed.within h))

-- a chain whose first piece is more than certainly false is on at its first time
pub begins_is_on : (x : Chain Kleene) (k : Piece Kleene) → IsNormal kleene_shape x → x.from.after ≡ false → slice_get x.pieces 0 ≡ Some k
    → (¬ (k.shape.known ≡ Some false)) → (t : Rational) → t ≈ x.from.at → IsOn kleene_shape x t
begins_is_on x k normal first at h t e = record {
  v = value_at (kleene_shape.function k.shape) t;
  worth = first_worth x k t normal first at e;
  more = shape_on k.shape t h;
}
