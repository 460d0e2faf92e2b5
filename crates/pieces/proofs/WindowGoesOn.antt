-- A window over a chain goes on: it tells more, it meets a piece, and its steps tell what they will give.
use Rattle.std.proofs.Common.{◌≡◌, ◌⊎◌, inl, inr, Bool, true, false, not, sym, subst}
use Rattle.std.specs.Prelude.{MatchBool}
use Rattle.rational.specs.Time.{Rational, ◌≤ʳ◌, ◌<ʳ◌, add, whole}
use Rattle.rational.proofs.Order.{le_trans, lt_of_le_of_lt}
use Rattle.rational.proofs.Shift.{le_shift}
use Rattle.rational.specs.Extended.{Extended, ◌≈ᵉ◌, value_at, Passes}
use Rattle.rational.specs.Places.{Place, After, Upto, Before, AtMost, Same}
use Rattle.rational.proofs.AffineLemmas.{same_reflᵉ}
use Rattle.rational.proofs.Sames.{symᵉ, transᵉ}
use Rattle.rational.proofs.PlaceLemmas.{after_at_most, before_through, before_trans, before_at_most, before_of_at_most, upto_same}
use Rattle.rational.proofs.PlaceLemmas.{after_same, not_both, place_order, same_places, upto_of_before}
use Rattle.frac128.specs.Cuts.{place}
use Rattle.value_laws.specs.Members.{ShapeOf, ShapeLaws}
use Rattle.pieces.specs.declared.piece.Piece.{Piece}
use Rattle.pieces.specs.declared.reach.Way.{Way}
use Rattle.pieces.specs.declared.sliding.Sliding.{Sliding}
use Rattle.pieces.specs.Best.{IsNoWorse, IsBetter, GetsNoBetter}
use Rattle.pieces.specs.Chains.{Chain, end, stop, IsNormal, IsWorth, Rise}
use Rattle.pieces.specs.Steps.{AreSteps, FallOff, HasCounted, HasSlid, HideTo, StepsGive, steps_end}
use Rattle.pieces.specs.Sliding.{HasTold, IsBestWith, last_end}
use Rattle.pieces.specs.Windows.{Sees, IsNonEmpty, IsPieceFrom, Best, BestTo, Keeps, Stands, HasEntered}
use Rattle.pieces.proofs.Bests.{Values, nw_trans, nw_back, better_is_first, better_is_second, better_alike, same_of_nw, best_value, best_of_fewer}
use Rattle.pieces.proofs.Bests.{best_none, best_over, over_best}
use Rattle.pieces.proofs.Ends.{at_most_trans}
use Rattle.pieces.proofs.StepLemmas.{all_above, give_after, give_upto, hide_upto, to_end}
use Rattle.pieces.proofs.SeenBest.{low, high, none, BestOf, floor, OfPiece, falling_within, met_more, all_seen, none_seen}

module _ {P : Type 0} (shape : ShapeOf P) (laws : ShapeLaws shape) (chain : Chain P) (way : Way) (rising : Rise chain.from chain.pieces) where
  -- what is seen from a time up to a place
  abbrev pub SeenTo : Place → Rational → Rational → Type 0
  SeenTo met t u = Sees way.over t u × Upto met u

  -- the Sup or the Inf of what is seen up to a place is the best of it
  pub to_best : (met : Place) (t : Rational) (v : Extended) → BestTo shape chain way met t v → BestOf shape laws chain way rising (SeenTo met t) v
  to_best met t v h = over_best way.side shape.lowest shape.highest (SeenTo met t) (IsWorth shape chain) v h

  -- the best of what is seen up to a place is its Sup or its Inf
  pub of_best : (met : Place) (t : Rational) (v : Extended) → BestOf shape laws chain way rising (SeenTo met t) v → BestTo shape chain way met t v
  of_best met t v h = best_over way.side shape.lowest shape.highest (SeenTo met t) (IsWorth shape chain) v h

  -- later less is seen of what has been met
  pub falls_off : (met reach left : Place) (s : Sliding P) → Keeps shape chain way met reach left s → HasEntered shape chain way met s
      → FallOff shape way.side (stop s.out) s.steps.items
  falls_off met reach left s st entered t u v w order g k = best_of_fewer fewer (to_best met t v (st.gives t v g)) (to_best met u w (st.gives u w k))
    where
      fewer : (x : Extended) → Values (SeenTo met u) (IsWorth shape chain) x → Values (SeenTo met t) (IsWorth shape chain) x
      fewer x (z, ((a, b), k), h) =
          let in_t = entered t (give_after shape way.side (stop s.out) s.steps.items t v st.steps g) (st.sees t v g).1 in
          (z, ((low_on z a, upto_of_before met (high shape laws chain way rising t) z in_t k), k), h)
        where
          low_on : (z : Rational) → After (low shape laws chain way rising u) z → After (low shape laws chain way rising t) z
          low_on z a = by_side (not way.over.low_in) a
            where
              by_side : (b : Bool) → MatchBool b (add u (whole way.over.low) <ʳ z) (add u (whole way.over.low) ≤ʳ z)
                  → MatchBool b (add t (whole way.over.low) <ʳ z) (add t (whole way.over.low) ≤ʳ z)
              by_side true h = lt_of_le_of_lt (le_shift way.over.low order) h
              by_side false h = le_trans (le_shift way.over.low order) h

  module _ (met reach left : Place) (gap : P) (old new : Sliding P) (st : Keeps shape chain way met reach left old)
      (told : HasTold shape way.side gap old new) where
    -- what is told is the best, where the shape and what the steps give are the best of what will have been met
    pub tells_more : (met' : Place) → ((t : Rational) → After (stop old.out) t → Upto (stop new.out) t → ¬ Before met' (high shape laws chain way rising t))
        → ((t : Rational) (v : Extended) → After (stop old.out) t → Upto (stop new.out) t → IsBestWith shape way.side old gap t v
        → BestTo shape chain way met' t v) → (t : Rational) (v : Extended) → IsWorth shape new.out t v → Best shape chain way t v
    tells_more met' all best t v w = elim (told.worth t v w) [
      | inl k ↦ st.told t v k
      | inr (a, u, b) ↦ all_seen shape laws chain way rising met' t v (all t a u) (best t v a u b)
    ]

    -- the steps that are left go on giving it
    pub keeps_told : (reach' : Place) → AtMost (stop new.out) (stop chain) → ((t : Rational) (v : Extended) → IsWorth shape new.out t v
        → Best shape chain way t v)
        → (AtMost (stop new.out) chain.from ⊎ ((t : Rational) → Upto (stop new.out) t → ¬ Before reach' (high shape laws chain way rising t)))
        → Keeps shape chain way met reach' left new
    keeps_told reach' upto tells reached = record {
      normal = told.normal;
      on = at_most_trans chain.from (stop old.out) (stop new.out) st.on told.on;
      upto = upto;
      told = tells;
      steps = told.steps;
      gives = λ t v g. st.gives t v (told.gives t v g);
      sees = λ t v g. st.sees t v (told.gives t v g);
      none = λ t a u x y s k. st.none t (told.left t a) u x y s k;
      reached = reached;
    }

  -- its high end has come no further than a later place either
  pub keeps_further : (met reach further left : Place) (s : Sliding P) → AtMost reach further → Keeps shape chain way met reach left s
      → Keeps shape chain way met further left s
  keeps_further met reach further left s most k = record {
    normal = k.normal;
    on = k.on;
    upto = k.upto;
    told = k.told;
    steps = k.steps;
    gives = k.gives;
    sees = k.sees;
    none = k.none;
    reached = elim k.reached [
      | inl h ↦ inl h
      | inr h ↦ inr (λ t u b. h t u (before_of_at_most reach further (high shape laws chain way rising t) most b))
    ];
  }

  -- what is told where the shape is never better than no value
  pub best_with_none : (met reach left : Place) (gap : P) (old : Sliding P) → Keeps shape chain way met reach left old → AtMost met left
      → ((t : Rational) → value_at (shape.function gap) t ≈ᵉ none shape laws chain way rising)
      → (t : Rational) (v : Extended) → Upto (place way.to) t → IsBestWith shape way.side old gap t v → BestTo shape chain way met t v
  best_with_none met reach left gap old st most is t v u (inl (x, g, b)) =
      of_best met t v (best_value (same_of_nw better b.left) (to_best met t x (st.gives t x g)))
    where
      better : IsNoWorse way.side x v
      better = elim b.one_of [
        | inl k ↦ k
        | inr k ↦ nw_trans (nw_trans (to_best met t x (st.gives t x g)).floor (nw_back way.side (is t))) k
      ]
  best_with_none met reach left gap old st most is t v u (inr (a, w)) =
      of_best met t v (best_value (symᵉ (transᵉ w (is t))) (none_seen shape laws chain way rising met t
      (λ x y s k. st.none t a u x y s (most x k))))

  -- the best goes on over a piece of which the best is no better, or that is not seen yet
  pub best_on : (some : IsNonEmpty way.over) (c : Place) (p : Piece P) (is : IsPieceFrom shape chain c p) (t : Rational) (x v : Extended)
      → BestTo shape chain way c t x
      → (Before c (high shape laws chain way rising t) → BestOf shape laws chain way rising (OfPiece shape laws chain way rising some c p is t) v)
      → IsNoWorse way.side x v → BestTo shape chain way (end p) t x
  best_on some c p is t x v best part above = of_best (end p) t x (by_order (place_order c (high shape laws chain way rising t)))
    where
      met : BestOf shape laws chain way rising (SeenTo c t) x
      met = to_best c t x best

      unseen : ((u : Rational) → Upto (high shape laws chain way rising t) u → Upto c u) → BestOf shape laws chain way rising (SeenTo (end p) t) x
      unseen upto = met_more shape laws chain way rising some c p is t met
          (best_none way.side (none shape laws chain way rising) (Values (OfPiece shape laws chain way rising some c p is t) (IsWorth shape chain))
          (λ y m. not_both c m.0 (upto m.0 m.1.0.1) m.1.1))
          (better_is_first way.side x (none shape laws chain way rising) met.floor)

      by_order : Before c (high shape laws chain way rising t) ⊎ Same c (high shape laws chain way rising t) ⊎ Before (high shape laws chain way rising t) c
          → BestOf shape laws chain way rising (SeenTo (end p) t) x
      by_order (inl h) = met_more shape laws chain way rising some c p is t met (part h) (better_is_first way.side x v above)
      by_order (inr (inl s)) = unseen (λ u. upto_same (high shape laws chain way rising t) c u (same_places s))
      by_order (inr (inr b)) = unseen (λ u. upto_of_before (high shape laws chain way rising t) c u b)

  module _ (some : IsNonEmpty way.over) (c reach left : Place) (p : Piece P) (is : IsPieceFrom shape chain c p) (old new : Sliding P)
      (st : Keeps shape chain way c reach c old) (further : AtMost reach (end p)) (out : new.out ≡ old.out) where
    -- the piece counts by a constant
    pub stands_counted : (k : P) (e : Place) → HasCounted shape way.side (stop old.out) old.steps.items k e new.steps.items
        → ((t : Rational) → After (stop old.out) t → Upto e t
        → BestOf shape laws chain way rising (OfPiece shape laws chain way rising some c p is t) (value_at (shape.function k) t))
        → ((t : Rational) → Upto e t → Before (low shape laws chain way rising t) left × Upto (place way.to) t)
        → ((t : Rational) → After e t → Upto (place way.to) t → ¬ Before (low shape laws chain way rising t) left)
        → Stands shape chain way (end p) left new
    stands_counted k e counted part sees past = record {
      normal = subst (λ o. IsNormal shape o) (sym out) st.normal;
      on = subst (λ o. AtMost chain.from (stop o)) (sym out) st.on;
      upto = subst (λ o. AtMost (stop o) (stop chain)) (sym out) st.upto;
      told = λ t v w. st.told t v (subst (λ o. IsWorth shape o t v) out w);
      steps = subst (λ o. AreSteps shape way.side (stop o) new.steps.items) (sym out) counted.steps;
      gives = λ t v g. of_best (end p) t v (by_part t v (in_old t v g) (counted.gives t v (in_old t v g)));
      sees = λ t v g. sees t (before_end t v (in_old t v g));
      none = λ t a u x y s h. absurd (past t (after_end t a) u (before_through (low shape laws chain way rising t) left x s.0 h));
      reached = subst (λ o. AtMost (stop o) chain.from ⊎ ((t : Rational) → Upto (stop o) t → ¬ Before (end p) (high shape laws chain way rising t))) (sym out)
          (elim st.reached [ inl h ↦ inl h | inr h ↦ inr (λ t u b. h t u (before_of_at_most reach (end p) (high shape laws chain way rising t) further b)) ]);
    }
      where
        in_old : (t : Rational) (v : Extended) → StepsGive shape way.side (stop new.out) new.steps.items t v
            → StepsGive shape way.side (stop old.out) new.steps.items t v
        in_old t v g = subst (λ o. StepsGive shape way.side (stop o) new.steps.items t v) out g

        before_end : (t : Rational) (v : Extended) → StepsGive shape way.side (stop old.out) new.steps.items t v → Upto e t
        before_end t v g = upto_same (steps_end (stop old.out) new.steps.items) e t counted.ends
            (give_upto shape way.side (stop old.out) new.steps.items t v counted.steps g)

        after_end : (t : Rational) → After (last_end new) t → After e t
        after_end t a = after_same (steps_end (stop old.out) new.steps.items) e t counted.ends
            (subst (λ o. After (steps_end (stop o) new.steps.items) t) out a)

        by_part : (t : Rational) (v : Extended) → StepsGive shape way.side (stop old.out) new.steps.items t v
            → ((x : Extended) × StepsGive shape way.side (stop old.out) old.steps.items t x × IsBetter way.side x (value_at (shape.function k) t) v)
            ⊎ (After (last_end old) t × Upto e t × Passes (shape.function k) t v) → BestOf shape laws chain way rising (SeenTo (end p) t) v
        by_part t v g (inl (x, h, b)) =
            met_more shape laws chain way rising some c p is t (to_best c t x (st.gives t x h))
            (part t (give_after shape way.side (stop old.out) new.steps.items t v counted.steps g) (before_end t v g)) b
        by_part t v g (inr (a, u, w)) =
            met_more shape laws chain way rising some c p is t
            (none_seen shape laws chain way rising c t (λ x y s h. st.none t a (sees t u).1 x y s h))
            (part t (give_after shape way.side (stop old.out) new.steps.items t v counted.steps g) u)
            (better_alike (same_reflᵉ (none shape laws chain way rising)) (same_reflᵉ (value_at (shape.function k) t)) (symᵉ w)
            (better_is_second way.side (none shape laws chain way rising) (value_at (shape.function k) t) (floor shape laws chain way rising k t)))

    -- or not at all, where the window has left it before
    pub stands_left : new.steps.items ≡ old.steps.items → (e : Place) → ((t : Rational) → After (stop old.out) t → After e t)
        → ((t : Rational) → After e t → Upto (place way.to) t → ¬ Before (low shape laws chain way rising t) left) → AtMost c left
        → Stands shape chain way (end p) left new
    stands_left same e behind past most = record {
      normal = subst (λ o. IsNormal shape o) (sym out) st.normal;
      on = subst (λ o. AtMost chain.from (stop o)) (sym out) st.on;
      upto = subst (λ o. AtMost (stop o) (stop chain)) (sym out) st.upto;
      told = λ t v w. st.told t v (subst (λ o. IsWorth shape o t v) out w);
      steps = subst (λ o. AreSteps shape way.side (stop o) new.steps.items) (sym out) (subst (AreSteps shape way.side (stop old.out)) (sym same) st.steps);
      gives = λ t v g. absurd (no_step t v (in_old t v g));
      sees = λ t v g. absurd (no_step t v (in_old t v g));
      none = λ t a u x y s h. absurd (past t (behind t (begin_after t a)) u (before_through (low shape laws chain way rising t) left x s.0 h));
      reached = subst (λ o. AtMost (stop o) chain.from ⊎ ((t : Rational) → Upto (stop o) t → ¬ Before (end p) (high shape laws chain way rising t))) (sym out)
          (elim st.reached [ inl h ↦ inl h | inr h ↦ inr (λ t u b. h t u (before_of_at_most reach (end p) (high shape laws chain way rising t) further b)) ]);
    }
      where
        in_old : (t : Rational) (v : Extended) → StepsGive shape way.side (stop new.out) new.steps.items t v
            → StepsGive shape way.side (stop old.out) old.steps.items t v
        in_old t v g = subst (λ xs. StepsGive shape way.side (stop old.out) xs t v) same
            (subst (λ o. StepsGive shape way.side (stop o) new.steps.items t v) out g)

        begin_after : (t : Rational) → After (last_end new) t → After (stop old.out) t
        begin_after t a = after_at_most (stop old.out) (last_end old) t (to_end shape way.side (stop old.out) old.steps.items st.steps)
            (subst (λ xs. After (steps_end (stop old.out) xs) t) same (subst (λ o. After (steps_end (stop o) new.steps.items) t) out a))

        no_step : (t : Rational) (v : Extended) → StepsGive shape way.side (stop old.out) old.steps.items t v → ⊥
        no_step t v g = past t (behind t (give_after shape way.side (stop old.out) old.steps.items t v st.steps g)) (st.sees t v g).1
            (before_at_most (low shape laws chain way rising t) c left (st.sees t v g).0 most)

    -- the piece does not count where the steps that go on as far are no worse than its best value
    pub stands_hidden : new.steps.items ≡ old.steps.items → (v : Extended) (e : Place) → FallOff shape way.side (stop old.out) old.steps.items
        → HideTo shape way.side old.steps.items v e
        → ((t : Rational) → After (stop old.out) t → Upto (place way.to) t → Before (low shape laws chain way rising t) left
        → Before c (high shape laws chain way rising t) → BestOf shape laws chain way rising (OfPiece shape laws chain way rising some c p is t) v)
        → ((t : Rational) → After e t → Upto (place way.to) t → ¬ Before (low shape laws chain way rising t) left) → AtMost c left
        → Stands shape chain way (end p) left new
    stands_hidden same v e falls hides part past most = record {
      normal = subst (λ o. IsNormal shape o) (sym out) st.normal;
      on = subst (λ o. AtMost chain.from (stop o)) (sym out) st.on;
      upto = subst (λ o. AtMost (stop o) (stop chain)) (sym out) st.upto;
      told = λ t v w. st.told t v (subst (λ o. IsWorth shape o t v) out w);
      steps = subst (λ o. AreSteps shape way.side (stop o) new.steps.items) (sym out) (subst (AreSteps shape way.side (stop old.out)) (sym same) st.steps);
      gives = λ t x g. by_old t x (in_old t x g);
      sees = λ t x g. let s = st.sees t x (in_old t x g) in (before_at_most (low shape laws chain way rising t) c left s.0 most, s.1);
      none = λ t a u x y s h. absurd (past t (after_at_most e (last_end old) t (hide_upto shape way.side (stop old.out) old.steps.items v e hides)
          (end_after t a)) u (before_through (low shape laws chain way rising t) left x s.0 h));
      reached = subst (λ o. AtMost (stop o) chain.from ⊎ ((t : Rational) → Upto (stop o) t → ¬ Before (end p) (high shape laws chain way rising t))) (sym out)
          (elim st.reached [ inl h ↦ inl h | inr h ↦ inr (λ t u b. h t u (before_of_at_most reach (end p) (high shape laws chain way rising t) further b)) ]);
    }
      where
        in_old : (t : Rational) (x : Extended) → StepsGive shape way.side (stop new.out) new.steps.items t x
            → StepsGive shape way.side (stop old.out) old.steps.items t x
        in_old t x g = subst (λ xs. StepsGive shape way.side (stop old.out) xs t x) same
            (subst (λ o. StepsGive shape way.side (stop o) new.steps.items t x) out g)

        end_after : (t : Rational) → After (last_end new) t → After (last_end old) t
        end_after t a = subst (λ xs. After (steps_end (stop old.out) xs) t) same (subst (λ o. After (steps_end (stop o) new.steps.items) t) out a)

        by_old : (t : Rational) (x : Extended) → StepsGive shape way.side (stop old.out) old.steps.items t x → BestTo shape chain way (end p) t x
        by_old t x g =
            let s = st.sees t x g in
            best_on some c p is t x v (st.gives t x g)
            (part t (give_after shape way.side (stop old.out) old.steps.items t x st.steps g) s.1
            (before_at_most (low shape laws chain way rising t) c left s.0 most))
            (all_above shape way.side (stop old.out) old.steps.items v e st.steps falls hides t x g)

  module _ (some : IsNonEmpty way.over) (c : Place) (p : Piece P) (is : IsPieceFrom shape chain c p) (old new : Sliding P)
      (st : Stands shape chain way (end p) c old) (out : new.out ≡ old.out)
      (begun : (t : Rational) → After (last_end old) t → Upto (place way.to) t → Before c (high shape laws chain way rising t))
      (left_c : (t : Rational) → After (last_end old) t → Upto (place way.to) t → ¬ Before (low shape laws chain way rising t) c) where
    -- a piece that gets worse counts as itself, once the window has left the place where it begins
    pub stands_slid : (slope : P) (e : Place) → GetsNoBetter way.side (shape.function p.shape)
        → ((t : Rational) → value_at (shape.function slope) t ≈ᵉ value_at (shape.function p.shape) (low shape laws chain way rising t).at)
        → HasSlid shape way.side (stop old.out) old.steps.items slope e new.steps.items
        → ((t : Rational) → Upto e t → Before (low shape laws chain way rising t) (end p) × Upto (place way.to) t)
        → ((t : Rational) → After e t → Upto (place way.to) t → ¬ Before (low shape laws chain way rising t) (end p))
        → Stands shape chain way (end p) (end p) new
    stands_slid slope e falls moved slid sees past = record {
      normal = subst (λ o. IsNormal shape o) (sym out) st.normal;
      on = subst (λ o. AtMost chain.from (stop o)) (sym out) st.on;
      upto = subst (λ o. AtMost (stop o) (stop chain)) (sym out) st.upto;
      told = λ t v w. st.told t v (subst (λ o. IsWorth shape o t v) out w);
      steps = subst (λ o. AreSteps shape way.side (stop o) new.steps.items) (sym out) slid.steps;
      gives = λ t v g. by_part t v (slid.gives t v (in_old t v g));
      sees = λ t v g. sees_part t v (slid.gives t v (in_old t v g));
      none = λ t a u x y s h. absurd (past t (slid.past t (subst (λ o. After (steps_end (stop o) new.steps.items) t) out a)).0 u
          (before_through (low shape laws chain way rising t) (end p) x s.0 h));
      reached = subst (λ o. AtMost (stop o) chain.from ⊎ ((t : Rational) → Upto (stop o) t → ¬ Before (end p) (high shape laws chain way rising t)))
          (sym out) st.reached;
    }
      where
        in_old : (t : Rational) (v : Extended) → StepsGive shape way.side (stop new.out) new.steps.items t v
            → StepsGive shape way.side (stop old.out) new.steps.items t v
        in_old t v g = subst (λ o. StepsGive shape way.side (stop o) new.steps.items t v) out g

        sees_part : (t : Rational) (v : Extended)
            → StepsGive shape way.side (stop old.out) old.steps.items t v ⊎ (After (last_end old) t × Upto e t × Passes (shape.function slope) t v)
            → Before (low shape laws chain way rising t) (end p) × Upto (place way.to) t
        sees_part t v (inl g) = let s = st.sees t v g in (before_trans (low shape laws chain way rising t) c (end p) s.0 is.order, s.1)
        sees_part t v (inr (a, u, w)) = sees t u

        by_part : (t : Rational) (v : Extended)
            → StepsGive shape way.side (stop old.out) old.steps.items t v ⊎ (After (last_end old) t × Upto e t × Passes (shape.function slope) t v)
            → BestTo shape chain way (end p) t v
        by_part t v (inl g) = st.gives t v g
        by_part t v (inr (a, u, w)) =
            let in_domain = (sees t u).1 in
            let value = value_at (shape.function p.shape) (low shape laws chain way rising t).at in
            of_best (end p) t v (met_more shape laws chain way rising some c p is t
            (none_seen shape laws chain way rising c t (λ x y s h. st.none t a in_domain x y s h))
            (falling_within shape laws chain way rising some c p is t falls (begun t a in_domain) (left_c t a in_domain) (sees t u).0)
            (better_alike (same_reflᵉ (none shape laws chain way rising)) (same_reflᵉ value) (symᵉ (transᵉ w (moved t)))
            (better_is_second way.side (none shape laws chain way rising) value
            (floor shape laws chain way rising p.shape (low shape laws chain way rising t).at))))
