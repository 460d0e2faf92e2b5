-- A window that goes over a whole chain: where it begins, the pieces that it meets, and what it has told once it is behind the last.
use Rattle.std.proofs.Common.{◌≡◌, ◌⊎◌, inl, inr, ℕ, [], Some, not, false, refl, sym, ◌∙◌, subst}
use Rattle.std.proofs.lemmas.Bool.{false≢true}
use Rattle.std.specs.Int.Signed.{<ℤ_irrefl}
use Rattle.std.specs.Prelude.{slice_get, MatchBool, ◌<ℤ◌}
use Rattle.rational.specs.Time.{Rational, ◌≤ʳ◌, ◌<ʳ◌, ◌≈◌, add, whole}
use Rattle.rational.specs.Extended.{Extended, value_at, ◌≈ᵉ◌}
use Rattle.rational.specs.Places.{Place, AtMost, Same}
use Rattle.rational.proofs.Order.{not_lt_of_le, same_sym}
use Rattle.rational.proofs.Shift.{same_shift}
use Rattle.rational.proofs.TimeFunctions.{IsFunction}
use Rattle.rational.proofs.PlaceLemmas.{after_same, before_at_most, before_of_at_most, not_both, upto_same}
use Rattle.frac128.specs.Cuts.{place}
use Rattle.value_laws.specs.Members.{ShapeOf, ShapeLaws}
use Rattle.pieces.specs.declared.piece.Piece.{Piece}
use Rattle.pieces.specs.declared.reach.Reach.{Reach}
use Rattle.pieces.specs.declared.reach.Way.{Way}
use Rattle.pieces.specs.declared.sliding.Sliding.{Sliding}
use Rattle.pieces.specs.declared.window.Window.{Window}
use Rattle.pieces.specs.Chains.{Chain, begin_at, end, stop, IsNormal, IsWorth, Rise, Tells}
use Rattle.pieces.specs.Meeting.{CanBegin, HasMet, IsNext, Passes, StandsFor}
use Rattle.pieces.specs.Steps.{AreSteps, StepsGive}
use Rattle.pieces.specs.Sliding.{HasTold}
use Rattle.pieces.specs.Windows.{Best, BestTo, IsNonEmpty, IsPieceFrom, Sees, Stands, high_place, low_place}
use Rattle.pieces.proofs.Bests.{best_alike, best_once, best_over, best_value, over_best}
use Rattle.pieces.proofs.BuildingLemmas.{chain_of}
use Rattle.pieces.proofs.ChainLemmas.{to_stop, worth_after, worth_upto}
use Rattle.pieces.proofs.Ends.{after_le, at_most_itself, at_most_of_before, same_place, upto_le}
use Rattle.pieces.proofs.PieceEnds.{piece_begun}
use Rattle.pieces.proofs.InPlayCauses.{plays_none}
use Rattle.pieces.proofs.WindowGoesOn.{best_with_none, of_best, to_best}
use Rattle.pieces.proofs.SeenBest.{high, low, none}
use Rattle.pieces.proofs.ReadUpTo.{begin_most, end_most, rises_at, shape_at, worth_place}
use Rattle.pieces.proofs.ChainsTell.{told as tells}

-- a window of one offset with an end out sees nothing
pub sees_nothing : (over : Reach) → (over.low ≡ over.high) × ((over.low_in ≡ false) ⊎ (over.high_in ≡ false)) → (t u : Rational) → ¬ Sees over t u
sees_nothing over (e, inl f) t u s = not_lt_of_le (upto_le (high_place over.high over.high_in t) u s.1) (subst (λ k. add t (whole k) <ʳ u) e
    (subst (λ b. MatchBool (not b) (add t (whole over.low) <ʳ u) (add t (whole over.low) ≤ʳ u)) f s.0))
sees_nothing over (e, inr f) t u s =
    not_lt_of_le (subst (λ k. add t (whole k) ≤ʳ u) e (after_le (low_place over.low over.low_in t) u s.0))
    (subst (λ b. MatchBool b (u ≤ʳ add t (whole over.high)) (u <ʳ add t (whole over.high))) f s.1)

module _ {P : Type 0} (shape : ShapeOf P) (laws : ShapeLaws shape) (chain : Chain P) (way : Way) (rising : Rise chain.from chain.pieces) where
  -- the best of what is seen is a function of time
  pub best_is_function : IsFunction (Best shape chain way)
  best_is_function = record {
    alike = λ t u v w e f h. best_over way.side shape.lowest shape.highest (Sees way.over u) (IsWorth shape chain) w (best_value f
        (best_alike (λ x m. (m.0, seen t u e m.0 m.1, m.2)) (λ x m. (m.0, seen u t (same_sym e) m.0 m.1, m.2))
        (over_best way.side shape.lowest shape.highest (Sees way.over t) (IsWorth shape chain) v h)));
    one = λ t v w h k. best_once (over_best way.side shape.lowest shape.highest (Sees way.over t) (IsWorth shape chain) v h)
        (over_best way.side shape.lowest shape.highest (Sees way.over t) (IsWorth shape chain) w k);
  }
    where
      seen : (t u : Rational) → t ≈ u → (x : Rational) → Sees way.over t x → Sees way.over u x
      seen t u e x s = (
        after_same (low shape laws chain way rising t) (low shape laws chain way rising u) x (same_shift way.over.low e, refl) s.0,
        upto_same (high shape laws chain way rising t) (high shape laws chain way rising u) x (same_shift way.over.high e, refl) s.1,
      )

  -- the best of what is seen before the end of the chain is the best of what is seen
  pub all_met : (t : Rational) (v : Extended) → BestTo shape chain way (stop chain) t v → Best shape chain way t v
  all_met t v h = best_over way.side shape.lowest shape.highest (Sees way.over t) (IsWorth shape chain) v
      (best_alike (λ x m. (m.0, m.1.0, m.2)) (λ x m. (m.0, (m.1, worth_upto shape chain.from chain.pieces m.0 x rising m.2), m.2))
      (to_best shape laws chain way rising (stop chain) t v h))

  -- a window that has met all tells the rest by its steps, and so the best of what is seen from end to end
  pub tells_all : (gap : P) (old new : Sliding P) (to : Place) → old.out.from ≡ chain.from → Stands shape chain way (stop chain) (stop chain) old
      → HasTold shape way.side gap old new → Same (stop new.out) to → to ≡ stop chain → AtMost (stop chain) (place way.to)
      → ((t : Rational) → value_at (shape.function gap) t ≈ᵉ none shape laws chain way rising)
      → Tells shape (Best shape chain way) chain.from (stop chain) new.out
  tells_all gap old new to begins st told ends at further is = tells shape (Best shape chain way) chain.from (stop chain) new.out best_is_function
      (record { normal = told.normal; worth = worth })
      (subst (λ s. Same s chain.from) (sym (told.begins ∙ begins)) (same_place chain.from)) here
    where
      here : Same (stop new.out) (stop chain)
      here = subst (λ s. Same (stop new.out) s) at ends

      worth : (t : Rational) (v : Extended) → IsWorth shape new.out t v → Best shape chain way t v
      worth t v w = elim (told.worth t v w) [
        | inl k ↦ st.told t v k
        | inr (a, u, b) ↦ all_met t v (best_with_none shape laws chain way rising (stop chain) (stop chain) (stop chain) gap old st (at_most_itself (stop chain)) is t v
            (further t (upto_same (stop new.out) (stop chain) t here u)) b)
      ]

  -- a window that has told nothing stands where the chain begins
  pub stands_none : (s : Sliding P) → s.out ≡ chain_of chain.from [] → s.steps.items ≡ [] → Stands shape chain way chain.from chain.from s
  stands_none s e nothing = record {
    normal = subst (λ o. IsNormal shape o) (sym e) (record { rising = tt; each = tt });
    on = subst (λ o. AtMost chain.from (stop o)) (sym e) (at_most_itself chain.from);
    upto = subst (λ o. AtMost (stop o) (stop chain)) (sym e) (to_stop chain.from chain.pieces rising);
    told = λ t v w. absurd (subst (λ o. IsWorth shape o t v) e w);
    steps = subst (AreSteps shape way.side (stop s.out)) (sym nothing) tt;
    gives = λ t v g. absurd (subst (λ xs. StepsGive shape way.side (stop s.out) xs t v) nothing g);
    sees = λ t v g. absurd (subst (λ xs. StepsGive shape way.side (stop s.out) xs t v) nothing g);
    none = λ t a u x y see k w. not_both chain.from x k (worth_after shape chain.from chain.pieces x y rising w);
    reached = inl (subst (λ o. AtMost (stop o) chain.from) (sym e) (at_most_itself chain.from));
  }

  -- a window that sees nothing has met all up to any later place
  pub stands_blind : (c d : Place) (s : Sliding P) → AtMost c d → ((t u : Rational) → ¬ Sees way.over t u) → Stands shape chain way c c s
      → Stands shape chain way d d s
  stands_blind c d s later blind st = record {
    normal = st.normal;
    on = st.on;
    upto = st.upto;
    told = st.told;
    steps = st.steps;
    gives = λ t v g. of_best shape laws chain way rising d t v (best_alike (λ x m. absurd (blind t m.0 m.1.0)) (λ x m. absurd (blind t m.0 m.1.0))
        (to_best shape laws chain way rising c t v (st.gives t v g)));
    sees = λ t v g. let s = st.sees t v g in (before_at_most (low shape laws chain way rising t) c d s.0 later, s.1);
    none = λ t a u x y s k. absurd (blind t x s);
    reached = elim st.reached [
      | inl h ↦ inl h
      | inr h ↦ inr (λ t u b. h t u (before_of_at_most c d (high shape laws chain way rising t) later b))
    ];
  }

  -- each piece of the chain, from where it begins
  pub piece_from : (i : ℕ) (p : Piece P) → slice_get chain.pieces i ≡ Some p → IsPieceFrom shape chain (begin_at chain.from chain.pieces i) p
  piece_from i p e = record {
    order = rises_at chain.from chain.pieces i p rising e;
    begins = begin_most chain.from chain.pieces i rising;
    ends = end_most chain.from chain.pieces i p rising e;
    worth = λ t a u. worth_place shape chain.from chain.pieces i p t e a u;
    has = shape_at chain.pieces i p e;
  }

-- a window of one offset with an end out is not one in which some time may lie
pub empty_or_some : (over : Reach) → (over.low ≡ over.high) × ((over.low_in ≡ false) ⊎ (over.high_in ≡ false)) → ¬ IsNonEmpty over
empty_or_some over (e, out) (inl l) = <ℤ_irrefl (subst (λ k. k <ℤ over.high) e l)
empty_or_some over (e, inl out) (inr (s, low_in, high_in)) = false≢true (sym out ∙ low_in)
empty_or_some over (e, inr out) (inr (s, low_in, high_in)) = false≢true (sym out ∙ high_in)

module _ {P : Type 0} {shape : ShapeOf P} {chain : Chain P} {way : Way} where
  -- a window that has told nothing has met what lies before the chain
  pub met_none : ShapeLaws shape → (at : Place) (s : Sliding P) → CanBegin shape chain way at → s.out ≡ chain_of at [] → s.steps.items ≡ []
      → HasMet shape chain way at s
  met_none laws at s can none nothing = subst (λ c. HasMet shape chain way c s) (sym can.begins) (record {
    can = can.can;
    to = can.to;
    within = can.within;
    begins = at_most_itself chain.from;
    ends = to_stop chain.from chain.pieces can.can.rising;
    stands = stands_none shape laws chain way can.can.rising s (subst (λ c. s.out ≡ chain_of c []) can.begins none) nothing;
    plays = plays_none shape chain way.over (place way.to) s at none nothing;
  })

  -- one that sees nothing has met the next piece as well
  pub met_blind : ShapeLaws shape → {c : Place} {p : Piece P} {s : Sliding P} → ((t u : Rational) → ¬ Sees way.over t u) → IsNext shape chain way c p
      → HasMet shape chain way c s → HasMet shape chain way (end p) s
  met_blind laws {c} {p} {s} blind next known = record {
    can = known.can;
    to = known.to;
    within = known.within;
    begins = piece_begun next.piece;
    ends = next.piece.ends;
    stands = stands_blind shape laws chain way known.can.rising c (end p) s (at_most_of_before c (end p) next.piece.order) blind known.stands;
    plays = known.plays;
  }

-- what comes next may be met
pub passes_next : {P : Type 0} {shape : ShapeOf P} {chain : Chain P} {c : Place} {w : Window P} {p : Piece P} → IsNonEmpty w.way.over
    → StandsFor shape chain c w → IsNext shape chain w.way c p → Passes shape chain w.way c p w.sliding
passes_next some st next = record {
  met = st.met;
  some = some;
  piece = next.piece;
  breaks = next.breaks;
  falls = (st.ready some).falls;
  ahead = next.ahead;
}
