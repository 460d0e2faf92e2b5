-- A since and an until of two chains have a value at each time.
use Rattle.std.proofs.Common.{◌≡◌, ◌⊎◌, inl, inr, ℕ, zero, suc, ◌+◌, ◌-◌, ◌<◌, ◌≤◌, List, [], ◌∷◌, Some, Bool, true, false, IsTrue, length, refl, sym, arith}
use Rattle.std.specs.Prelude.{slice_get, MatchBool, ◌↔◌}
use Rattle.std.proofs.lemmas.Bool.{false≢true}
use Rattle.rational.specs.Rational.{Rational, ◌≤ʳ◌, ◌<ʳ◌, ◌≈◌}
use Rattle.rational.specs.Extended.{Extended, ◌≤ᵉ◌, value_at}
use Rattle.rational.specs.Places.{Place, After, Upto, Before, Same, AtMost}
use Rattle.rational.specs.UntilParts.{HasUntilToEnd, HasSinceFromStart}
use Rattle.rational.proofs.Order.{le_refl, le_of_same, ge_of_same, lt_of_le_of_lt, same_trans}
use Rattle.rational.proofs.ExtendedLemmas.{le_transᵉ}
use Rattle.rational.proofs.AffineLemmas.{same_reflᵉ}
use Rattle.rational.proofs.PlaceLemmas.{place_order, before_at_most, before_same, not_before_itself, same_places, le_of_at_most, after_same, upto_same}
use Rattle.rational.proofs.UntilExistence.{IsPlain, IsFit, Cuts, done, gap, known_first, known_last, since_known, until_known}
use Rattle.value_laws.specs.Members.{ShapeOf, ShapeLaws}
use Rattle.pieces.specs.declared.piece.Piece.{Piece}
use Rattle.pieces.specs.Chains.{Chain, IsNormal, IsWorth, IsWorthFrom, end, stop}
use Rattle.pieces.proofs.Ends.{after_of_lt, upto_of_lt, at_most_itself, at_most_of_before, at_most_of_same, at_most_trans, same_place}
use Rattle.pieces.proofs.ChainLemmas.{every_time, to_stop}
use Rattle.pieces.proofs.ChainsTell.{worth_is_function}
use Rattle.pieces.proofs.ReadUpTo.{StandsAt, stands_first, stands_inside, stands_last, stands_next, end_most, worth_on}
use Rattle.pieces.proofs.Infs.{chain_inf}
use Rattle.pieces.proofs.Composition.{at_least_lowest}

-- a place of a list has an element
at_place : {X : Type 0} (xs : List X) (i : ℕ) → i < length xs → (x : X) × (slice_get xs i ≡ Some x)
at_place [] i h = absurd (omega (arith, h))
at_place (x ∷ xs) zero h = (x, refl)
at_place (x ∷ xs) (suc i) h = at_place xs i (omega (arith, h))

-- a time that is not earlier lies behind a place just before its time, and one that is not later before a place just after it
closed_after : (c : Place) (t : Rational) → c.after ≡ false → c.at ≤ʳ t → After c t
closed_after c t = by_side c.after
  where
    by_side : (b : Bool) → b ≡ false → c.at ≤ʳ t → MatchBool b (c.at <ʳ t) (c.at ≤ʳ t)
    by_side true e h = absurd (false≢true (sym e))
    by_side false e h = h

closed_upto : (c : Place) (t : Rational) → c.after ≡ true → t ≤ʳ c.at → Upto c t
closed_upto c t = by_side c.after
  where
    by_side : (b : Bool) → b ≡ true → t ≤ʳ c.at → MatchBool b (t ≤ʳ c.at) (t <ʳ c.at)
    by_side true e h = h
    by_side false e h = absurd (false≢true e)

-- whether a piece ends at a place: at its own end, and not at an earlier place
ends_here : (c : Place) → IsTrue true ↔ Same c c
ends_here c = (λ _. same_place c, λ _. refl)

ends_later : (c d : Place) → Before d c → IsTrue false ↔ Same c d
ends_later c d before = (λ e. absurd (false≢true e), λ s. absurd (not_before_itself d (before_same d c d before s)))

module _ {P : Type 0} (shape : ShapeOf P) (laws : ShapeLaws shape) (a b : Chain P) (is_a : IsNormal shape a) (is_b : IsNormal shape b)
    (begins : Same a.from b.from) (ends : Same (stop a) (stop b)) where
  -- a chain is worth at most the highest value
  at_most_highest : (c : Place) (ps : List (Piece P)) (t : Rational) (v : Extended) → IsWorthFrom shape c ps t v → v ≤ᵉ shape.highest
  at_most_highest c [] t v h = absurd h
  at_most_highest c (p ∷ ps) t v (inl h) = le_transᵉ v (value_at (shape.function p.shape) t) shape.highest h.2.at_most (laws.highest_is_greatest p.shape t)
  at_most_highest c (p ∷ ps) t v (inr h) = at_most_highest (end p) ps t v h

  abbrev ChainCuts : Rational → Rational → Type 0
  ChainCuts l r = Cuts shape.lowest shape.highest (IsWorth shape a) (IsWorth shape b) l r

  -- the gaps from a time by another pair
  cuts_same : (l m r : Rational) → l ≈ m → ChainCuts m r → ChainCuts l r
  cuts_same l m r e (done s) = done (same_trans e s)
  cuts_same l m r e (gap n f h o below plain cuts) = gap n f h (lt_of_le_of_lt (le_of_same e) o) below (record {
    left_on = λ t x y. plain.left_on t (lt_of_le_of_lt (ge_of_same e) x) y;
    right_on = λ t x y. plain.right_on t (lt_of_le_of_lt (ge_of_same e) x) y;
    left_low = plain.left_low;
    right_low = plain.right_low;
    left_high = plain.left_high;
  }) cuts

  module _ (i j : ℕ) (c e : Place) (p q : Piece P) (left : StandsAt a c i) (right : StandsAt b c j) (at_p : slice_get a.pieces i ≡ Some p)
      (at_q : slice_get b.pieces j ≡ Some q) (to_p : AtMost e (end p)) (to_q : AtMost e (end q)) where
    -- up to the end of either piece both chains go by their shapes
    plain : IsPlain shape.lowest shape.highest (IsWorth shape a) (IsWorth shape b) c.at e.at (shape.function p.shape) (shape.function q.shape)
    plain = record {
      left_on = λ t x y. (
        value_at (shape.function p.shape) t,
        worth_on shape a c i p t left at_p (after_of_lt c t x) (to_p t (upto_of_lt e t y)),
        same_reflᵉ (value_at (shape.function p.shape) t),
      );
      right_on = λ t x y. (
        value_at (shape.function q.shape) t,
        worth_on shape b c j q t right at_q (after_of_lt c t x) (to_q t (upto_of_lt e t y)),
        same_reflᵉ (value_at (shape.function q.shape) t),
      );
      left_low = laws.lowest_is_least p.shape;
      right_low = laws.lowest_is_least q.shape;
      left_high = laws.highest_is_greatest p.shape;
    }

    -- one gap, where there is one
    one_gap : Before c e → AtMost e (stop a) → ChainCuts e.at (stop a).at → ChainCuts c.at (stop a).at
    one_gap (inl l) below rest = gap e.at (shape.function p.shape) (shape.function q.shape) l (le_of_at_most e (stop a) below) plain rest
    one_gap (inr (s, x, y)) below rest = cuts_same c.at e.at (stop a).at s rest

  cuts : (fuel i j : ℕ) (c : Place) → StandsAt a c i → StandsAt b c j → AtMost c (stop a) → (length a.pieces - i) + (length b.pieces - j) ≤ fuel
      → ChainCuts c.at (stop a).at
  cuts zero i j c left right below few = let most = left.inside in done (stands_last a c i left below (omega (arith, few, most))).0
  cuts (suc fuel) i j c left right below few = by_order (λ i j c x y z w. cuts fuel i j c x y z w) (place_order c (stop a))
    where
      by_order : ((i j : ℕ) (c : Place) → StandsAt a c i → StandsAt b c j → AtMost c (stop a) → (length a.pieces - i) + (length b.pieces - j) ≤ fuel
          → ChainCuts c.at (stop a).at) → Before c (stop a) ⊎ Same c (stop a) ⊎ Before (stop a) c → ChainCuts c.at (stop a).at
      by_order rest (inr (inl s)) = done s.0
      by_order rest (inr (inr after)) = absurd (not_before_itself (stop a) (before_at_most (stop a) c (stop a) after below))
      by_order rest (inl before) = by_ends (at_place a.pieces i more) (at_place b.pieces j more')
        where
          more : i < length a.pieces
          more = stands_inside a c i left before

          more' : j < length b.pieces
          more' = stands_inside b c j right (before_same c (stop a) (stop b) before ends)

          by_ends : (p : Piece P) × (slice_get a.pieces i ≡ Some p) → (q : Piece P) × (slice_get b.pieces j ≡ Some q) → ChainCuts c.at (stop a).at
          by_ends (p, at_p) (q, at_q) = by_place (place_order (end p) (end q))
            where
              p_later : Before c (end p)
              p_later = left.ahead p at_p

              q_later : Before c (end q)
              q_later = right.ahead q at_q

              p_below : AtMost (end p) (stop a)
              p_below = end_most a.from a.pieces i p is_a.rising at_p

              q_below : AtMost (end q) (stop a)
              q_below = at_most_trans (end q) (stop b) (stop a) (end_most b.from b.pieces j q is_b.rising at_q)
                  (at_most_of_same (stop b) (stop a) (same_places ends))

              by_place : Before (end p) (end q) ⊎ Same (end p) (end q) ⊎ Before (end q) (end p) → ChainCuts c.at (stop a).at
              by_place (inl first) =
                  let on = at_most_of_before c (end p) p_later in
                  let to_q = at_most_of_before (end p) (end q) first in
                  one_gap i j c (end p) p q left right at_p at_q (at_most_itself (end p)) to_q p_later p_below
                  (rest (i + 1) j (end p)
                  (stands_next a c (end p) i p true is_a.rising left at_p on (at_most_itself (end p)) (ends_here (end p)))
                  (stands_next b c (end p) j q false is_b.rising right at_q on to_q (ends_later (end q) (end p) first))
                  p_below (omega (arith, few, more)))
              by_place (inr (inl s)) =
                  let on = at_most_of_before c (end p) p_later in
                  let to_q = at_most_of_same (end p) (end q) s in
                  one_gap i j c (end p) p q left right at_p at_q (at_most_itself (end p)) to_q p_later p_below
                  (rest (i + 1) (j + 1) (end p)
                  (stands_next a c (end p) i p true is_a.rising left at_p on (at_most_itself (end p)) (ends_here (end p)))
                  (stands_next b c (end p) j q true is_b.rising right at_q on to_q (λ _. same_places s, λ _. refl))
                  p_below (omega (arith, few, more)))
              by_place (inr (inr second)) =
                  let on = at_most_of_before c (end q) q_later in
                  let to_p = at_most_of_before (end q) (end p) second in
                  one_gap i j c (end q) p q left right at_p at_q to_p (at_most_itself (end q)) q_later q_below
                  (rest i (j + 1) (end q)
                  (stands_next a c (end q) i p false is_a.rising left at_p on to_p (ends_later (end p) (end q) second))
                  (stands_next b c (end q) j q true is_b.rising right at_q on (at_most_itself (end q)) (ends_here (end q)))
                  q_below (omega (arith, few, more')))

  all_cuts : ChainCuts a.from.at (stop a).at
  all_cuts = cuts (length a.pieces + length b.pieces) 0 0 a.from (stands_first a a.from is_a.rising (same_place a.from))
      (stands_first b a.from is_b.rising (same_places begins)) (to_stop a.from a.pieces is_a.rising) (omega arith)

  in_order : a.from.at ≤ʳ (stop a).at
  in_order = le_of_at_most a.from (stop a) (to_stop a.from a.pieces is_a.rising)

  -- from just before a time up to just after one
  module _ (first : a.from.after ≡ false) (last : (stop a).after ≡ true) where
    fit : IsFit shape.lowest shape.highest (IsWorth shape a) (IsWorth shape b) a.from.at (stop a).at
    fit = record {
      p_is = worth_is_function shape a is_a;
      q_is = worth_is_function shape b is_b;
      infs = λ on. chain_inf shape laws.highest_is_greatest a.from a.pieces on;
      p_at = λ t w.
          let v = every_time shape a.from a.pieces t (closed_after a.from t first w.above) (closed_upto (stop a) t last w.below) in
          (v.0, v.1, at_least_lowest shape laws a.from a.pieces t v.0 v.1, at_most_highest a.from a.pieces t v.0 v.1);
      q_at = λ t w.
          let v = every_time shape b.from b.pieces t (after_same a.from b.from t begins (closed_after a.from t first w.above))
          (upto_same (stop a) (stop b) t ends (closed_upto (stop a) t last w.below)) in
          (v.0, v.1, at_least_lowest shape laws b.from b.pieces t v.0 v.1);
    }

    -- a since of two chains has a value at each time
    pub has_since : HasSinceFromStart shape.lowest shape.highest a.from.at (stop a).at (IsWorth shape a) (IsWorth shape b)
    has_since t w = since_known shape.lowest shape.highest (IsWorth shape a) (IsWorth shape b) a.from.at (stop a).at fit a.from.at (stop a).at all_cuts
        (le_refl a.from.at) (le_refl (stop a).at)
        (known_first shape.lowest shape.highest (IsWorth shape a) (IsWorth shape b) a.from.at (stop a).at fit in_order) t w.above w.below

    -- so for until
    pub has_until : HasUntilToEnd shape.lowest shape.highest a.from.at (stop a).at (IsWorth shape a) (IsWorth shape b)
    has_until t w = until_known shape.lowest shape.highest (IsWorth shape a) (IsWorth shape b) a.from.at (stop a).at fit a.from.at (stop a).at all_cuts
        (le_refl a.from.at) (le_refl (stop a).at)
        (known_last shape.lowest shape.highest (IsWorth shape a) (IsWorth shape b) a.from.at (stop a).at fit in_order) t w.above w.below
