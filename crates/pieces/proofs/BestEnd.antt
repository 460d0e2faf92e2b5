-- How a window meets a piece: at which of its ends the piece is best, where the value there counts, and at which of the window's ends that
-- value lies where it counts at one time alone.
use Rattle.std.proofs.Common.{◌≡◌, ◌⊎◌, inl, inr, ◌^◌, ℕ, ℤ, pos, neg_ℤ, true, false, Result, Ok, Err, sym, subst}
use Rattle.std.specs.Prelude.{◌≤ℤ◌, OnOk}
use Rattle.rational.specs.Time.{Rational, ◌≤ʳ◌, ◌<ʳ◌, ◌≈◌, add, whole}
use Rattle.rational.specs.Rational.{IsWithin, middle}
use Rattle.rational.specs.Extended.{Affine, Extended, value_at, ◌≈ᵉ◌}
use Rattle.rational.specs.Affine.{HasBoundedLevel, IsBounded}
use Rattle.rational.specs.Places.{Place, After, Upto, Before, AtMost}
use Rattle.rational.proofs.Order.{ge_of_same, le_of_same, le_or_lt, le_trans, left_of_middle, right_of_middle, lt_irrefl}
use Rattle.rational.proofs.Order.{lt_of_lt_of_le, lt_or_same_or_gt, lt_trans, not_lt_of_le, same_of_le, same_sym}
use Rattle.rational.proofs.Field.{add_zero}
use Rattle.rational.proofs.Shift.{le_shift, le_shift_by, lt_ahead, lt_ahead_back, lt_behind, lt_behind_back, shift_forth}
use Rattle.rational.proofs.AffineLemmas.{bounded_same, same_reflᵉ, value_same}
use Rattle.rational.proofs.Bounds.{level_bounded}
use Rattle.rational.proofs.Mixed.{within_between}
use Rattle.rational.proofs.Sames.{symᵉ, transᵉ}
use Rattle.rational.proofs.PlaceLemmas.{le_of_at_most, le_of_before}
use Rattle.frac128.specs.Cuts.{place}
use Rattle.value_laws.specs.Members.{ShapeOf, ShapeLaws}
use Rattle.pl_signal.specs.declared.joining.Side.{Side}
use Rattle.pl_signal.specs.declared.joining.Side.TheVariants.{Least, Greatest}
use Rattle.pieces.specs.declared.piece.Piece.{Piece}
use Rattle.pieces.specs.declared.reach.Reach.{Reach}
use Rattle.pieces.specs.declared.reach.Way.{Way}
use Rattle.pieces.specs.declared.sliding.Sliding.{Sliding}
use Rattle.pieces.specs.Best.{IsNoWorse, RisesFrom, none_of}
use Rattle.pieces.specs.Steps.{IsLastChoice}
use Rattle.pieces.specs.Chains.{Chain, end, stop, IsLimited, Rise}
use Rattle.pieces.specs.Sliding.{IsBestWith}
use Rattle.pieces.specs.Windows.{low_place, high_place, BestTo, HasEntered, IsBestEnd, IsNonEmpty, IsPieceFrom, IsSmall, Keeps, MayClimb}
use Rattle.pieces.proofs.Bests.{best_value, better_alike, better_is_second, nw_back, nw_same, nw_trans}
use Rattle.pieces.proofs.Ends.{after_of_lt, at_most_itself, at_most_of_before, here_after, here_upto, upto_le, upto_of_lt, upto_time_same}
use Rattle.pieces.proofs.SeenBest.{BestOf, OfPiece, falling_before, floor, high, low, met_more, none, none_seen, rising_past, rising_within}
use Rattle.pieces.proofs.SinceSteps.{bounded_ends}
use Rattle.pieces.proofs.WindowGoesOn.{of_best, to_best}

-- what follows from two things holds where a result is good, if both do
pub on_ok_two : {T E A B C : Type 0} (r : Result T E) → (A → B → C) → OnOk r A → OnOk r B → OnOk r C
on_ok_two (Ok x) f a b = f a b
on_ok_two (Err x) f a b = tt

-- what is at most all times from one on, each moved, is at most that one moved
limit_after : (x a b : Rational) (k : ℤ) → a <ʳ b → ((t : Rational) → a <ʳ t → t <ʳ b → x ≤ʳ add t (whole k)) → x ≤ʳ add a (whole k)
limit_after x a b k order all = elim (le_or_lt x (add a (whole k))) [
  | inl h ↦ h
  | inr h ↦ (let y = add x (whole (neg_ℤ k)) in
      let above : a <ʳ y = lt_behind a x k h in
      elim (le_or_lt b y) [
        | inl l ↦ absurd (not_lt_of_le (all (middle a b) (left_of_middle order) (right_of_middle order))
            (lt_behind_back (middle a b) x k (lt_of_lt_of_le (right_of_middle order) l)))
        | inr l ↦ absurd (not_lt_of_le (all (middle a y) (left_of_middle above) (lt_trans (right_of_middle above) l))
            (lt_behind_back (middle a y) x k (right_of_middle above)))
      ])
]

-- and what is at least all times up to one, each moved, is at least that one moved
pub limit_before : (x a : Rational) (k : ℤ) → ((t : Rational) → t <ʳ a → add t (whole k) ≤ʳ x) → add a (whole k) ≤ʳ x
limit_before x a k all = elim (le_or_lt (add a (whole k)) x) [
  | inl h ↦ h
  | inr h ↦ (let y = add x (whole (neg_ℤ k)) in
      let below : y <ʳ a = lt_ahead_back x a k h in
      absurd (not_lt_of_le (all (middle y a) (right_of_middle below)) (lt_ahead x (middle y a) k (left_of_middle below))))
]

-- a time moved by an offset is no earlier, where that is behind nothing, and no later, where it is ahead of nothing
pub stays_ahead : (t : Rational) (k : ℤ) → pos 0 ≤ℤ k → t ≤ʳ add t (whole k)
stays_ahead t k h = le_trans (ge_of_same (add_zero t)) (le_shift_by {j = pos 0} {k = k} t h)

pub stays_behind : (t : Rational) (k : ℤ) → k ≤ℤ pos 0 → add t (whole k) ≤ʳ t
stays_behind t k h = le_trans (le_shift_by {j = k} {k = pos 0} t h) (le_of_same (add_zero t))

-- a window whose value counts at one time alone has one of its ends there at the place of the value
module _ (over : Reach) (small : IsSmall over) (at until best first to : Place)
    (upto : (t : Rational) → Upto until t → Before (low_place over.low over.low_in t) best × Upto to t)
    (after : (t : Rational) → After until t → Upto to t → ¬ Before (low_place over.low over.low_in t) best)
    (entered : (t : Rational) → After at t → Upto to t → Before best (high_place over.high over.high_in t))
    (reached : AtMost at first ⊎ ((t : Rational) → Upto at t → ¬ Before best (high_place over.high over.high_in t)))
    (begins : AtMost first best) (ends : AtMost best to) where
  at_least_low : (t : Rational) → ¬ Before (low_place over.low over.low_in t) best → best.at ≤ʳ add t (whole over.low)
  at_least_low t n = elim (le_or_lt best.at (add t (whole over.low))) [ inl h ↦ h | inr h ↦ absurd (n (inl h)) ]

  at_most_high : (t : Rational) → ¬ Before best (high_place over.high over.high_in t) → add t (whole over.high) ≤ʳ best.at
  at_most_high t n = elim (le_or_lt (add t (whole over.high)) best.at) [ inl h ↦ h | inr h ↦ absurd (n (inl h)) ]

  -- where its low end lies before the place at the last time of the domain, its high end is there
  by_high : at.at ≈ until.at → at.after ≡ false → until.after ≡ true → until.at ≈ to.at → add at.at (whole over.low) <ʳ best.at
      → add at.at (whole over.high) ≈ best.at
  by_high same ahead behind_it last below = same_of_le over_low (le_of_before best (high_place over.high over.high_in at.at) seen)
    where
      in_domain : Upto to at.at
      in_domain = upto_time_same to until.at at.at (same_sym same) (upto until.at (here_upto until behind_it)).1

      seen : Before best (high_place over.high over.high_in at.at)
      seen = entered at.at (here_after at ahead) in_domain

      below_at : best.at ≤ʳ at.at
      below_at = le_trans (le_of_at_most best to ends) (le_trans (ge_of_same last) (ge_of_same same))

      behind : add at.at (whole over.high) ≤ʳ at.at
      behind = elim small.aside [
        | inl h ↦ absurd (not_lt_of_le (stays_ahead at.at over.low h) (lt_of_lt_of_le below below_at))
        | inr h ↦ stays_behind at.at over.high h
      ]

      over_low : add at.at (whole over.high) ≤ʳ best.at
      over_low = elim reached [
        | inl h ↦ le_trans behind (le_trans (le_of_at_most at first h) (le_of_at_most first best begins))
        | inr h ↦ limit_before best.at at.at over.high (λ t l. at_most_high t (h t (upto_of_lt at t l)))
      ]

  -- where the value counts at one time alone, one of the window's ends comes to its place then
  pub one_end : Before at until → at.at ≈ until.at
      → (add at.at (whole over.low) ≈ best.at) ⊎ (add at.at (whole over.high) ≈ best.at)
  one_end (inl l) same = absurd (lt_irrefl (lt_of_lt_of_le l (ge_of_same same)))
  one_end (inr (s, ahead, behind_it)) same = by_order (lt_or_same_or_gt (add at.at (whole over.low)) best.at)
    where
      here : Before (low_place over.low over.low_in until.at) best × Upto to until.at
      here = upto until.at (here_upto until behind_it)

      not_above : add at.at (whole over.low) ≤ʳ best.at
      not_above = le_trans (le_shift over.low (le_of_same same)) (le_of_before (low_place over.low over.low_in until.at) best here.0)

      by_last : add at.at (whole over.low) <ʳ best.at → (until.at <ʳ to.at) ⊎ (until.at ≈ to.at) ⊎ (to.at <ʳ until.at)
          → (add at.at (whole over.low) ≈ best.at) ⊎ (add at.at (whole over.high) ≈ best.at)
      by_last below (inl l) = absurd (not_lt_of_le (le_trans
          (limit_after best.at until.at to.at over.low l (λ t a u. at_least_low t (after t (after_of_lt until t a) (upto_of_lt to t u))))
          (le_shift over.low (ge_of_same same))) below)
      by_last below (inr (inl e)) = inr (by_high same ahead behind_it e below)
      by_last below (inr (inr l)) = absurd (not_lt_of_le (upto_le to until.at here.1) l)

      by_order : (add at.at (whole over.low) <ʳ best.at) ⊎ (add at.at (whole over.low) ≈ best.at) ⊎ (best.at <ʳ add at.at (whole over.low))
          → (add at.at (whole over.low) ≈ best.at) ⊎ (add at.at (whole over.high) ≈ best.at)
      by_order (inl h) = by_last h (lt_or_same_or_gt until.at to.at)
      by_order (inr (inl h)) = inl h
      by_order (inr (inr h)) = absurd (not_lt_of_le not_above h)

-- a function that is at each time what another is at an offset has a bounded level, where the other is bounded somewhere
pub moved_level : (n : ℕ) (f g : Affine) (k : ℤ) (m : Rational) → ((t : Rational) → value_at g t ≈ᵉ value_at f (add t (whole k)))
    → IsBounded n (value_at f m) → HasBoundedLevel n g
moved_level n f g k m moved small =
    let t = add m (whole (neg_ℤ k)) in
    level_bounded n g t (bounded_same n (value_at g t) (value_at f m) (transᵉ (moved t) (value_same f (shift_forth m k))) small)

module _ {P : Type 0} (shape : ShapeOf P) (laws : ShapeLaws shape) (side : Side) (gap : P)
    (is : (t : Rational) → value_at (shape.function gap) t ≈ᵉ none_of side shape.lowest shape.highest) where
  -- a shape that is worth the value of no values does not climb
  pub none_rises : (from to : Rational) → RisesFrom side from to (shape.function gap)
  none_rises from to t u a k m = nw_same side (transᵉ (is u) (symᵉ (is t)))

  -- no shape is worse
  pub none_last : IsLastChoice shape side gap
  none_last q t = nw_trans (floor side) (nw_back side (is t))
    where
      floor : (side : Side) → IsNoWorse side (value_at (shape.function q) t) (none_of side shape.lowest shape.highest)
      floor Greatest = record { order = laws.lowest_is_least q t }
      floor Least = record { order = laws.highest_is_greatest q t }

  -- its level is bounded
  pub none_level : HasBoundedLevel (2 ^ 31) (shape.function gap)
  none_level steady t = bounded_same (2 ^ 31) (value_at (shape.function gap) t) (none_of side shape.lowest shape.highest) (is t) (by_side side)
    where
      by_side : (side : Side) → IsBounded (2 ^ 31) (none_of side shape.lowest shape.highest)
      by_side Greatest = laws.lowest_bounded
      by_side Least = laws.highest_bounded

module _ {P : Type 0} (shape : ShapeOf P) (laws : ShapeLaws shape) (chain : Chain P) (way : Way) (rising : Rise chain.from chain.pieces)
    (c : Place) (p : Piece P) (is : IsPieceFrom shape chain c p) where
  module _ (best : Place) (one : IsBestEnd shape way.side c p best) where
    -- the best end does not lie before the piece
    pub best_begins : AtMost c best
    best_begins = elim one [
      | inl (e, h) ↦ subst (λ b. AtMost c b) (sym e) (at_most_itself c)
      | inr (e, h) ↦ subst (λ b. AtMost c b) (sym e) (at_most_of_before c (end p) is.order)
    ]

    -- the best end does not lie behind the piece
    pub best_ends : AtMost best (end p)
    best_ends = elim one [
      | inl (e, h) ↦ subst (λ b. AtMost b (end p)) (sym e) (at_most_of_before c (end p) is.order)
      | inr (e, h) ↦ subst (λ b. AtMost b (end p)) (sym e) (at_most_itself (end p))
    ]

    -- as long as it is seen, the value there is the best of the piece
    pub best_there : (some : IsNonEmpty way.over) (t : Rational) → Before best (high shape laws chain way rising t)
        → Before (low shape laws chain way rising t) best
        → BestOf shape laws chain way rising (OfPiece shape laws chain way rising some c p is t) (value_at (shape.function p.shape) best.at)
    best_there some t h l = elim one [
      | inl (e, falls) ↦ subst (λ b. BestOf shape laws chain way rising (OfPiece shape laws chain way rising some c p is t)
          (value_at (shape.function p.shape) b.at)) (sym e) (falling_before shape laws chain way rising some c p is t falls
          (subst (λ b. Before b (high shape laws chain way rising t)) e h) (subst (λ b. Before (low shape laws chain way rising t) b) e l))
      | inr (e, rises) ↦ subst (λ b. BestOf shape laws chain way rising (OfPiece shape laws chain way rising some c p is t)
          (value_at (shape.function p.shape) b.at)) (sym e) (rising_past shape laws chain way rising some c p is t (inl rises)
          (subst (λ b. Before (low shape laws chain way rising t) b) e l) (subst (λ b. Before b (high shape laws chain way rising t)) e h))
    ]

    -- the value at the best end is bounded
    pub best_bounded : IsLimited shape chain → IsBounded (2 ^ 31) (value_at (shape.function p.shape) best.at)
    best_bounded limited =
        let f = shape.function p.shape in
        let both = bounded_ends (2 ^ 31) c (end p) f is.order (λ t a u. limited.values t (value_at f t) (is.worth t a u)) in
        elim one [
          | inl (e, h) ↦ subst (λ b. IsBounded (2 ^ 31) (value_at f b.at)) (sym e) both.0
          | inr (e, h) ↦ subst (λ b. IsBounded (2 ^ 31) (value_at f b.at)) (sym e) both.1
        ]

    -- the best end lies within the limits of time
    pub best_within : IsLimited shape chain → IsWithin (2 ^ 34) best.at
    best_within limited = within_between (2 ^ 34) limited.begins limited.ends
        (le_trans (le_of_at_most chain.from c is.begins) (le_of_at_most c best best_begins))
        (le_trans (le_of_at_most best (end p) best_ends) (le_of_at_most (end p) (stop chain) is.ends))

  -- a piece that gets no worse counts as it is under the high end, while that moves over it
  pub best_with_rise : (some : IsNonEmpty way.over) (gap : P) (old : Sliding P) → Keeps shape chain way c (end p) c old
      → HasEntered shape chain way c old → MayClimb way.over way.side (shape.function p.shape)
      → ((t : Rational) → value_at (shape.function gap) t ≈ᵉ value_at (shape.function p.shape) (high shape laws chain way rising t).at)
      → (t : Rational) (v : Extended) → After (stop old.out) t → Upto (place way.to) t → ¬ Before (end p) (high shape laws chain way rising t)
      → IsBestWith shape way.side old gap t v → BestTo shape chain way (end p) t v
  best_with_rise some gap old st entered rises moved t v a u n with_gap = of_best shape laws chain way rising (end p) t v (elim with_gap [
    | inl (x, g, b) ↦ met_more shape laws chain way rising some c p is t (to_best shape laws chain way rising c t x (st.gives t x g)) part b
    | inr (past, w) ↦ met_more shape laws chain way rising some c p is t
        (none_seen shape laws chain way rising c t (λ x y s h. st.none t past u x y s h)) part
        (better_alike (same_reflᵉ (none shape laws chain way rising)) (same_reflᵉ (value_at (shape.function gap) t)) (symᵉ w)
        (better_is_second way.side (none shape laws chain way rising) (value_at (shape.function gap) t) (floor shape laws chain way rising gap t)))
  ])
    where
      part : BestOf shape laws chain way rising (OfPiece shape laws chain way rising some c p is t) (value_at (shape.function gap) t)
      part = best_value (symᵉ (moved t)) (rising_within shape laws chain way rising some c p is t rises (entered t a u) n)
