-- What a window takes from a piece of a chain is in play where it is seen.
use Rattle.std.proofs.Common.{◌≡◌, ◌⊎◌, inl, inr, ℤ, refl}
use Rattle.rational.specs.Rational.{add, middle, whole}
use Rattle.rational.specs.Time.{Rational, Within, shifted, ◌≤ʳ◌, ◌<ʳ◌}
use Rattle.rational.specs.Extended.{Affine, value_at, ◌≈ᵉ◌}
use Rattle.rational.specs.Affine.{IsSteady}
use Rattle.rational.specs.Places.{Place, Before}
use Rattle.rational.specs.InPlay.{HasTime, IsBreakpoint, IsConstant, IsLineOn}
use Rattle.rational.proofs.Order.{le_refl, le_of_lt, le_of_same, ge_of_same, le_trans, lt_of_le_of_lt, lt_of_lt_of_le, left_of_middle, right_of_middle}
use Rattle.rational.proofs.Order.{le_or_lt, same_sym}
use Rattle.rational.proofs.Shift.{lt_shift, le_shift_by}
use Rattle.rational.proofs.TimeLemmas.{shifted-add}
use Rattle.rational.proofs.AffineLemmas.{passes, same_reflᵉ, value_same}
use Rattle.rational.proofs.Sames.{symᵉ, transᵉ}
use Rattle.rational.proofs.PlaceLemmas.{at_most_of_not_before, between, le_of_at_most, le_of_before}
use Rattle.value_laws.specs.Members.{ShapeOf}
use Rattle.pieces.specs.declared.piece.Piece.{Piece}
use Rattle.pieces.specs.declared.reach.Reach.{Reach}
use Rattle.pieces.specs.Chains.{Chain, end, stop, IsWorth, Rise}
use Rattle.pieces.specs.Over.{InPlay, SeesIn}
use Rattle.pieces.specs.Causes.{IsHeldAt}
use Rattle.pieces.specs.Windows.{IsNonEmpty, IsPieceFrom, IsSmall, high_place, low_place}
use Rattle.pieces.proofs.AheadOver.{in_domain}
use Rattle.pieces.proofs.Ends.{after_of_lt, after_time_same, here_after, here_upto, upto_of_lt, upto_time_same}
use Rattle.pieces.proofs.SeenBest.{earlier_place, later_place}
use Rattle.pieces.proofs.WindowEnds.{room_in}

module _ (over : Reach) where
  -- where the window ends behind a place from just before a time on, its high end is later than the place at that time
  pub past_high : (c : Place) (b tau : Rational) → b <ʳ tau
      → ((t : Rational) → b <ʳ t → t <ʳ tau → Before c (high_place over.high over.high_in t)) → c.at <ʳ add tau (whole over.high)
  past_high c b tau h f =
      let m = middle b tau in
      lt_of_le_of_lt (le_of_before c (high_place over.high over.high_in m) (f m (left_of_middle h) (right_of_middle h)))
      (lt_shift over.high (right_of_middle h))

  -- where it does not end behind it up to just after the time, that end is earlier
  pub short_high : (c : Place) (tau e : Rational) → tau <ʳ e
      → ((t : Rational) → tau <ʳ t → t <ʳ e → ¬ Before c (high_place over.high over.high_in t)) → add tau (whole over.high) <ʳ c.at
  short_high c tau e h f =
      let m = middle tau e in
      lt_of_lt_of_le (lt_shift over.high (left_of_middle h)) (le_of_at_most (high_place over.high over.high_in m) c
      (at_most_of_not_before (high_place over.high over.high_in m) c (f m (left_of_middle h) (right_of_middle h))))

  -- where the window does not begin before a place from just before a time on, its low end is later than the place at that time
  pub past_low : (c : Place) (b tau : Rational) → b <ʳ tau
      → ((t : Rational) → b <ʳ t → t <ʳ tau → ¬ Before (low_place over.low over.low_in t) c) → c.at <ʳ add tau (whole over.low)
  past_low c b tau h f =
      let m = middle b tau in
      lt_of_le_of_lt (le_of_at_most c (low_place over.low over.low_in m)
      (at_most_of_not_before c (low_place over.low over.low_in m) (f m (left_of_middle h) (right_of_middle h))))
      (lt_shift over.low (right_of_middle h))

  -- where it begins before it up to just after the time, that end is earlier
  pub short_low : (c : Place) (tau e : Rational) → tau <ʳ e
      → ((t : Rational) → tau <ʳ t → t <ʳ e → Before (low_place over.low over.low_in t) c) → add tau (whole over.low) <ʳ c.at
  short_low c tau e h f =
      let m = middle tau e in
      lt_of_lt_of_le (lt_shift over.low (left_of_middle h))
      (le_of_before (low_place over.low over.low_in m) c (f m (left_of_middle h) (right_of_middle h)))

-- a constant that is held is in play
pub held_in_play : {P : Type 0} (shape : ShapeOf P) (chain : Chain P) (over : Reach) (last tau : Rational) (line : Affine)
    → IsHeldAt shape chain over last tau line → InPlay shape chain over tau line
held_in_play shape chain over last tau line (seen, inl (u, breaks, m, v, w, constant)) = (seen, inr (inl (u, breaks, m.0, v, w, constant)))
held_in_play shape chain over last tau line (seen, inr (u, breaks, m, v, l, constant)) = (seen, inr (inr (u, breaks, m.0, v, l, constant)))

module _ {P : Type 0} (shape : ShapeOf P) (chain : Chain P) (over : Reach) (rising : Rise chain.from chain.pieces) (small : IsSmall over)
    (some : IsNonEmpty over) (c : Place) (p : Piece P) (is : IsPieceFrom shape chain c p) (tau : Rational) where
  -- the low end is no later than the high one
  low_high : add tau (whole over.low) ≤ʳ add tau (whole over.high)
  low_high = le_shift_by {j = over.low} {k = over.high} tau small.order

  -- some time of the piece is seen
  has_time : c.at <ʳ add tau (whole over.high) → add tau (whole over.low) <ʳ (end p).at → HasTime (SeesIn chain.from.at (stop chain).at over tau)
  has_time h l =
      let (b, later) = later_place c (low_place over.low over.low_in tau) in
      let (e, earlier) = earlier_place (end p) (high_place over.high over.high_in tau) in
      let m = between b e (later.before e (earlier.after c is.order (inl h))
      (earlier.after (low_place over.low over.low_in tau) (inl l) (room_in over.low over.high over.low_in over.high_in tau some))) in
      let x = later.both m.0 m.1 in
      let y = earlier.both m.0 m.2 in
      (m.0, (in_domain shape chain rising m.0 (value_at (shape.function p.shape) m.0) (is.worth m.0 x.0 y.0), (x.1, y.1)))

  -- a time of the piece lies in the domain
  inside : (u : Rational) → c.at ≤ʳ u → u ≤ʳ (end p).at → Within chain.from.at (stop chain).at u
  inside u h k = record {
    above = le_trans (le_of_at_most chain.from c is.begins) h;
    below = le_trans k (le_of_at_most (end p) (stop chain) is.ends);
  }

  -- the chain is the piece's function on its gap
  on_gap : IsLineOn (IsWorth shape chain) c.at (end p).at (shape.function p.shape)
  on_gap t x y =
      (value_at (shape.function p.shape) t, is.worth t (after_of_lt c t x) (upto_of_lt (end p) t y), same_reflᵉ (value_at (shape.function p.shape) t))

  -- the piece moved by an offset is in play where that end of the window lies on its gap
  pub end_in_play : (k : ℤ) → (k ≡ over.low) ⊎ (k ≡ over.high) → c.at <ʳ add tau (whole k) → add tau (whole k) <ʳ (end p).at
      → c.at <ʳ add tau (whole over.high) → add tau (whole over.low) <ʳ (end p).at
      → (line : Affine) → ((t : Rational) → value_at line t ≈ᵉ value_at (shape.function p.shape) (add t (whole k))) → InPlay shape chain over tau line
  end_in_play k which a b h l line moved =
      let at : c.at <ʳ shifted tau k = lt_of_lt_of_le a (ge_of_same (shifted-add tau k)) in
      let to : shifted tau k <ʳ (end p).at = lt_of_le_of_lt (le_of_same (shifted-add tau k)) b in (
        has_time h l,
        inl (
          k,
          which,
          shape.function p.shape,
          inside (shifted tau k) (le_of_lt at) (le_of_lt to),
          record { a = c.at; b = (end p).at; above = at; below = to; on = on_gap },
          λ t. symᵉ (transᵉ (moved t) (value_same (shape.function p.shape) (same_sym (shifted-add t k)))),
        ),
      )

  -- the piece moved by the high offset is in play where the high end lies on its gap
  pub high_in_play : c.at <ʳ add tau (whole over.high) → add tau (whole over.high) <ʳ (end p).at
      → (line : Affine) → ((t : Rational) → value_at line t ≈ᵉ value_at (shape.function p.shape) (add t (whole over.high))) → InPlay shape chain over tau line
  high_in_play h k line moved = end_in_play over.high (inr refl) h k h (lt_of_le_of_lt low_high k) line moved

  -- the piece moved by the low offset is in play where the low end does
  pub low_in_play : c.at <ʳ add tau (whole over.low) → add tau (whole over.low) <ʳ (end p).at
      → (line : Affine) → ((t : Rational) → value_at line t ≈ᵉ value_at (shape.function p.shape) (add t (whole over.low))) → InPlay shape chain over tau line
  low_in_play h k line moved = end_in_play over.low (inl refl) h k (lt_of_lt_of_le h low_high) k line moved

  -- the constant with the piece's last value is in play where the window ends no earlier than the piece, and begins before its end
  pub last_held : IsBreakpoint (IsWorth shape chain) chain.from.at (stop chain).at (end p).at → c.at <ʳ add tau (whole over.high)
      → add tau (whole over.low) <ʳ (end p).at → (end p).at ≤ʳ add tau (whole over.high)
      → (line : Affine) → IsConstant line (value_at (shape.function p.shape) (end p).at) → IsHeldAt shape chain over (end p).at tau line
  last_held breaks h l k line constant = by_order is.order
    where
      by_order : Before c (end p) → IsHeldAt shape chain over (end p).at tau line
      by_order (inl g) = (
        has_time h l,
        inr (
          (end p).at,
          breaks,
          ((inside (end p).at (le_of_lt g) (le_refl (end p).at), (le_of_lt l, k)), le_refl (end p).at),
          value_at (shape.function p.shape) (end p).at,
          inl (
            lt_of_le_of_lt (le_of_at_most chain.from c is.begins) g,
            lt_of_le_of_lt (le_of_same (shifted-add tau over.low)) l,
            record { a = c.at; above = g; line = shape.function p.shape; on = on_gap; value = passes (shape.function p.shape) (end p).at },
          ),
          constant,
        ),
      )
      by_order (inr (s, x, y)) = (
        has_time h l,
        inl (
          (end p).at,
          breaks,
          (
            (
              inside (end p).at (le_of_same s) (le_refl (end p).at),
              (
                after_of_lt (low_place over.low over.low_in tau) (end p).at l,
                upto_of_lt (high_place over.high over.high_in tau) (end p).at (lt_of_le_of_lt (ge_of_same s) h),
              ),
            ),
            le_refl (end p).at,
          ),
          value_at (shape.function p.shape) (end p).at,
          is.worth (end p).at (after_time_same c c.at (end p).at s (here_after c x)) (here_upto (end p) y),
          constant,
        ),
      )

  -- the constant with its first value is in play where the window begins no later than it, and ends behind that
  pub first_held : IsBreakpoint (IsWorth shape chain) chain.from.at (stop chain).at c.at → c.at <ʳ add tau (whole over.high)
      → add tau (whole over.low) ≤ʳ c.at → add tau (whole over.low) <ʳ (end p).at
      → (line : Affine) → IsConstant line (value_at (shape.function p.shape) c.at) → IsHeldAt shape chain over c.at tau line
  first_held breaks h l k line constant = by_order is.order
    where
      by_order : Before c (end p) → IsHeldAt shape chain over c.at tau line
      by_order (inl g) = (
        has_time h k,
        inr (
          c.at,
          breaks,
          ((inside c.at (le_refl c.at) (le_of_lt g), (l, le_of_lt h)), le_refl c.at),
          value_at (shape.function p.shape) c.at,
          inr (
            lt_of_lt_of_le g (le_of_at_most (end p) (stop chain) is.ends),
            lt_of_lt_of_le h (ge_of_same (shifted-add tau over.high)),
            record { b = (end p).at; below = g; line = shape.function p.shape; on = on_gap; value = passes (shape.function p.shape) c.at },
          ),
          constant,
        ),
      )
      by_order (inr (s, x, y)) = (
        has_time h k,
        inl (
          c.at,
          breaks,
          (
            (
              inside c.at (le_refl c.at) (le_of_same s),
              (
                after_of_lt (low_place over.low over.low_in tau) c.at (lt_of_lt_of_le k (ge_of_same s)),
                upto_of_lt (high_place over.high over.high_in tau) c.at h,
              ),
            ),
            le_refl c.at,
          ),
          value_at (shape.function p.shape) c.at,
          is.worth c.at (here_after c x) (upto_time_same (end p) (end p).at c.at (same_sym s) (here_upto (end p) y)),
          constant,
        ),
      )

  -- a steady piece moved by the high offset is in play where it is seen
  pub steady_in_play : IsBreakpoint (IsWorth shape chain) chain.from.at (stop chain).at c.at → IsSteady (shape.function p.shape)
      → c.at <ʳ add tau (whole over.high) → add tau (whole over.low) <ʳ (end p).at
      → (line : Affine) → ((t : Rational) → value_at line t ≈ᵉ value_at (shape.function p.shape) (add t (whole over.high)))
      → InPlay shape chain over tau line
  steady_in_play breaks steady h l line moved = by_order (le_or_lt (add tau (whole over.low)) c.at)
    where
      by_order : (add tau (whole over.low) ≤ʳ c.at) ⊎ (c.at <ʳ add tau (whole over.low)) → InPlay shape chain over tau line
      by_order (inl k) = held_in_play shape chain over c.at tau line
          (first_held breaks h k l line (λ t. symᵉ (transᵉ (moved t) (steady (add t (whole over.high)) c.at))))
      by_order (inr k) = low_in_play k l line (λ t. transᵉ (moved t) (steady (add t (whole over.high)) (add t (whole over.low))))
