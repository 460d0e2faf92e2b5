-- What a window refuses over a chain that has its input's values is refused over the input.
use Rattle.std.proofs.Common.{◌≡◌, ◌⊎◌, inl, inr, ℤ, sym, subst}
use Rattle.std.specs.Prelude.{◌≤ℤ◌}
use Rattle.rational.specs.Time.{Rational, Within, shifted, ◌≈◌, ◌≤ʳ◌, ◌<ʳ◌}
use Rattle.rational.specs.Extended.{Affine, Extended}
use Rattle.rational.specs.InPlay.{IsLeftLimit, IsRightLimit}
use Rattle.rational.specs.Places.{Same}
use Rattle.rational.specs.Windows.{Function}
use Rattle.rational.proofs.Order.{ge_of_same, le_of_same, le_refl, le_trans, lt_of_le_of_lt, lt_of_lt_of_le}
use Rattle.rational.proofs.Shift.{le_shift_by, lt_shift}
use Rattle.rational.proofs.TimeLemmas.{shifted-add}
use Rattle.value_laws.specs.Kinds.{margin_shape}
use Rattle.value_laws.specs.Margins.{margin_function}
use Rattle.value_laws.specs.declared.margin.Margin.{Margin}
use Rattle.pl_signal.specs.declared.faults.WidePair.{WidePair}
use Rattle.pl_signal.specs.declared.faults.WidePair.TheVariants.{Cross, Value}
use Rattle.pieces.specs.Chains.{Chain, IsWorth, stop}
use Rattle.pieces.specs.Over.{InPlayOver as InPlaySeen, SeesIn, with_ends}
use Rattle.pieces.specs.Streaming.{IsCauseBelow, IsHeldCause, IsHeldWithin}
use Rattle.pieces.specs.declared.reach.Reach.{Reach}
use Rattle.pieces.specs.declared.reach.Way.{Way}
use Rattle.pieces.proofs.ChainLemmas.{worth_after, worth_upto}
use Rattle.pieces.proofs.Ends.{after_le, upto_le}
use Rattle.stl_syntax.specs.Trace.{start, stop as last_of}
use Rattle.online_robust.specs.Slides.{Course, IsInPlayFor, IsRefused, IsWhole, after_time, high_at, input, reach_of}
use Rattle.online_robust.specs.Windows.{SettledOver, closed}
use Rattle.online_robust.proofs.SlidePlays.{PlaysOn, holds_of_sees, in_play_seen, plays_before, plays_in}

-- what is seen with both ends is not seen behind the high one
pub seen_by_high : (from to : Rational) (over : Reach) (t u : Rational) → SeesIn from to (with_ends over) t u → u ≤ʳ shifted t over.high
seen_by_high from to over t u h = le_trans h.1.1 (ge_of_same (shifted-add t over.high))

module _ (x : Course) (way : Way) (s : Chain Margin) (whole_is : IsWhole x way s) (last : x.to ≤ʳ last_of x.trace)
    (order : x.window.low ≤ℤ x.window.high) where
  abbrev F : Function
  F = IsWorth margin_shape s

  inside : (t : Rational) (v : Extended) → IsWorth margin_shape s t v → s.from.at ≤ʳ t
  inside t v w = after_le s.from t (worth_after margin_shape s.from s.pieces t v whole_is.can.can.rising w)

  upto : (t : Rational) (v : Extended) → IsWorth margin_shape s t v → t ≤ʳ (stop s).at
  upto t v w = upto_le (stop s) t (worth_upto margin_shape s.from s.pieces t v whole_is.can.can.rising w)

  begins : s.from.at ≈ start x.trace
  begins = whole_is.begins.0

  back : (t : Rational) (v : Extended) → s.from.at ≤ʳ t → t ≤ʳ x.front → input x t v → IsWorth margin_shape s t v
  back t v h k p = whole_is.back t v (le_trans (ge_of_same begins) h) k p

  -- about a time before the front the chain is the input
  about : (u : Rational) → s.from.at ≤ʳ u → u <ʳ x.front → PlaysOn F (input x) s.from.at (stop s).at (start x.trace) (last_of x.trace) u
  about u above lt = plays_before F (input x) s.from.at (stop s).at (start x.trace) (last_of x.trace) x.front inside whole_is.forth back begins
      whole_is.far whole_is.by u above lt

  -- where the chain ends with the trace it is the input throughout
  throughout : Same (stop s) (after_time (last_of x.trace)) → last_of x.trace ≤ʳ x.front → (u : Rational) → Within s.from.at (stop s).at u
      → PlaysOn F (input x) s.from.at (stop s).at (start x.trace) (last_of x.trace) u
  throughout ends all u w = plays_in F (input x) s.from.at (stop s).at (start x.trace) (last_of x.trace) (record {
    inside = λ t v h. record { above = inside t v h; below = upto t v h };
    forth = λ t v h. whole_is.forth t v (le_trans (le_trans (upto t v h) (le_of_same ends.0)) all) h;
    back = λ t v i p. back t v i.above (le_trans (le_trans i.below (le_of_same ends.0)) all) p;
  }) begins ends.0 u w

  -- ---- before the time

  module _ (tau : Rational) (before : tau <ʳ x.to) where
    high_before : shifted tau x.window.high <ʳ high_at x
    high_before = lt_of_le_of_lt (le_of_same (shifted-add tau x.window.high))
        (lt_of_lt_of_le (lt_shift x.window.high before) (ge_of_same (shifted-add x.to x.window.high)))

    seen : (u : Rational) → Within s.from.at (stop s).at u → u ≤ʳ shifted tau x.window.high
        → PlaysOn F (input x) s.from.at (stop s).at (start x.trace) (last_of x.trace) u
    seen u w by = by_end whole_is.ended
      where
        by_end : (high_at x ≤ʳ x.front) ⊎ (Same (stop s) (after_time (last_of x.trace)) × (last_of x.trace ≤ʳ x.front) × (x.to ≈ last_of x.trace))
            → PlaysOn F (input x) s.from.at (stop s).at (start x.trace) (last_of x.trace) u
        by_end (inl told) = about u w.above (lt_of_lt_of_le (lt_of_le_of_lt by high_before) told)
        by_end (inr (ends, all, at)) = throughout ends all u w

    -- what is in play over the chain is in play over the input
    pub in_play : (line : Affine) → InPlaySeen F s.from.at (stop s).at (reach_of x.window) tau line → IsInPlayFor x tau line
    in_play line h = (
      in_play_seen F (input x) s.from.at (stop s).at (start x.trace) (last_of x.trace) x.window tau line
          (λ u k. seen u k.0 (seen_by_high s.from.at (stop s).at (reach_of x.window) tau u k))
          (λ k is within. seen (shifted tau k) within (by_high k is)) h,
      before,
    )
      where
        by_high : (k : ℤ) → (k ≡ x.window.low) ⊎ (k ≡ x.window.high) → shifted tau k ≤ʳ shifted tau x.window.high
        by_high k (inl e) = subst (λ j. shifted tau j ≤ʳ shifted tau x.window.high) (sym e) (le_trans (le_of_same (shifted-add tau x.window.low))
            (le_trans (le_shift_by {j = x.window.low} {k = x.window.high} tau order) (ge_of_same (shifted-add tau x.window.high))))
        by_high k (inr e) = subst (λ j. shifted tau j ≤ʳ shifted tau x.window.high) (sym e) (le_refl (shifted tau x.window.high))

  -- a cause before the time
  pub cause_below : (pair : WidePair Margin) → IsCauseBelow margin_shape s (reach_of x.window) x.to pair → IsRefused x pair
  cause_below (Cross p q a b den) c = record {
    tau = c.tau;
    after_start = lt_of_le_of_lt (ge_of_same begins) c.after_start;
    before_stop = lt_of_lt_of_le c.first.1 last;
    above = c.above;
    below = c.below;
    first = in_play c.tau c.first.1 (margin_function p) c.first.0;
    second = in_play c.tau c.second.1 (margin_function q) c.second.0;
    meet = c.meet;
    alone = c.alone;
    denominator = c.denominator;
    wide = c.wide;
  }
  cause_below (Value p at den) c = inl (record {
    tau = c.tau;
    after_start = lt_of_le_of_lt (ge_of_same begins) c.after_start;
    before_stop = lt_of_lt_of_le c.in_play.1 last;
    value = c.value;
    is_value = c.is_value;
    line = c.line;
    constant = c.constant;
    in_play = in_play c.tau c.in_play.1 c.line c.in_play.0;
    denominator = c.denominator;
    wide = c.wide;
  })

  -- a constant that is held where nothing was told yet
  pub cause_held : (pair : WidePair Margin) (by : Rational) → by <ʳ x.front → x.to ≈ start x.trace → (stop s).at ≤ʳ last_of x.trace
      → IsHeldCause margin_shape s (reach_of x.window) by pair → IsRefused x pair
  cause_held (Cross p q a b den) by lt first ends c = absurd c
  cause_held (Value p at den) by lt first ends c = inr (
    first,
    record {
      tau = c.tau;
      after_start = lt_of_le_of_lt (ge_of_same begins) c.after_start;
      before_stop = lt_of_lt_of_le c.before_stop ends;
      value = c.value;
      is_value = c.is_value;
      line = c.line;
      constant = c.constant;
      in_play = settled c.in_play;
      denominator = c.denominator;
      wide = c.wide;
    },
  )
    where
      tau : Rational
      tau = c.tau

      there : (u : Rational) → Within s.from.at (stop s).at u → u ≤ʳ by → PlaysOn F (input x) s.from.at (stop s).at (start x.trace) (last_of x.trace) u
      there u w h = about u w.above (lt_of_le_of_lt h lt)

      settled : IsHeldWithin margin_shape s (reach_of x.window) by c.tau c.line
          → SettledOver (input x) (start x.trace) (last_of x.trace) x.front x.window c.tau c.line
      settled (inl (u, at, (seen, h), v, is, constant)) =
          let p = there u seen.0 h in
          inl (
            u,
            p.breakpoint at,
            (holds_of_sees s.from.at (stop s).at (start x.trace) (last_of x.trace) x.window c.tau u p.within seen, lt_of_le_of_lt h lt),
            v,
            p.worth v is,
            constant,
          )
      settled (inr (u, at, (seen, h), v, side, constant)) =
          let p = there u seen.0 h in
          inr (
            u,
            p.breakpoint at,
            (holds_of_sees s.from.at (stop s).at (start x.trace) (last_of x.trace) (closed x.window) c.tau u p.within seen, lt_of_le_of_lt h lt),
            v,
            by_side u p side,
            constant,
          )
        where
          by_side : (u : Rational) → PlaysOn F (input x) s.from.at (stop s).at (start x.trace) (last_of x.trace) u → {v : Extended}
              → ((s.from.at <ʳ u) × (shifted c.tau x.window.low <ʳ u) × IsLeftLimit F u v)
              ⊎ ((u <ʳ (stop s).at) × (u <ʳ shifted c.tau x.window.high) × IsRightLimit F u v)
              → ((start x.trace <ʳ u) × (shifted c.tau x.window.low <ʳ u) × IsLeftLimit (input x) u v)
              ⊎ ((u <ʳ last_of x.trace) × (u <ʳ shifted c.tau x.window.high) × IsRightLimit (input x) u v)
          by_side u p {v} (inl (after, goes, limit)) = let l = p.left v after limit in inl (l.0, goes, l.1)
          by_side u p {v} (inr (before, goes, limit)) = let r = p.right v before limit in inr (r.0, goes, r.1)
