-- The best over a chain that has the input's values, as far as the window looks, is the best over the input.
use Rattle.std.proofs.Common.{◌⊎◌, inl, inr, ◌^◌, Bool, true, false}
use Rattle.rational.specs.Rational.{add, whole}
use Rattle.rational.specs.Time.{Rational, Precedes, shifted, ◌≈◌, ◌≤ʳ◌}
use Rattle.rational.specs.Extended.{Extended, minus_infinity, infinity}
use Rattle.rational.specs.Affine.{IsBounded}
use Rattle.rational.specs.Places.{Same}
use Rattle.rational.proofs.Bounds.{inf_bounded, sup_bounded}
use Rattle.rational.proofs.Order.{ge_of_same, le_of_lt, le_of_same, le_trans}
use Rattle.rational.proofs.Shift.{le_shift}
use Rattle.rational.proofs.TimeLemmas.{precedes_after, precedes_before, shifted-add}
use Rattle.rational.proofs.WindowLemmas.{inf_alike, sup_alike}
use Rattle.value_laws.specs.Kinds.{margin_shape}
use Rattle.value_laws.specs.declared.margin.Margin.{Margin}
use Rattle.pl_signal.specs.declared.joining.Side.{Side}
use Rattle.pl_signal.specs.declared.joining.Side.TheVariants.{Least, Greatest}
use Rattle.pieces.specs.Best.{IsBestOver}
use Rattle.pieces.specs.Chains.{Chain, IsWorth, stop}
use Rattle.pieces.specs.Windows.{BestOver, Sees}
use Rattle.pieces.specs.declared.reach.Way.{Way}
use Rattle.pieces.proofs.AheadOver.{after_of_precedes, precedes_of_after}
use Rattle.pieces.proofs.ChainLemmas.{worth_after, worth_upto}
use Rattle.pieces.proofs.Ends.{after_le, upto_le}
use Rattle.stl_syntax.specs.Trace.{start, stop as last_of}
use Rattle.online_robust.specs.Slides.{Course, IsWhole, after_time, high_at, input, reach_of}
use Rattle.online_robust.specs.Windows.{Holds, best_over}
use Rattle.online_robust.specs.declared.slide.Window.{Window}

-- a time of the window is seen between its offsets
pub sees_of_holds : (from to : Rational) (w : Window) (t u : Rational) → Holds from to w t u → Sees (reach_of w) t u
sees_of_holds from to w t u h = (
  after_of_precedes w.low_in (add t (whole w.low)) u (precedes_after w.low_in (add t (whole w.low)) (shifted t w.low) u (ge_of_same (shifted-add t w.low))
      h.begins),
  precedes_before w.high_in u (shifted t w.high) (add t (whole w.high)) h.ends (le_of_same (shifted-add t w.high)),
)

-- what comes before the high end comes no later than it
by_precedes : (b : Bool) (u c : Rational) → Precedes b u c → u ≤ʳ c
by_precedes true u c h = h
by_precedes false u c h = le_of_lt h

module _ (x : Course) (way : Way) (s : Chain Margin) (whole_is : IsWhole x way s) (t : Rational) (by : t ≤ʳ x.to) where
  -- the high end stands no later than at the time of the course
  high_by : add t (whole x.window.high) ≤ʳ high_at x
  high_by = le_trans (le_shift x.window.high by) (ge_of_same (shifted-add x.to x.window.high))

  -- a time that is seen, at which the chain is worth something, lies before the front
  before_front : (u : Rational) (v : Extended) → u ≤ʳ high_at x → IsWorth margin_shape s u v → u ≤ʳ x.front
  before_front u v seen w = by_end whole_is.ended
    where
      by_end : (high_at x ≤ʳ x.front) ⊎ (Same (stop s) (after_time (last_of x.trace)) × (last_of x.trace ≤ʳ x.front) × (x.to ≈ last_of x.trace)) → u ≤ʳ x.front
      by_end (inl told) = le_trans seen told
      by_end (inr (ends, all, at)) =
          le_trans (upto_le (stop s) u (worth_upto margin_shape s.from s.pieces u v whole_is.can.can.rising w)) (le_trans (le_of_same ends.0) all)

  in_front : (u : Rational) → u ≤ʳ high_at x → u ≤ʳ last_of x.trace → u ≤ʳ x.front
  in_front u seen last = by_end whole_is.ended
    where
      by_end : (high_at x ≤ʳ x.front) ⊎ (Same (stop s) (after_time (last_of x.trace)) × (last_of x.trace ≤ʳ x.front) × (x.to ≈ last_of x.trace)) → u ≤ʳ x.front
      by_end (inl told) = le_trans seen told
      by_end (inr (ends, all, at)) = le_trans last all

  -- what is seen of the chain is what the window holds of the input
  forth : (u : Rational) (v : Extended) → Sees (reach_of x.window) t u → IsWorth margin_shape s u v
      → Holds (start x.trace) (last_of x.trace) x.window t u × input x u v
  forth u v seen w =
      let h : u ≤ʳ high_at x = le_trans (by_precedes x.window.high_in u (add t (whole x.window.high)) seen.1) high_by in
      let k = before_front u v h w in (
        record {
          inside = record {
            above = le_trans (ge_of_same whole_is.begins.0) (after_le s.from u (worth_after margin_shape s.from s.pieces u v whole_is.can.can.rising w));
            below = le_trans k whole_is.by;
          };
          begins = precedes_after x.window.low_in (shifted t x.window.low) (add t (whole x.window.low)) u (le_of_same (shifted-add t x.window.low))
              (precedes_of_after x.window.low_in (add t (whole x.window.low)) u seen.0);
          ends = precedes_before x.window.high_in u (add t (whole x.window.high)) (shifted t x.window.high) seen.1
              (ge_of_same (shifted-add t x.window.high));
        },
        whole_is.forth u v k w,
      )

  back : (u : Rational) (v : Extended) → Holds (start x.trace) (last_of x.trace) x.window t u → input x u v
      → Sees (reach_of x.window) t u × IsWorth margin_shape s u v
  back u v holds p =
      let seen = sees_of_holds (start x.trace) (last_of x.trace) x.window t u holds in
      let h : u ≤ʳ high_at x = le_trans (by_precedes x.window.high_in u (add t (whole x.window.high)) seen.1) high_by in
      (seen, whole_is.back u v holds.inside.above (in_front u h holds.inside.below) p)

  -- the best of the one is that of the other
  pub best_seen : (r : Extended) → BestOver margin_shape s (reach_of x.window) x.window.side t r → best_over x.trace (input x) x.window t r
  best_seen r h = by_side x.window.side h
    where
      by_side : (side : Side) → IsBestOver side minus_infinity infinity (Sees (reach_of x.window) t) (IsWorth margin_shape s) r
          → IsBestOver side minus_infinity infinity (Holds (start x.trace) (last_of x.trace) x.window t) (input x) r
      by_side Greatest h = sup_alike minus_infinity r
          (λ v p. let k = forth p.0 v p.1 p.2 in (p.0, k.0, k.1)) (λ v p. let k = back p.0 v p.1 p.2 in (p.0, k.0, k.1)) h
      by_side Least h = inf_alike infinity r
          (λ v p. let k = forth p.0 v p.1 p.2 in (p.0, k.0, k.1)) (λ v p. let k = back p.0 v p.1 p.2 in (p.0, k.0, k.1)) h

  -- and is bounded
  pub best_bounded : (r : Extended) → BestOver margin_shape s (reach_of x.window) x.window.side t r → IsBounded (2 ^ 31) r
  best_bounded r h = by_side x.window.side h
    where
      by_side : (side : Side) → IsBestOver side minus_infinity infinity (Sees (reach_of x.window) t) (IsWorth margin_shape s) r → IsBounded (2 ^ 31) r
      by_side Greatest h = sup_bounded (2 ^ 31) (λ v. (u : Rational) × Sees (reach_of x.window) t u × IsWorth margin_shape s u v) minus_infinity r tt
          (λ v p. whole_is.can.can.limited.values p.0 v p.2) h
      by_side Least h = inf_bounded (2 ^ 31) infinity (λ v. (u : Rational) × Sees (reach_of x.window) t u × IsWorth margin_shape s u v) r h tt
          (λ v p. whole_is.can.can.limited.values p.0 v p.2)
