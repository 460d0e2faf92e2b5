-- What a window refuses while it meets a piece, or tells, is refused for its course.
use Rattle.std.proofs.Common.{◌≡◌, ◌⊎◌, inl, inr, sym, subst, Option, Some, None, pos, ◌<ℤ◌}
use Rattle.std.specs.Prelude.{IfSome, ◌≤ℤ◌}
use Rattle.rational.specs.Time.{Rational, ◌≈◌, ◌≤ʳ◌, ◌<ʳ◌}
use Rattle.rational.specs.Places.{Place, AtMost, Same}
use Rattle.rational.proofs.Order.{ge_of_same, le_of_lt, le_of_same, le_or_lt, le_trans, lt_of_lt_of_le, lt_or_same_or_gt}
use Rattle.rational.proofs.Order.{not_lt_of_le, same_sym, same_trans}
use Rattle.rational.proofs.PlaceLemmas.{le_of_at_most}
use Rattle.rational.proofs.TimeLemmas.{behind_le}
use Rattle.value_laws.specs.Kinds.{margin_shape}
use Rattle.value_laws.specs.declared.margin.Margin.{Margin}
use Rattle.pl_signal.specs.declared.faults.WidePair.{WidePair}
use Rattle.pieces.specs.declared.reach.Way.{Way}
use Rattle.pieces.specs.Chains.{Chain, stop}
use Rattle.pieces.specs.Streaming.{IsCauseBelow, IsHeldCause}
use Rattle.stl_syntax.specs.Trace.{start, stop as last_of}
use Rattle.online_robust.specs.Slides.{Course, IsRefused, IsWhole, after_time, high_at, reach_of}
use Rattle.online_robust.proofs.SlideAll.{sign}
use Rattle.online_robust.proofs.SlideCauses.{cause_below, cause_held}

-- what holds of a fault by one thing holds of it by another
pub some_weaker : {X : Type 0} (o : Option X) (A B : X → Type 0) → ((p : X) → A p → B p) → IfSome o A → IfSome o B
some_weaker None A B into h = tt
some_weaker (Some p) A B into h = into p h

pub some_of_none : {X : Type 0} (o : Option X) (A : X → Type 0) → o ≡ None → IfSome o A
some_of_none o A e = subst (λ q. IfSome q A) (sym e) tt

module _ (x : Course) (way : Way) (s : Chain Margin) (whole_is : IsWhole x way s) (over : way.over ≡ reach_of x.window)
    (started : start x.trace ≤ʳ x.to) (last : x.to ≤ʳ last_of x.trace) (order : x.window.low ≤ℤ x.window.high) (fault : Option (WidePair Margin)) where
  below : IfSome fault (IsCauseBelow margin_shape s way.over x.to) → IfSome fault (IsRefused x)
  below h = some_weaker fault (IsCauseBelow margin_shape s (reach_of x.window) x.to) (IsRefused x) (cause_below x way s whole_is last order)
      (subst (λ o. IfSome fault (IsCauseBelow margin_shape s o x.to)) over h)

  held : (by : Rational) → by <ʳ x.front → x.to ≈ start x.trace → (stop s).at ≤ʳ last_of x.trace
      → IfSome fault (IsHeldCause margin_shape s way.over by) → IfSome fault (IsRefused x)
  held by lt first ends h = some_weaker fault (IsHeldCause margin_shape s (reach_of x.window) by) (IsRefused x)
      (λ p c. cause_held x way s whole_is last order p by lt first ends c) (subst (λ o. IfSome fault (IsHeldCause margin_shape s o by)) over h)

  -- while it meets a piece that counts before the time, from the place met
  pub meet_refused : (met : Place) → AtMost s.from met → met.at <ʳ high_at x
      → (s.from.at <ʳ x.to → IfSome fault (IsCauseBelow margin_shape s way.over x.to))
      → (x.to ≈ start x.trace → s.from.at <ʳ (stop s).at → IfSome fault (IsHeldCause margin_shape s way.over met.at))
      → ((stop s).at ≤ʳ s.from.at → fault ≡ None) → IfSome fault (IsRefused x)
  meet_refused met from lt wide first one = by_time (lt_or_same_or_gt s.from.at x.to)
    where
      begins : s.from.at ≈ start x.trace
      begins = whole_is.begins.0

      by_end : x.to ≈ start x.trace → (s.from.at <ʳ (stop s).at) ⊎ (s.from.at ≈ (stop s).at) ⊎ ((stop s).at <ʳ s.from.at) → IfSome fault (IsRefused x)
      by_end at (inr (inl same)) = some_of_none fault (IsRefused x) (one (ge_of_same same))
      by_end at (inr (inr gt)) = some_of_none fault (IsRefused x) (one (le_of_lt gt))
      by_end at (inl some) = held met.at by_front at (whole_is.ahead ahead) (first at some)
        where
          ahead : pos 0 <ℤ x.window.high
          ahead = by_sign (sign x.window.high)
            where
              by_sign : (pos 0 <ℤ x.window.high) ⊎ (x.window.high ≤ℤ pos 0) → pos 0 <ℤ x.window.high
              by_sign (inl h) = h
              by_sign (inr h) = absurd (not_lt_of_le (le_trans (behind_le x.to x.window.high h)
                  (le_trans (le_of_same at) (le_trans (ge_of_same begins) (le_of_at_most s.from met from)))) lt)

          by_front : met.at <ʳ x.front
          by_front = by_ended whole_is.ended
            where
              by_ended : (high_at x ≤ʳ x.front)
                  ⊎ (Same (stop s) (after_time (last_of x.trace)) × (last_of x.trace ≤ʳ x.front) × (x.to ≈ last_of x.trace))
                  → met.at <ʳ x.front
              by_ended (inl told) = lt_of_lt_of_le lt told
              by_ended (inr (ends, all, end)) = absurd (not_lt_of_le (le_trans (le_of_same ends.0) (le_trans (ge_of_same end)
                  (le_trans (le_of_same at) (ge_of_same begins)))) some)

      by_time : (s.from.at <ʳ x.to) ⊎ (s.from.at ≈ x.to) ⊎ (x.to <ʳ s.from.at) → IfSome fault (IsRefused x)
      by_time (inl later) = below (wide later)
      by_time (inr (inl same)) = by_end (same_trans (same_sym same) begins) (lt_or_same_or_gt s.from.at (stop s).at)
      by_time (inr (inr gt)) = absurd (not_lt_of_le (le_trans (le_of_same begins) started) gt)

  -- while it tells up to the time
  pub tell_refused : (s.from.at <ʳ x.to → IfSome fault (IsCauseBelow margin_shape s way.over x.to)) → (x.to ≤ʳ s.from.at → fault ≡ None)
      → IfSome fault (IsRefused x)
  tell_refused wide early = by_time (le_or_lt x.to s.from.at)
    where
      by_time : (x.to ≤ʳ s.from.at) ⊎ (s.from.at <ʳ x.to) → IfSome fault (IsRefused x)
      by_time (inl h) = some_of_none fault (IsRefused x) (early h)
      by_time (inr h) = below (wide h)
