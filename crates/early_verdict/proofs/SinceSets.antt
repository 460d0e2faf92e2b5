-- Since by the sets between: where it holds and where it fails.
use Rattle.std.proofs.Common.{◌⊎◌, inl, inr, ℕ, ◌+◌, ◌*◌, true, arith}
use Rattle.std.specs.Prelude.{Option, Some, None, IfSome}
use Rattle.rational.specs.Time.{Rational, Within, later, ◌≤ʳ◌}
use Rattle.rational.proofs.Order.{le_refl, le_trans, le_of_lt, le_or_lt}
use Rattle.rational.proofs.TimeLemmas.{le_by_later, later_zero, still_begins}
use Rattle.stl_syntax.specs.Trace.{Trace, start}
use Rattle.stl_syntax.specs.Early.{OpenBehind}
use Rattle.rational.specs.Places.{Place, After}
use Rattle.rational.proofs.PlaceLemmas.{after_later}
use Rattle.frac128.specs.Cuts.{place}
use Rattle.growing_sets.specs.Spans.{Lies, IsOn, AreTidy}
use Rattle.growing_sets.specs.Reaching.{GoesBackBy, IsCarried}
use Rattle.early_verdict.specs.Readings.{OnlyBehind, SomeBehind, SinceHolds, SinceFails}
use Rattle.early_verdict.specs.Fitting.{Lists, SinceHolding, SinceFailing}
use Rattle.early_verdict.specs.declared.sets.Holding.{Holding}
use Rattle.early_verdict.specs.declared.sets.Failing.{Failing}
use Rattle.growing_sets.proofs.Failures.{at_time, all_or_broken_back}

-- t less a
abbrev pub less_by : Rational → ℕ → Rational
less_by t a = record { up = t.up; down = t.down + a * t.den; den = t.den; positive = t.positive }

-- what is at most t after a wait is at most t less the wait
pub before_end : (t u : Rational) (a : ℕ) → later u a ≤ʳ t → u ≤ʳ less_by t a
before_end t u a h = record { le = omega (arith, h.le) }

-- and back
pub to_end : (t u : Rational) (a : ℕ) → u ≤ʳ less_by t a → later u a ≤ʳ t
to_end t u a h = record { le = omega (arith, h.le) }

-- t less a wait is at most t
pub end_past : (t : Rational) (a : ℕ) → less_by t a ≤ʳ t
end_past t a = record { le = omega arith }

-- what is no earlier than t less a wait is, after it, no earlier than t
pub past_end : (t u : Rational) (a : ℕ) → less_by t a ≤ʳ u → t ≤ʳ later u a
past_end t u a h = record { le = omega (arith, h.le) }

-- and back
pub from_end : (t u : Rational) (a : ℕ) → t ≤ʳ later u a → less_by t a ≤ʳ u
from_end t u a h = record { le = omega (arith, h.le) }

-- a time that is no later after a wait is no later
pub none_later : (u t : Rational) (a : ℕ) → later u a ≤ʳ t → u ≤ʳ t
none_later u t a h = record { le = omega (arith, h.le) }

-- v is on the way back to the window
pub back_way : (from t v : Rational) (a : ℕ) → from ≤ʳ v → t ≤ʳ later v a → v ≤ʳ t → OpenBehind from 0 (Some a) true true t v
back_way from t v a f h k = record { after = f; begins = h; ends = le_trans (later_zero v) k }

-- from a time of the window on up to now
pub along : (from : Rational) (a : ℕ) (b : Option ℕ) (t u v : Rational) → OpenBehind from a b true true t u → u ≤ʳ v → v ≤ʳ t
    → OpenBehind from 0 b true true t v
along from a b t u v o k l = record { after = le_trans o.after k; begins = still_begins b t u v k o.begins; ends = le_trans (later_zero v) l }

-- where the window begins
pub window_begin : (from t : Rational) (b : Option ℕ) → (c : Place) × ((u : Rational) → After c u → (from ≤ʳ u) × IfSome b (λ b. t ≤ʳ later u b))
    × ((u : Rational) → from ≤ʳ u → IfSome b (λ b. t ≤ʳ later u b) → After c u)
window_begin from t None = (at_time from, λ u h. (h, tt), λ u h k. h)
window_begin from t (Some b) = elim (le_or_lt from (less_by t b)) [
  | inl l ↦ (at_time (less_by t b), λ u h. (le_trans l h, past_end t u b h), λ u h k. from_end t u b k)
  | inr l ↦ (at_time from, λ u h. (h, past_end t u b (le_trans (le_of_lt l) h)), λ u h k. h)
]

-- at one time, where since holds
module _ (tr : Trace) (a : ℕ) (b : Option ℕ) (p q : Lists) (x : Holding) (h : SinceHolding tr a b p q x) (t : Rational) where
  -- where a run goes back from a time the left operand is there
  last : (v : Rational) → GoesBackBy x.carried (place x.run.bounds.from) p.yes x.both.spans.items v → IsOn p.yes v
  last v (inl (w, l, i, z)) = z v (record { above = l; below = le_refl v })
  last v (inr k) = k.all v k.after (le_refl v)

  -- where each time of the way back is one of the runs, since holds, if it does once the left operand is there from that time of its window on
  pub held_from : (w : Rational) → OpenBehind (start tr) a b true true t w → Lies x.run.bounds w
      → (((v : Rational) → Within w t v → IsOn p.yes v) → SinceHolds tr a b (IsOn p.yes) (IsOn q.yes) t)
      → OnlyBehind tr 0 (Some a) true true (IsOn x.run.spans.items) t → SinceHolds tr a b (IsOn p.yes) (IsOn q.yes) t
  held_from w o lies there runs = by_run (run e (le_trans o.after (before_end t w a o.ends)) (le_refl e) (end_past t a))
    where
      e : Rational
      e = less_by t a

      run : (v : Rational) → start tr ≤ʳ v → e ≤ʳ v → v ≤ʳ t → GoesBackBy x.carried (place x.run.bounds.from) p.yes x.both.spans.items v
      run v f k l = (h.run.only v (runs v (back_way (start tr) t v a f (past_end t v a k) l))).1

      -- all along from a time, where it is so up to the window's end
      all_along : (f : Rational) → start tr ≤ʳ f → ((v : Rational) → f ≤ʳ v → v ≤ʳ e → IsOn p.yes v) → (v : Rational) → Within f t v → IsOn p.yes v
      all_along f s z v l = elim (le_or_lt v e) [
        | inl m ↦ z v l.above m
        | inr m ↦ last v (run v (le_trans s l.above) (le_of_lt m) l.below)
      ]

      by_run : GoesBackBy x.carried (place x.run.bounds.from) p.yes x.both.spans.items e → SinceHolds tr a b (IsOn p.yes) (IsOn q.yes) t
      by_run (inr k) = there (all_along w o.after (λ v m l. k.all v (after_later (place x.run.bounds.from) w v m lies.0) l))
      by_run (inl (r, l, j, z)) = elim (le_or_lt w r) [
        | inl k ↦
            let f = le_trans o.after k in (
              r,
              record { after = f; begins = still_begins b t w r k o.begins; ends = to_end t r a l },
              (f, inr (le_trans l (end_past t a))),
              (h.both.only r j).1.1,
              all_along r f (λ v m n. z v (record { above = m; below = n })),
            )
        | inr k ↦ there (all_along w o.after (λ v m n. z v (record { above = le_trans (le_of_lt k) m; below = n })))
      ]

  -- where the left operand is there from a time of both on, each time of the way back is one of the runs
  pub run_from : (u : Rational) → later u a ≤ʳ t → IsOn x.both.spans.items u → ((v : Rational) → Within u t v → IsOn p.yes v)
      → (v : Rational) → OpenBehind (start tr) 0 (Some a) true true t v → Lies x.run.bounds v → IsOn x.run.spans.items v
  run_from u ends both z v i l =
      let vt = none_later v t 0 i.ends in
      h.run.has v l (inl (u, le_by_later t u v a ends i.begins, both, λ m n. z m (record { above = n.above; below = le_trans n.below vt })))

  module _ (own : Lies x.some.bounds t × Lies x.each.bounds t)
      (wide : (u : Rational) → OpenBehind (start tr) 0 b true true t u → Lies x.both.bounds u × Lies x.run.bounds u) where
    -- where since holds its sets have the time
    pub some_each : SinceHolds tr a b (IsOn p.yes) (IsOn q.yes) t → IsOn x.some.spans.items t × IsOn x.each.spans.items t
    some_each (u, o, c, y, z) =
        let ut = none_later u t a o.ends in
        let both = h.both.has u ((wide u (along (start tr) a b t u u o (le_refl u) ut)).0) (z u (record { above = le_refl u; below = ut }), y) in (
          h.some.has t own.0 (u, o, c, y),
          h.each.has t own.1 (λ v w.
              run_from u o.ends both z v w
              (wide v (along (start tr) a b t u v o (le_by_later t u v a o.ends w.begins) (none_later v t 0 w.ends))).1),
        )

    -- since, where it is certainly true
    pub since_true_at : IsOn x.some.spans.items t × IsOn x.each.spans.items t → SinceHolds tr a b (IsOn p.yes) (IsOn q.yes) t
    since_true_at k = by_some (h.some.only t k.0).1
      where
        by_some : SomeBehind tr a b true true (IsOn q.yes) t → SinceHolds tr a b (IsOn p.yes) (IsOn q.yes) t
        by_some (u, o, c, y) = held_from u o (wide u (along (start tr) a b t u u o (le_refl u) (none_later u t a o.ends))).1 (λ all. (u, o, c, y, all))
            (h.each.only t k.1).1

-- at one time, where it fails
module _ (tr : Trace) (a : ℕ) (b : Option ℕ) (p q : Lists) (x : Failing) (h : SinceFailing tr a b p q x) (tidy_q : AreTidy q.no)
    (tidy_fail : AreTidy x.fail.spans.items) (t : Rational) (own : Lies x.never.bounds t × Lies x.broken.bounds t) where
  -- at a time of the window the right operand is false, or the left one at some time from there on
  abbrev pub FailsAt : Rational → Type 0
  FailsAt u = IsOn q.no u ⊎ ((v : Rational) × Within u t v × IsOn p.no v)

  -- a failure there is one of either
  pub of_fail : (u : Rational) → u ≤ʳ t → IsOn x.fail.spans.items u → FailsAt u
  of_fail u ut f = elim ((h.fail.only u f).1) [ inl m ↦ inr (u, record { above = le_refl u; below = ut }, m) | inr m ↦ inl m ]

  -- where one of the failing sets has the time since fails there, if it does where failures are carried on
  pub fails_by : ((u v : Rational) → OpenBehind (start tr) a b true true t u → u ≤ʳ v → v ≤ʳ t → less_by t a ≤ʳ v
      → IsCarried x.carried (place x.stop.bounds.from) x.fail.spans.items v → FailsAt u)
      → IsOn x.never.spans.items t ⊎ IsOn x.broken.spans.items t → SinceFails tr a b (IsOn p.no) (IsOn q.no) t
  fails_by carried (inl n) u o = inl ((h.never.only t n).1 u o)
  fails_by carried (inr n) u o = by_run ((h.broken.only t n).1)
    where
      by_run : SomeBehind tr 0 (Some a) true true (IsOn x.stop.spans.items) t → FailsAt u
      by_run (v, i, c, s) = by_stop (h.stop.only v s).1
        where
          vt : v ≤ʳ t
          vt = none_later v t 0 i.ends

          uv : u ≤ʳ v
          uv = le_by_later t u v a o.ends i.begins

          by_stop : GoesBackBy x.carried (place x.stop.bounds.from) x.fail.spans.items p.no v → FailsAt u
          by_stop (inl (w, l, y, z)) = elim (le_or_lt u w) [
            | inl k ↦ inr (w, record { above = k; below = le_trans l vt }, y)
            | inr k ↦ of_fail u (le_trans uv vt) (z u (record { above = le_of_lt k; below = uv }))
          ]
          by_stop (inr k) = carried u v o uv vt (from_end t v a i.begins) k

  -- where since fails one of its failing sets has the time, if it has where the right operand is false from the place on up to the window's end
  pub failed_by : (c : Place) → ((u : Rational) → After c u → u ≤ʳ less_by t a → OpenBehind (start tr) a b true true t u)
      → ((u : Rational) → After c u → start tr ≤ʳ u) → ((u : Rational) → After c u → u ≤ʳ t → Lies x.fail.bounds u × Lies x.stop.bounds u)
      → (((u : Rational) → After c u → u ≤ʳ less_by t a → IsOn q.no u) → IsOn x.never.spans.items t ⊎ IsOn x.broken.spans.items t)
      → SinceFails tr a b (IsOn p.no) (IsOn q.no) t → IsOn x.never.spans.items t ⊎ IsOn x.broken.spans.items t
  failed_by c window begun wide all f = elim (all_or_broken_back q.no p.no x.fail.spans.items tidy_q tidy_fail c t (less_by t a) (end_past t a)
      (λ u k l m. h.fail.has u (wide u k l).0 m) (λ u k l. f u (window u k l))) [
        | inl m ↦ all m
        | inr (v, w, k, g) ↦ inr (h.broken.has t own.1 (
          v,
          back_way (start tr) t v a (begun v k) (past_end t v a w.above) w.below,
          (begun v k, inr w.below),
          h.stop.has v (wide v k w.below).1 (inl g),
        ))
      ]

  module _ (wide : (u : Rational) → OpenBehind (start tr) 0 b true true t u → Lies x.fail.bounds u × Lies x.stop.bounds u) where
    -- where one of the failing sets has the time, since fails there
    pub since_false_at : IsOn x.never.spans.items t ⊎ IsOn x.broken.spans.items t → SinceFails tr a b (IsOn p.no) (IsOn q.no) t
    since_false_at = fails_by (λ u v o uv vt ev k.
        let w = wide u (along (start tr) a b t u u o (le_refl u) (le_trans uv vt)) in
        of_fail u (le_trans uv vt) (k.all u w.1.0 uv))

    -- where since fails one of its failing sets has the time
    pub never_broken : SinceFails tr a b (IsOn p.no) (IsOn q.no) t → IsOn x.never.spans.items t ⊎ IsOn x.broken.spans.items t
    never_broken =
        let c = window_begin (start tr) t b in
        failed_by c.0 (λ u k l. record { after = (c.1 u k).0; begins = (c.1 u k).1; ends = to_end t u a l }) (λ u k. (c.1 u k).0)
        (λ u k l. wide u (record { after = (c.1 u k).0; begins = (c.1 u k).1; ends = le_trans (later_zero u) l }))
        (λ all. inl (h.never.has t own.0 (λ u o. all u (c.2 u o.after o.begins) (before_end t u a o.ends))))
