-- Since by the sets between, at one time, from a time of its window on at which both operands hold or the left one fails.
use Rattle.std.proofs.Common.{◌⊎◌, inl, inr, ℕ, true}
use Rattle.std.specs.Prelude.{Option, Some}
use Rattle.rational.specs.Time.{Rational, Within, ◌≤ʳ◌}
use Rattle.rational.proofs.Order.{le_refl, le_trans, le_of_lt, le_or_lt}
use Rattle.rational.proofs.TimeLemmas.{still_begins}
use Rattle.stl_syntax.specs.Trace.{Trace, start}
use Rattle.stl_syntax.specs.Early.{OpenBehind}
use Rattle.frac128.specs.Cuts.{place}
use Rattle.growing_sets.specs.Spans.{AreTidy, IsOn, Lies}
use Rattle.growing_sets.specs.Reaching.{IsCarried}
use Rattle.early_verdict.specs.Readings.{OnlyBehind, SinceHolds, SinceFails}
use Rattle.early_verdict.specs.Fitting.{Lists, SinceHolding, SinceFailing}
use Rattle.early_verdict.specs.declared.sets.Holding.{Holding}
use Rattle.early_verdict.specs.declared.sets.Failing.{Failing}
use Rattle.growing_sets.proofs.Failures.{at_time}
use Rattle.early_verdict.proofs.SinceSets.{back_way, before_end, end_past, fails_by, failed_by, from_end, held_from, less_by, none_later, of_fail}
use Rattle.early_verdict.proofs.SinceSets.{past_end, run_from, to_end}

module _ (tr : Trace) (a : ℕ) (b : Option ℕ) (p q : Lists) (t w : Rational) (in_window : OpenBehind (start tr) a b true true t w)
    (apart_p : IsOn p.yes w → ¬ (IsOn p.no w)) (apart_q : IsOn q.yes w → ¬ (IsOn q.no w)) (decides : (IsOn p.yes w × IsOn q.yes w) ⊎ IsOn p.no w) where
  we : w ≤ʳ less_by t a
  we = before_end t w a in_window.ends

  wt : w ≤ʳ t
  wt = le_trans we (end_past t a)

  -- times of the window from there on
  up_to : (v : Rational) → w ≤ʳ v → v ≤ʳ less_by t a → OpenBehind (start tr) a b true true t v
  up_to v l m = record { after = le_trans in_window.after l; begins = still_begins b t w v l in_window.begins; ends = to_end t v a m }

  -- where the left operand goes on from there, it is the one that decides
  from_there : ((v : Rational) → Within w t v → IsOn p.yes v) → SinceHolds tr a b (IsOn p.yes) (IsOn q.yes) t
  from_there all = elim decides [
    | inl d ↦ (w, in_window, (in_window.after, inr wt), d.1, all)
    | inr n ↦ absurd (apart_p (all w (record { above = le_refl w; below = wt })) n)
  ]

  module _ (x : Holding) (h : SinceHolding tr a b p q x) (own : Lies x.some.bounds t × Lies x.each.bounds t)
      (wide : (v : Rational) → w ≤ʳ v → v ≤ʳ t → Lies x.both.bounds v × Lies x.run.bounds v) where
    -- where each time of the way back is one of the runs, since holds
    pub decided_true : OnlyBehind tr 0 (Some a) true true (IsOn x.run.spans.items) t → SinceHolds tr a b (IsOn p.yes) (IsOn q.yes) t
    decided_true = held_from tr a b p q x h t w in_window (wide w (le_refl w) wt).1 from_there

    -- and where since holds its sets have the time
    pub true_decided : SinceHolds tr a b (IsOn p.yes) (IsOn q.yes) t → IsOn x.some.spans.items t × IsOn x.each.spans.items t
    true_decided (u, o, c, y, z) = (h.some.has t own.0 (u, o, c, y), h.each.has t own.1 each_run)
      where
        ut : u ≤ʳ t
        ut = none_later u t a o.ends

        each_run : (v : Rational) → OpenBehind (start tr) 0 (Some a) true true t v → IsOn x.run.spans.items v
        each_run v i =
            let in_run = (wide v (le_trans we (from_end t v a i.begins)) (none_later v t 0 i.ends)).1 in
            elim (le_or_lt w u) [
              | inl k ↦
                  let both = h.both.has u (wide u k ut).0 (z u (record { above = le_refl u; below = ut }), y) in
                  run_from tr a b p q x h t u o.ends both z v i in_run
              | inr k ↦
                  let from_w = λ (m : Rational) (n : Within w t m). z m (record { above = le_trans (le_of_lt k) n.above; below = n.below }) in
                  elim decides [
                    | inl d ↦ run_from tr a b p q x h t w in_window.ends (h.both.has w (wide w (le_refl w) wt).0 d) from_w v i in_run
                    | inr n ↦ absurd (apart_p (from_w w (record { above = le_refl w; below = wt })) n)
                  ]
            ]

  module _ (x : Failing) (h : SinceFailing tr a b p q x) (tidy_q : AreTidy q.no) (tidy_fail : AreTidy x.fail.spans.items)
      (own : Lies x.never.bounds t × Lies x.broken.bounds t) (wide : (v : Rational) → w ≤ʳ v → v ≤ʳ t → Lies x.fail.bounds v × Lies x.stop.bounds v) where
    -- where one of the failing sets has the time, since fails
    pub decided_false : IsOn x.never.spans.items t ⊎ IsOn x.broken.spans.items t → SinceFails tr a b (IsOn p.no) (IsOn q.no) t
    decided_false = fails_by tr a b p q x h tidy_q tidy_fail t own carried
      where
        carried : (u v : Rational) → OpenBehind (start tr) a b true true t u → u ≤ʳ v → v ≤ʳ t → less_by t a ≤ʳ v
            → IsCarried x.carried (place x.stop.bounds.from) x.fail.spans.items v → IsOn q.no u ⊎ ((v : Rational) × Within u t v × IsOn p.no v)
        carried u v o uv vt ev k = elim (le_or_lt w u) [
          | inl m ↦ of_fail tr a b p q x h tidy_q tidy_fail t own u (le_trans uv vt) (k.all u (wide u m (le_trans uv vt)).1.0 uv)
          | inr m ↦ elim decides [
            | inr n ↦ inr (w, record { above = le_of_lt m; below = wt }, n)
            | inl d ↦ elim ((h.fail.only w (k.all w (wide w (le_refl w) wt).1.0 (le_trans we ev))).1) [
              | inl n ↦ absurd (apart_p d.0 n)
              | inr n ↦ absurd (apart_q d.1 n)
            ]
          ]
        ]

    -- and where since fails one of them has it
    pub false_decided : SinceFails tr a b (IsOn p.no) (IsOn q.no) t → IsOn x.never.spans.items t ⊎ IsOn x.broken.spans.items t
    false_decided = failed_by tr a b p q x h tidy_q tidy_fail t own (at_time w) up_to (λ u k. le_trans in_window.after k) wide
        (λ all. elim decides [
          | inl d ↦ absurd (apart_q d.1 (all w (le_refl w) we))
          | inr n ↦ inr (h.broken.has t own.1 (
            less_by t a,
            back_way (start tr) t (less_by t a) a (le_trans in_window.after we) (past_end t (less_by t a) a (le_refl (less_by t a))) (end_past t a),
            (le_trans in_window.after we, inr (end_past t a)),
            h.stop.has (less_by t a) (wide (less_by t a) we (end_past t a)).1
                (inl (w, we, n, λ v i. h.fail.has v (wide v i.above (le_trans i.below (end_past t a))).0 (inr (all v i.above i.below)))),
          ))
        ])
