-- A since whose sets between go on from a time on fits what its operands show from as far back as it looks from there.
use Rattle.std.proofs.Common.{◌≡◌, inl, inr, sym, subst, ℕ, true, Option, Some, None, List, []}
use Rattle.std.specs.Prelude.{MatchOption}
use Rattle.rational.specs.Time.{Rational, later, ◌≤ʳ◌, ◌<ʳ◌}
use Rattle.rational.proofs.Order.{le_of_lt, le_refl, le_trans, not_lt_of_le}
use Rattle.rational.proofs.TimeLemmas.{later_from, later_le, later_le_back}
use Rattle.stl_syntax.specs.Trace.{Trace, start}
use Rattle.early_verdict.specs.Readings.{OnlyBehind, SomeBehind}
use Rattle.growing_sets.specs.Spans.{IsOn, Lies}
use Rattle.early_verdict.specs.Fitting.{IsTidy, Lists, Says, SinceHolding, SinceFailing}
use Rattle.growing_sets.specs.Showing.{IsCutAt}
use Rattle.early_verdict.specs.Letting.{BeginsAtOnce, IsCutTo}
use Rattle.growing_sets.specs.declared.stretch.Stretch.{Stretch}
use Rattle.growing_sets.specs.declared.grown.Grown.{Grown}
use Rattle.early_verdict.specs.declared.sets.Parts.{Parts}
use Rattle.early_verdict.proofs.CarriedRuns.{says_back}
use Rattle.early_verdict.proofs.SinceSets.{none_later}
use Rattle.early_verdict.proofs.UntilCuts.{Agree, kept_in}

-- a set of times that see some time of a list, so far before them
pub record SeesAnew (from : Rational) (a : ℕ) (xs : List Stretch) (old new : Grown) : Type 0 where
  -- its stretches rise
  pub tidy : IsTidy new
  -- its bounds are no wider than they were
  pub less : (t : Rational) → Lies new.bounds t → Lies old.bounds t
  -- and have each time that is later on
  pub left : (t : Rational) → Lies old.bounds t → from ≤ʳ t → Lies new.bounds t
  -- of its times those stay that see one of the list
  pub has : (t : Rational) → Lies new.bounds t → IsOn old.spans.items t → (u : Rational) → IsOn xs u → later u a ≤ʳ t → IsOn new.spans.items t
  -- and each of its times sees one
  pub only : (t : Rational) → IsOn new.spans.items t → Lies new.bounds t × ((u : Rational) × IsOn xs u × (later u a ≤ʳ t))

-- a set that has none, with fewer bounds
pub record SeesNone (from : Rational) (old new : Grown) : Type 0 where
  -- it has no time
  pub none : new.spans.items ≡ []
  -- its bounds have each time that is later on
  pub left : (t : Rational) → Lies old.bounds t → from ≤ʳ t → Lies new.bounds t
  -- and none before, where they had one later on
  pub after : (t : Rational) → Lies old.bounds t → from ≤ʳ t → (u : Rational) → Lies new.bounds u → from ≤ʳ u

-- how the sets between are cut: those of the operands and of runs at the first time, the others at the node's own
pub record IsBackCut (d from : Rational) (wide : Stretch) (a : ℕ) (b : Option ℕ) (ys : List Stretch) (x z : Parts) : Type 0 where
  -- the times of both operands go on from the first time
  pub both : IsCutAt d x.holding.both z.holding.both
  -- and so do the runs that hold
  pub run : IsCutAt d x.holding.run z.holding.run
  -- the times that see only runs go on from the own cut
  pub each : IsCutAt from x.holding.each z.holding.each
  -- whether a run goes on from before is said anew
  pub runs : BeginsAtOnce z.holding.carried z.holding.run
  -- what sees the right operand is cut; without a bound it is made anew
  pub some : MatchOption b (SeesAnew from a ys x.holding.some z.holding.some) (λ k. IsCutAt from x.holding.some z.holding.some)
  -- failures go as far as the left operand is shown
  pub fail : IsCutTo wide x.failing.fail z.failing.fail
  -- and so do the runs that fail
  pub stop : IsCutTo wide x.failing.stop z.failing.stop
  -- the times that see such a run go on from the own cut
  pub broken : IsCutAt from x.failing.broken z.failing.broken
  -- whether one goes on from before is said anew
  pub stops : BeginsAtOnce z.failing.carried z.failing.stop
  -- what sees failures alone is cut; without a bound it has none
  pub never : MatchOption b (SeesNone from x.failing.never z.failing.never) (λ k. IsCutAt from x.failing.never z.failing.never)

module _ (d from : Rational) (tr : Trace) (a : ℕ) (b : Option ℕ) (p q p' q' : Lists) (P : Agree d p p') (Q : Agree d q q') (now : Rational)
    (later_on : from ≤ʳ now) (back : later d a ≤ʳ from) (reach : MatchOption b (start tr <ʳ d) (λ k. later d k ≤ʳ from))
    (begun_q : (u : Rational) → IsOn q'.yes u → start tr ≤ʳ u) (after_q : (u : Rational) → IsOn q'.no u → d ≤ʳ u) (wide : Stretch) (x z : Parts)
    (k : IsBackCut d from wide a b q'.yes x z) where
  -- a time that is seen from there on
  near : (t u : Rational) → from ≤ʳ t → t ≤ʳ later u a → d ≤ʳ u
  near t u f e = later_le_back d u a (le_trans back (le_trans f e))

  begun : d ≤ʳ now
  begun = le_trans (later_from d a) (le_trans back later_on)

  module _ (h : SinceHolding tr a b p q x.holding) (at_both : Lies x.holding.both.bounds now) (at_run : Lies x.holding.run.bounds now)
      (at_some : Lies x.holding.some.bounds now) (at_each : Lies x.holding.each.bounds now) where
    both_in : (u : Rational) → d ≤ʳ u → IsOn x.holding.both.spans.items u → IsOn z.holding.both.spans.items u
    both_in = kept_in d x.holding.both z.holding.both k.both (λ t o. (h.both.only t o).0)

    run_in : (u : Rational) → d ≤ʳ u → IsOn x.holding.run.spans.items u → IsOn z.holding.run.spans.items u
    run_in = kept_in d x.holding.run z.holding.run k.run (λ t o. (h.run.only t o).0)

    some_says : (o : Option ℕ) → MatchOption o (start tr <ʳ d) (λ k. later d k ≤ʳ from)
        → MatchOption o (SeesAnew from a q'.yes x.holding.some z.holding.some) (λ k. IsCutAt from x.holding.some z.holding.some)
        → Says x.holding.some (SomeBehind tr a o true true (IsOn q.yes)) → Says z.holding.some (SomeBehind tr a o true true (IsOn q'.yes))
    some_says None r c s = record {
      has = λ t l (u, w, e, y). c.has t l (s.has t (c.less t l) (u, w, e, Q.yes_out u y)) u y w.ends;
      only = λ t o.
          let m = c.only t o in
          let (u, y, e) = m.1 in
          (m.0, (u, record { after = begun_q u y; begins = tt; ends = e }, (begun_q u y, inr (none_later u t a e)), y));
    }
    some_says (Some n) r c s = record {
      has = λ t l (u, w, e, y). c.has t l (s.has t (c.less t l) (u, w, e, Q.yes_out u y));
      only = λ t o.
          let m = c.only t o in
          let f = c.after now at_some later_on t m.1 in
          let (u, w, e, y) = (s.only t m.0).1 in
          (m.1, (u, w, e, Q.yes_in u (later_le_back d u n (le_trans r (le_trans f w.begins))) y));
    }

    -- what is left says where the since holds
    pub holding_back : SinceHolding tr a b p' q' z.holding
    holding_back = record {
      both = record {
        has = λ t l e. k.both.has t l (h.both.has t (k.both.less t l) (P.yes_out t e.0, Q.yes_out t e.1));
        only = λ t o.
            let c = k.both.only t o in
            let m = (h.both.only t c.0).1 in
            let f = k.both.after now at_both begun t c.1 in
            (c.1, (P.yes_in t f m.0, Q.yes_in t f m.1));
      };
      run = says_back d p.yes p'.yes x.holding.both.spans.items z.holding.both.spans.items x.holding.run z.holding.run x.holding.carried z.holding.carried
          P.yes_in P.yes_out both_in (λ t o. (k.both.only t o).0) k.run.less k.run.has k.run.only (λ t l. k.run.after now at_run begun t l)
          k.runs k.run.tidy h.run;
      some = some_says b reach k.some h.some;
      each = record {
        has = λ t l g. k.each.has t l (h.each.has t (k.each.less t l) (λ u w. (k.run.only u (g u w)).0));
        only = λ t o.
            let c = k.each.only t o in
            let f = k.each.after now at_each later_on t c.1 in
            let g = (h.each.only t c.0).1 in
            (c.1, λ u w. run_in u (near t u f w.begins) (g u w));
      };
    }

  module _ (h : SinceFailing tr a b p q x.failing) (at_never : Lies x.failing.never.bounds now) (at_broken : Lies x.failing.broken.bounds now)
      (less_fail : (t : Rational) → Lies wide t → Lies x.failing.fail.bounds t)
      (left_fail : (t : Rational) → Lies x.failing.fail.bounds t → d ≤ʳ t → Lies wide t)
      (less_stop : (t : Rational) → Lies wide t → Lies x.failing.stop.bounds t)
      (left_stop : (t : Rational) → Lies x.failing.stop.bounds t → d ≤ʳ t → Lies wide t) (after : (t : Rational) → Lies wide t → d ≤ʳ t) where
    fail_in : (u : Rational) → d ≤ʳ u → IsOn x.failing.fail.spans.items u → IsOn z.failing.fail.spans.items u
    fail_in u f o = k.fail.has u (left_fail u (h.fail.only u o).0 f) o

    stop_in : (u : Rational) → d ≤ʳ u → IsOn x.failing.stop.spans.items u → IsOn z.failing.stop.spans.items u
    stop_in u f o = k.stop.has u (left_stop u (h.stop.only u o).0 f) o

    in_wide : (t : Rational) → Lies z.failing.stop.bounds t → Lies wide t
    in_wide t l = subst (λ s. Lies s t) k.stop.bounds_are l

    never_says : (o : Option ℕ) → MatchOption o (start tr <ʳ d) (λ k. later d k ≤ʳ from)
        → MatchOption o (SeesNone from x.failing.never z.failing.never) (λ k. IsCutAt from x.failing.never z.failing.never)
        → Says x.failing.never (OnlyBehind tr a o true true (IsOn q.no)) → Says z.failing.never (OnlyBehind tr a o true true (IsOn q'.no))
    never_says None r c s = record {
      has = λ t l g.
          let f = c.after now at_never later_on t l in
          let e = le_trans (later_le a (le_of_lt r)) (le_trans back f) in
          absurd (not_lt_of_le (after_q (start tr) (g (start tr) (record { after = le_refl (start tr); begins = tt; ends = e }))) r);
      only = λ t o. absurd (subst (λ xs. IsOn xs t) c.none o);
    }
    never_says (Some n) r c s = record {
      has = λ t l g. c.has t l (s.has t (c.less t l) (λ u w. Q.no_out u (g u w)));
      only = λ t o.
          let m = c.only t o in
          let f = c.after now at_never later_on t m.1 in
          let g = (s.only t m.0).1 in
          (m.1, λ u w. Q.no_in u (later_le_back d u n (le_trans r (le_trans f w.begins))) (g u w));
    }

    -- what is left says where it fails
    pub failing_back : SinceFailing tr a b p' q' z.failing
    failing_back = record {
      fail = record {
        has = λ t l e. let c = subst (λ s. Lies s t) k.fail.bounds_are l in
            k.fail.has t c (h.fail.has t (less_fail t c) (elim e [ inl m ↦ inl (P.no_out t m) | inr m ↦ inr (Q.no_out t m) ]));
        only = λ t o.
            let c = k.fail.only t o in
            let f = after t c.1 in
            let m = (h.fail.only t c.0).1 in
            (subst (λ s. Lies s t) (sym k.fail.bounds_are) c.1, elim m [ inl e ↦ inl (P.no_in t f e) | inr e ↦ inr (Q.no_in t f e) ]);
      };
      stop = says_back d x.failing.fail.spans.items z.failing.fail.spans.items p.no p'.no x.failing.stop z.failing.stop x.failing.carried z.failing.carried
          fail_in (λ t o. (k.fail.only t o).0) P.no_in P.no_out (λ t l. less_stop t (in_wide t l)) (λ t l o. k.stop.has t (in_wide t l) o)
          (λ t o. let c = k.stop.only t o in (c.0, subst (λ s. Lies s t) (sym k.stop.bounds_are) c.1)) (λ t l. after t (in_wide t l))
          k.stops k.stop.tidy h.stop;
      never = never_says b reach k.never h.never;
      broken = record {
        has = λ t l (v, w, s, e). k.broken.has t l (h.broken.has t (k.broken.less t l) (v, w, s, (k.stop.only v e).0));
        only = λ t o.
            let c = k.broken.only t o in
            let f = k.broken.after now at_broken later_on t c.1 in
            let (v, w, s, e) = (h.broken.only t c.0).1 in
            (c.1, (v, w, s, stop_in v (near t v f w.begins) e));
      };
    }
