-- An until whose sets between go on from a time on fits what its operands show from there on.
use Rattle.std.proofs.Common.{inl, inr, sym, subst, ℕ, false}
use Rattle.rational.specs.Time.{Rational, ◌≤ʳ◌}
use Rattle.rational.proofs.Order.{le_trans}
use Rattle.rational.proofs.TimeLemmas.{later_from}
use Rattle.stl_syntax.specs.Trace.{Trace}
use Rattle.growing_sets.specs.Spans.{IsOn, Lies}
use Rattle.growing_sets.specs.Reaching.{GoesOn, GoesTo}
use Rattle.early_verdict.specs.Fitting.{Lists, UntilHolding, UntilFailing, sure_place}
use Rattle.growing_sets.specs.Showing.{IsCutAt}
use Rattle.early_verdict.specs.Letting.{IsFailingCut, IsHoldingCut}
use Rattle.growing_sets.specs.declared.stretch.Stretch.{Stretch}
use Rattle.growing_sets.specs.declared.grown.Grown.{Grown}
use Rattle.early_verdict.specs.declared.sets.Holding.{Holding}
use Rattle.early_verdict.specs.declared.sets.Failing.{Failing}
use Rattle.early_verdict.proofs.UntilSets.{later_zero_out}

-- from a time on two pairs of lists are alike, and the second has no more
pub record Agree (from : Rational) (l m : Lists) : Type 0 where
  -- from the cut on the true times are the same
  pub yes_in : (t : Rational) → from ≤ʳ t → IsOn l.yes t → IsOn m.yes t
  -- and none are new
  pub yes_out : (t : Rational) → IsOn m.yes t → IsOn l.yes t
  -- so are the false ones
  pub no_in : (t : Rational) → from ≤ʳ t → IsOn l.no t → IsOn m.no t
  -- and none are new
  pub no_out : (t : Rational) → IsOn m.no t → IsOn l.no t

-- what a set has from a time on it has still
pub kept_in : (from : Rational) (old new : Grown) → IsCutAt from old new
    → ((t : Rational) → IsOn old.spans.items t → Lies old.bounds t) → (t : Rational) → from ≤ʳ t
    → IsOn old.spans.items t → IsOn new.spans.items t
kept_in from old new k within t f o = k.has t (k.left t (within t o) f) o

module _ (from : Rational) (tr : Trace) (a b : ℕ) (p q p' q' : Lists) (ap' : Agree from p p') (aq : Agree from q q')
    (now : Rational) (later_on : from ≤ʳ now) where
  module _ (x y : Holding) (k : IsHoldingCut from from x y) (h : UntilHolding tr a b p q x) (at_both : Lies x.both.bounds now) (at_run : Lies x.run.bounds now)
      (at_some : Lies x.some.bounds now) (at_each : Lies x.each.bounds now) where
    both_in : (u : Rational) → from ≤ʳ u → IsOn x.both.spans.items u → IsOn y.both.spans.items u
    both_in = kept_in from x.both y.both k.both (λ t o. (h.both.only t o).0)

    run_in : (u : Rational) → from ≤ʳ u → IsOn x.run.spans.items u → IsOn y.run.spans.items u
    run_in = kept_in from x.run y.run k.run (λ t o. (h.run.only t o).0)

    -- the times whose window sees the right side stay
    pub some_in : (u : Rational) → from ≤ʳ u → IsOn x.some.spans.items u → IsOn y.some.spans.items u
    some_in = kept_in from x.some y.some k.some (λ t o. (h.some.only t o).0)

    -- times all of whose way is of the run stay so within what is kept
    pub each_in : (u : Rational) → from ≤ʳ u → IsOn x.each.spans.items u → IsOn y.each.spans.items u
    each_in = kept_in from x.each y.each k.each (λ t o. (h.each.only t o).0)

    goes_out : (t : Rational) → GoesOn p'.yes y.both.spans.items (sure_place tr) t → GoesOn p.yes x.both.spans.items (sure_place tr) t
    goes_out t (inl (u, l, c, z)) = inl (u, l, ((k.both.only u c.0).0, c.1), λ v w. ap'.yes_out v (z v w))
    goes_out t (inr c) = inr (k.both.only t c).0

    goes_in : (t : Rational) → from ≤ʳ t → GoesOn p.yes x.both.spans.items (sure_place tr) t → GoesOn p'.yes y.both.spans.items (sure_place tr) t
    goes_in t f (inl (u, l, c, z)) = inl (u, l, (both_in u (le_trans f l) c.0, c.1), λ v w. ap'.yes_in v (le_trans f w.above) (z v w))
    goes_in t f (inr c) = inr (both_in t f c)

    -- what is left says where the until holds
    pub holding_cut : UntilHolding tr a b p' q' y
    holding_cut = record {
      both = record {
        has = λ t l e. k.both.has t l (h.both.has t (k.both.less t l) (ap'.yes_out t e.0, aq.yes_out t e.1));
        only = λ t o.
            let c = k.both.only t o in
            let m = (h.both.only t c.0).1 in
            let f = k.both.after now at_both later_on t c.1 in
            (c.1, (ap'.yes_in t f m.0, aq.yes_in t f m.1));
      };
      run = record {
        has = λ t l g. k.run.has t l (h.run.has t (k.run.less t l) (goes_out t g));
        only = λ t o. let c = k.run.only t o in (c.1, goes_in t (k.run.after now at_run later_on t c.1) (h.run.only t c.0).1);
      };
      some = record {
        has = λ t l (u, w, c, e). k.some.has t l (h.some.has t (k.some.less t l) (u, w, c, aq.yes_out u e));
        only = λ t o.
            let c = k.some.only t o in
            let f = k.some.after now at_some later_on t c.1 in
            let (u, w, d, e) = (h.some.only t c.0).1 in
            (c.1, (u, w, d, aq.yes_in u (le_trans f (le_trans (later_from t a) w.begins)) e));
      };
      each = record {
        has = λ t l g. k.each.has t l (h.each.has t (k.each.less t l) (λ u w d. (k.run.only u (g u w d)).0));
        only = λ t o.
            let c = k.each.only t o in
            let f = k.each.after now at_each later_on t c.1 in
            let g = (h.each.only t c.0).1 in
            (c.1, λ u w d. run_in u (le_trans f (later_zero_out t u w.begins)) (g u w d));
      };
    }

  module _ (wide : Stretch) (x y : Failing) (k : IsFailingCut from wide x y) (h : UntilFailing false tr a b p q x) (at_never : Lies x.never.bounds now)
      (at_broken : Lies x.broken.bounds now) (less_fail : (t : Rational) → Lies wide t → Lies x.fail.bounds t)
      (left_fail : (t : Rational) → Lies x.fail.bounds t → from ≤ʳ t → Lies wide t) (less_stop : (t : Rational) → Lies wide t → Lies x.stop.bounds t)
      (left_stop : (t : Rational) → Lies x.stop.bounds t → from ≤ʳ t → Lies wide t) (after : (t : Rational) → Lies wide t → from ≤ʳ t) where
    fail_in : (u : Rational) → from ≤ʳ u → IsOn x.fail.spans.items u → IsOn y.fail.spans.items u
    fail_in u f o = k.fail.has u (left_fail u (h.fail.only u o).0 f) o

    stop_in : (u : Rational) → from ≤ʳ u → IsOn x.stop.spans.items u → IsOn y.stop.spans.items u
    stop_in u f o = k.stop.has u (left_stop u (h.stop.only u o).0 f) o

    -- the times all of whose window fails stay
    pub never_in : (u : Rational) → from ≤ʳ u → IsOn x.never.spans.items u → IsOn y.never.spans.items u
    never_in = kept_in from x.never y.never k.never (λ t o. (h.never.only t o).0)

    -- times whose way is broken stay so within what is kept
    pub broken_in : (u : Rational) → from ≤ʳ u → IsOn x.broken.spans.items u → IsOn y.broken.spans.items u
    broken_in = kept_in from x.broken y.broken k.broken (λ t o. (h.broken.only t o).0)

    goes_to_out : (t : Rational) → GoesTo y.fail.spans.items p'.no t → GoesTo x.fail.spans.items p.no t
    goes_to_out t (u, l, e, z) = (u, l, ap'.no_out u e, λ v w. (k.fail.only v (z v w)).0)

    goes_to_in : (t : Rational) → from ≤ʳ t → GoesTo x.fail.spans.items p.no t → GoesTo y.fail.spans.items p'.no t
    goes_to_in t f (u, l, e, z) = (u, l, ap'.no_in u (le_trans f l) e, λ v w. fail_in v (le_trans f w.above) (z v w))

    -- what is left says where it fails
    pub failing_cut : UntilFailing false tr a b p' q' y
    failing_cut = record {
      fail = record {
        has = λ t l e. let c = subst (λ s. Lies s t) k.fail.bounds_are l in
            k.fail.has t c (h.fail.has t (less_fail t c) (elim e [ inl m ↦ inl (ap'.no_out t m) | inr m ↦ inr (aq.no_out t m) ]));
        only = λ t o.
            let c = k.fail.only t o in
            let f = after t c.1 in
            let m = (h.fail.only t c.0).1 in
            (subst (λ s. Lies s t) (sym k.fail.bounds_are) c.1, elim m [ inl e ↦ inl (ap'.no_in t f e) | inr e ↦ inr (aq.no_in t f e) ]);
      };
      stop = record {
        has = λ t l g. let c = subst (λ s. Lies s t) k.stop.bounds_are l in k.stop.has t c (h.stop.has t (less_stop t c) (goes_to_out t g));
        only = λ t o.
            let c = k.stop.only t o in
            (subst (λ s. Lies s t) (sym k.stop.bounds_are) c.1, goes_to_in t (after t c.1) (h.stop.only t c.0).1);
      };
      never = record {
        has = λ t l g. k.never.has t l (h.never.has t (k.never.less t l) (λ u w d. aq.no_out u (g u w d)));
        only = λ t o.
            let c = k.never.only t o in
            let f = k.never.after now at_never later_on t c.1 in
            let g = (h.never.only t c.0).1 in
            (c.1, λ u w d. aq.no_in u (le_trans f (le_trans (later_from t a) w.begins)) (g u w d));
      };
      broken = record {
        has = λ t l (v, w, e). k.broken.has t l (h.broken.has t (k.broken.less t l) (v, w, (k.stop.only v e).0));
        only = λ t o.
            let c = k.broken.only t o in
            let f = k.broken.after now at_broken later_on t c.1 in
            let (v, w, e) = (h.broken.only t c.0).1 in
            (c.1, (v, w, stop_in v (le_trans f (later_zero_out t v w.begins)) e));
      };
    }
