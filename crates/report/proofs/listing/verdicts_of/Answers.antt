use Rattle.std.proofs.Common.{◌≡◌, ◌+◌, ◌-◌, Some, ◌++◌, sym, ap, ◌∙◌, subst, arith}
use Rattle.std.specs.Prelude.{slice_get}
use Rattle.rational.specs.Time.{closed}
use Rattle.value_laws.specs.Kinds.{truth_shape}
use Rattle.pl_signal.specs.Knots.{start, stop, IsWorth}
use Rattle.pl_signal.proofs.Values.{next_rises}
use Rattle.report.specs.SignalVerdicts.{DescribesFunction}
use Rattle.report.specs.Spelling.{listed}
use Rattle.report.proofs.Advances.{IsSpelledTo, spelled_start, room_to, spelled_advance, spelled_stop, stop_room}
use Rattle.report.proofs.listing.verdicts_of.Goals as goal

pub loop-i-init : goal.loop-i-init
loop-i-init c =
    subst (λ vs. IsSpelledTo c.args.s.now 0 vs c.start-span.result) (sym c.new-all.ensures.items)
    (spelled_start c.args.s.now c.knot.result c.start-span.result c.knot.ensures c.start-span.ensures.from c.start-span.ensures.from_in
    c.start-span.ensures.holds)

pub advance-by_gap-requires-clause-begun : goal.advance-by_gap-requires-clause-begun
advance-by_gap-requires-clause-begun c =
    room_to c.args.s.now (c.loop-i.i - 1) c.loop-i.all.items c.loop-i.span c.knot-in-loop-i.result c.knot-in-loop-i.ensures c.loop-i.invariant

pub advance-by_gap-requires-clause-rising : goal.advance-by_gap-requires-clause-rising
advance-by_gap-requires-clause-rising c =
    let next : c.loop-i.i ≡ (c.loop-i.i - 1) + 1 = omega arith in
    next_rises truth_shape c.args.s.now
    (c.loop-i.i - 1) c.knot-in-loop-i.result c.knot-in-loop-i-2.result c.len-knots.ensures.signal.each c.knot-in-loop-i.ensures
    (subst (λ n. slice_get c.args.s.now n ≡ Some c.knot-in-loop-i-2.result) next c.knot-in-loop-i-2.ensures)

pub loop-i-preserved : goal.loop-i-preserved
loop-i-preserved c =
    let s = c.args.s.now in
    let next : c.loop-i.i ≡ (c.loop-i.i - 1) + 1 = omega arith in
    let there : (c.loop-i.i - 1) + 1 ≡ c.loop-i.i + 1 - 1 = omega arith in
    let all = (c.loop-i.all.items ++ listed c.advance-by_gap.result.0) ++ listed c.advance-by_gap.result.1 in
    let is : c.add_ended-in-loop-i.new.all.items ≡ all =
    c.in_ok-add_ended-2.ensures ∙ ap (λ vs. vs ++ listed c.advance-by_gap.result.1) c.in_ok-add_ended.ensures in
    subst (λ vs. IsSpelledTo s (c.loop-i.i + 1 - 1) vs c.advance-by_gap.new.self) (sym is)
    (subst (λ i. IsSpelledTo s i all c.advance-by_gap.new.self) there
    (spelled_advance s (c.loop-i.i - 1) c.advance-by_gap.new.self c.knot-in-loop-i.result c.knot-in-loop-i-2.result
    c.advance-by_gap.result.0 c.advance-by_gap.result.1 c.len-knots.ensures.signal c.knot-in-loop-i.ensures
    (subst (λ n. slice_get s n ≡ Some c.knot-in-loop-i-2.result) next c.knot-in-loop-i-2.ensures) c.loop-i.invariant c.advance-by_gap.ensures))

pub close-last-requires : goal.close-last-requires
close-last-requires c =
    stop_room c.args.s.now (c.loop-i.i - 1) c.loop-i.all.items c.loop-i.span c.stop.result (omega arith) c.loop-i.invariant c.stop.ensures.value

pub returns : goal.returns
returns c =
    let s = c.args.s.now in
    subst (λ vs. DescribesFunction (IsWorth truth_shape s) vs (closed (start s) (stop s))) (sym c.in_ok-add_ended-3.ensures)
    (spelled_stop s (c.loop-i.i - 1) c.loop-i.all.items c.loop-i.span c.close-last.result c.stop.result (omega arith) c.loop-i.invariant c.stop.ensures.value
    c.close-last.ensures)
