use Rattle.frac128.specs.Cuts.{place}
use Rattle.growing_sets.proofs.ShowingLemmas.{ends_after, ends_none, fewer, none_dropped, one_dropped}
use Rattle.growing_sets.proofs.showing.drop_before.Goals as goal

pub loop-first-init : goal.loop-first-init
loop-first-init c = none_dropped (place c.args.cut.now) c.args.spans.now.items c.requires

pub returns-then-precedes-clause-tidy : goal.returns-then-precedes-clause-tidy
returns-then-precedes-clause-tidy c = c.loop-first.invariant.tidy

pub returns-then-precedes-clause-kept : goal.returns-then-precedes-clause-kept
returns-then-precedes-clause-kept c = c.loop-first.invariant.kept

pub returns-then-precedes-clause-left : goal.returns-then-precedes-clause-left
returns-then-precedes-clause-left c = c.loop-first.invariant.left

pub returns-then-precedes-clause-first : goal.returns-then-precedes-clause-first
returns-then-precedes-clause-first c =
    ends_after (place c.args.cut.now) c.loop-first.spans.items c.in-Some.first c.in-Some.ensures.some (c.precedes.ensures.0 c.if-precedes.true)

pub loop-first-smaller : goal.loop-first-smaller
loop-first-smaller c = fewer c.loop-first.spans.items c.pop_front.new.self.items c.in-Some.first c.in-Some.ensures.some c.pop_front.ensures

pub loop-first-preserved : goal.loop-first-preserved
loop-first-preserved c =
    one_dropped (place c.args.cut.now) c.args.spans.now.items c.loop-first.spans.items c.pop_front.new.self.items c.in-Some.first c.in-Some.ensures.some
    c.pop_front.ensures (λ b. let x = c.precedes.ensures.1 b in let y = c.if-precedes.false in cc) c.loop-first.invariant

pub returns-clause-tidy : goal.returns-clause-tidy
returns-clause-tidy c = c.loop-first.invariant.tidy

pub returns-clause-kept : goal.returns-clause-kept
returns-clause-kept c = c.loop-first.invariant.kept

pub returns-clause-left : goal.returns-clause-left
returns-clause-left c = c.loop-first.invariant.left

pub returns-clause-first : goal.returns-clause-first
returns-clause-first c = ends_none (place c.args.cut.now) c.loop-first.spans.items c.in_default.ensures.none
