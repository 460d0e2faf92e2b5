use Rattle.frac128.specs.Cuts.{place}
use Rattle.growing_sets.proofs.EndingLemmas.{all_end, none_end}
use Rattle.growing_sets.proofs.ending.end_for.Goals as goal

pub returns-in_default : goal.returns-in_default
returns-in_default c = none_end (place c.args.cut.now) c.args.spans.now.items c.in_default.ensures.none

pub returns-then-precedes : goal.returns-then-precedes
returns-then-precedes c =
    all_end (place c.args.cut.now) c.args.spans.now.items c.in-Some.last c.requires c.in-Some.ensures.some (c.precedes.ensures.0 c.if-precedes.true)

pub returns : goal.returns
returns c = (
  c.in-Some.ensures.some,
  λ b. let e = c.precedes-2.ensures.1 b in let f = c.if-precedes-2.false in cc,
  λ b. let e = c.precedes.ensures.1 b in let f = c.if-precedes.false in cc,
)
