use Rattle.std.proofs.lemmas.Result.{on_ok_weaker}
use Rattle.truth_sets.proofs.MovingLemmas.{bent_ends, bent_rise, can_bend}
use Rattle.truth_sets.proofs.atom.go_along.Goals as goal

pub bend-requires-clause-rise : goal.bend-requires-clause-rise
bend-requires-clause-rise c = c.requires.2.rise

pub bend-requires-clause-last : goal.bend-requires-clause-last
bend-requires-clause-last c = can_bend c.requires.1 _ c.args.leg.now.turn c.args.times.now.turns.items c.requires.4 c.requires.2.ends

pub jump-requires-clause-rise : goal.jump-requires-clause-rise
jump-requires-clause-rise c = bent_rise c.requires.0 c.requires.1 c.args.second c.requires.3 c.args.times.now c.requires.2 c.args.leg.now.turn c.requires.4
    c.bend.new.times c.in_ok-bend.ensures

pub jump-requires-clause-last : goal.jump-requires-clause-last
jump-requires-clause-last c = bent_ends c.requires.0 c.requires.1 c.args.second c.requires.3 c.args.times.now c.requires.2 c.args.leg.now.turn c.requires.4
    c.bend.new.times c.in_ok-bend.ensures

pub returns : goal.returns
returns c = on_ok_weaker c.jump.result (λ j. record { mid = c.bend.new.times; bends = c.in_ok-bend.ensures; jumps = j }) c.jump.ensures
