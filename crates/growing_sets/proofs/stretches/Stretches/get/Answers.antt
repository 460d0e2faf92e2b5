use Rattle.std.proofs.Common.{◌∙◌, arith}
use Rattle.growing_sets.proofs.BlockLemmas.{spot_get, none_at}
use Rattle.growing_sets.proofs.stretches.Stretches.get.Goals as goal

pub returns-then-self-at-clause-one : goal.returns-then-self-at-clause-one
returns-then-self-at-clause-one c = let a = c.self.invariant.all in rw (← c.self.view_is) (none_at _ c.args.at (omega arith))

pub spot_of-here-requires : goal.spot_of-here-requires
spot_of-here-requires c = let a = c.self.invariant.all in omega arith

pub returns-in-Some-clause-one : goal.returns-in-Some-clause-one
returns-in-Some-clause-one c =
    rw (← c.self.view_is) (c.in-Some.ensures ∙ spot_get c.spot_of-here.ensures.spot c.index.result.now c.index.ensures)

pub returns-in-Some-clause-few : goal.returns-in-Some-clause-few
returns-in-Some-clause-few c = let f = c.self.invariant.few in omega arith

pub returns-in-None-clause-one : goal.returns-in-None-clause-one
returns-in-None-clause-one c =
    rw (← c.self.view_is) (c.in-None.ensures ∙ spot_get c.spot_of-here.ensures.spot c.index.result.now c.index.ensures)
