use Rattle.std.proofs.Common.{inl, ◌∙◌, refl}
use Rattle.implicants.proofs.GivenUp.{settles_more}
use Rattle.implicants.proofs.upward.settle.Goals as goal

pub loop-j-init : goal.loop-j-init
loop-j-init c = record { count = refl; settles = λ r h. inl h }

pub loop-j-preserved : goal.loop-j-preserved
loop-j-preserved c = record {
  count = c.settle_run.ensures.count ∙ c.loop-j.invariant.count;
  settles = settles_more c.args.gained.now c.loop-j.j c.run_in-run.result c.args.runs.now.items c.loop-j.runs.items c.settle_run.new.runs.items
      c.run_in-run.ensures c.loop-j.invariant.settles c.in_ok-settle_run.ensures.settles;
}

pub returns-clause-count : goal.returns-clause-count
returns-clause-count c = c.loop-j.invariant.count

pub returns-clause-settles : goal.returns-clause-settles
returns-clause-settles c = c.loop-j.invariant.settles
