use Rattle.std.proofs.Common.{subst, Some}
use Rattle.std.specs.Prelude.{IfSome}
use Rattle.value_laws.specs.Kinds.{kleene_shape}
use Rattle.implicants.specs.Upward.{IsShortOver}
use Rattle.implicants.proofs.AddedRuns.{adds_short, joined_short}
use Rattle.implicants.proofs.runs.grown.Goals as goal

pub returns-in_default-clause-added : goal.returns-in_default-clause-added
returns-in_default-clause-added c best x h = adds_short c.args.of best c.args.so_far x c.args.runs.now.items c.add.new.runs.items c.in_ok-add.ensures h

pub returns-in-Some-joined-clause-so_far : goal.returns-in-Some-joined-clause-so_far
returns-in-Some-joined-clause-so_far c best x before here =
    joined_short best x c.in-Some-so_far.is c.in-Some.is c.in-Some-joined.is c.joined.ensures before here

pub returns-clause-added : goal.returns-clause-added
returns-clause-added c best x h = adds_short c.args.of best (Some c.in-Some-so_far.before) x c.args.runs.now.items c.add-2.new.runs.items c.in_ok-add-2.ensures
    (subst (λ o. IfSome o (IsShortOver kleene_shape best x)) c.in-Some-so_far.is h)
