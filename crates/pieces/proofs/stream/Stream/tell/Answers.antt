use Rattle.std.proofs.Common.{◌∙◌}
use Rattle.rational.proofs.Lists.{on_err_anyway}
use Rattle.frac128.specs.Value.{value}
use Rattle.pieces.specs.Causes.{IsCauseBelow}
use Rattle.pieces.proofs.BestEnd.{on_ok_two}
use Rattle.pieces.proofs.CountsInPlay.{none_refused}
use Rattle.pieces.proofs.FollowedConstants.{at_of_steps}
use Rattle.pieces.proofs.stream.Stream.tell.Goals as goal

pub tell_constants-requires-clause-all : goal.tell_constants-requires-clause-all
tell_constants-requires-clause-all g c =
    let (s, known, all) = c.requires.all in
    (s, _, c.in-Some.is, known, all)

pub returns-in-Some-clause-wide : goal.returns-in-Some-clause-wide
returns-in-Some-clause-wide g c s known all after = on_err_anyway c.tell_constants.result
    (none_refused c.args.fault.now (IsCauseBelow g.P.Shape s c.args.self.now.way.over (value c.args.to.now)) c.requires.none)

pub tell_steps-requires-clause-all : goal.tell_steps-requires-clause-all
tell_steps-requires-clause-all g c =
    let (s, known, all) = c.requires.all in
    (s, known.by_steps c.in_default.is, all)

pub returns-clause-told : goal.returns-clause-told
returns-clause-told g c s known all = c.tell_steps.ensures.told s (known.by_steps c.in_default.is) all

pub returns-clause-bases : goal.returns-clause-bases
returns-clause-bases g c s known all = c.tell_steps.ensures.bases s (known.by_steps c.in_default.is) all

pub returns-clause-at : goal.returns-clause-at
returns-clause-at g c s known all = on_ok_two c.tell_steps.result (λ at range. at_of_steps g.P.Shape s c.tell_steps.new.self (value c.args.to.now)
    (range ∙ c.in_default.is) at) (c.tell_steps.ensures.at s (known.by_steps c.in_default.is) all) c.tell_steps.ensures.range

pub returns-clause-wide : goal.returns-clause-wide
returns-clause-wide g c s known all after = c.tell_steps.ensures.wide s (known.by_steps c.in_default.is) all after

pub returns-clause-early : goal.returns-clause-early
returns-clause-early g c s known all first later = c.tell_steps.ensures.early s (known.by_steps c.in_default.is) all first later

pub returns-clause-one : goal.returns-clause-one
returns-clause-one g c s known all one = c.tell_steps.ensures.one s (known.by_steps c.in_default.is) all one
