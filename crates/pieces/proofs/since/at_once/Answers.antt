use Rattle.std.proofs.Common.{◌^◌, subst}
use Rattle.rational.specs.Rational.{IsWithin}
use Rattle.pieces.proofs.GoingOver.{by_time}
use Rattle.pieces.proofs.since.at_once.Goals as goal

pub put-requires-clause-limited : goal.put-requires-clause-limited
put-requires-clause-limited g c = subst (IsWithin (2 ^ 34)) c.requires.begins c.requires.fit.from_within

pub returns : goal.returns
returns g c =
    by_time g.P.Shape c.args.gap.now c.args.until.now c.chosen-most.result c.chosen-value.result c.requires.instant c.requires.begins c.requires.ends
    c.chosen-most.ensures.one c.chosen-value.ensures.one c.chosen-most.ensures.value c.chosen-value.ensures.value c.in_ok-put.ensures.ok
