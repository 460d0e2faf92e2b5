use Rattle.offline_eval.proofs.SignalsAndChains.{some_piece}
use Rattle.implicants.proofs.NearBest.{begins_is_on}
use Rattle.implicants.proofs.upward.begins_short.Goals as goal

pub returns : goal.returns
returns c h = begins_is_on c.args.x.now c.piece.result.now c.len.ensures.normal c.requires.first c.piece.ensures (c.is_on.ensures h)

pub piece-requires : goal.piece-requires
piece-requires c = some_piece c.args.x.now c.requires.first c.requires.last
