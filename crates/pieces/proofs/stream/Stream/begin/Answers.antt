use Rattle.std.proofs.Common.{refl}
use Rattle.pieces.proofs.FollowedConstants.{follows_at_first}
use Rattle.pieces.proofs.stream.Stream.begin.Goals as goal

pub returns-clause-follows : goal.returns-clause-follows
returns-clause-follows g c s can = follows_at_first g.P.Shape (assumption g.met.P.Shape) s _ can c.start.ensures c.new.ensures.items refl refl
    c.first_range.ensures.wide c.first_range.ensures.items c.first_range.ensures.low c.first_range.ensures.high
