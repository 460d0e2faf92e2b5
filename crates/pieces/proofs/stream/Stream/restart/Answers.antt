use Rattle.pieces.proofs.FollowedConstants.{follows_restart}
use Rattle.pieces.proofs.stream.Stream.restart.Goals as goal

pub returns-clause-follows : goal.returns-clause-follows
returns-clause-follows g c s known = follows_restart g.P.Shape s c.args.self.now c.restart.new.self c.restart.ensures known
