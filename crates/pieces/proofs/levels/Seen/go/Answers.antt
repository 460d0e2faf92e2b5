use Rattle.pieces.proofs.LevelsLemmas.{counts_go}
use Rattle.pieces.proofs.levels.Seen.go.Goals as goal

pub returns-clause-counts : goal.returns-clause-counts
returns-clause-counts g c x h k = counts_go g.P.Shape c.args.s.now c.args.way.now x c.args.self.now c.going.result h (k c.if-not-is.false)
    (c.requires.more c.if-not-is.false) c.going.ensures.upto c.going.ensures.none c.going.ensures.some
