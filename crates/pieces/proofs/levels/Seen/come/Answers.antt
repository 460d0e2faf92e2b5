use Rattle.std.proofs.Common.{◌<◌, arith, length}
use Rattle.pieces.proofs.LevelsLemmas.{counts_come, counts_later}
use Rattle.pieces.proofs.levels.Seen.come.Goals as goal

pub returns-then-not-is-clause-counts : goal.returns-then-not-is-clause-counts
returns-then-not-is-clause-counts g c x y h m k = counts_later g.P.Shape c.args.s.now c.args.way.now x y c.args.self.now h m

pub returns-clause-counts : goal.returns-clause-counts
returns-clause-counts g c x y h m k =
    let more : c.args.self.now.high < length c.args.s.now.pieces =
    let none = c.if-self-len.false in let count = c.len.ensures.value in omega (arith, none, count) in
    counts_come g.P.Shape c.args.s.now c.args.way.now y c.args.self.now c.coming.result
    (counts_later g.P.Shape c.args.s.now c.args.way.now x y c.args.self.now h m) (k c.if-not-is.false) more
    c.coming.ensures.upto c.coming.ensures.none c.coming.ensures.some
