use Rattle.std.proofs.Common.{arith}
use Rattle.pieces.proofs.ReadUpTo.{is_inside}
use Rattle.pieces.proofs.LevelsLemmas.{end_from, end_to}
use Rattle.pieces.proofs.levels.going.Goals as goal

pub left-requires-clause-from : goal.left-requires-clause-from
left-requires-clause-from g c = end_from g.P.Shape c.args.s.now c.args.way.now.over c.requires.can c.args.i c.piece.result.now c.piece.ensures

pub left-requires-clause-to : goal.left-requires-clause-to
left-requires-clause-to g c = end_to g.P.Shape c.args.s.now c.args.way.now.over c.requires.can c.args.i c.piece.result.now c.piece.ensures

pub returns-clause-some : goal.returns-clause-some
returns-clause-some g c p e =
    let k = is_inside c.args.s.now.pieces c.args.i p e in
    let none = c.if-i-len.false in let count = c.len.ensures.value in absurd (omega (arith, k, none, count))
