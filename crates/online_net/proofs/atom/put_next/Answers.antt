use Rattle.std.proofs.Common.{sym, ◌∙◌}
use Rattle.online_net.proofs.AtomVerdicts.{through}
use Rattle.online_net.proofs.atom.put_next.Goals as goal

pub put_turning-requires-clause-on : goal.put_turning-requires-clause-on
put_turning-requires-clause-on c = (c.args.bound.now, c.truth_step-piece.ensures.piece)

pub returns-then-is_even : goal.returns-then-is_even
returns-then-is_even c =
    let even = c.is_even.ensures c.if-is_even.true in
    c.put_even.ensures c.args.bound.now
    (through c.args.bound.now c.args.node c.args.first.now c.args.row.now c.holds-holds.result even.1 even.2
    c.truth_step-piece.ensures.piece (λ a tr t for has same. c.truth_step-piece.ensures.point a tr t for has same ∙ sym c.holds-holds.ensures))

pub returns : goal.returns
returns c =
    c.put_turning.ensures c.args.bound.now c.truth_step-piece.ensures.piece
    (λ a tr t for has same. c.truth_step-piece.ensures.point a tr t for has same ∙ sym c.holds-holds.ensures)
