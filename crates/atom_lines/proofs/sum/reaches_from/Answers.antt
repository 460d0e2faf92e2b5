use Rattle.std.proofs.Common.{◌≤◌, ◌∙◌, ◌-ℤ◌, nat_abs, sym, ap, subst, arith}
use Rattle.atom_lines.proofs.GrowingSums.{one_sound, one_reach, one_of_ramps, word_read}
use Rattle.atom_lines.proofs.sum.reaches_from.Goals as goal

pub above_limit-next-requires-clause-coef : goal.above_limit-next-requires-clause-coef
above_limit-next-requires-clause-coef g c =
    let k = c.only_term-term.result.now in
    let small = one_sound c.args.atom.now.terms.items k _ c.only_term-term.ensures c.requires.sound.terms in
    subst (λ z. nat_abs z ≤ 16) (sym (word_read k.coef (omega (arith, small)))) small

pub returns-then-term-clause-next : goal.returns-then-term-clause-next
returns-then-term-clause-next g c = one_reach c.args.atom.now c.only_term-term.result.now _ (g.C.Cells.values c.args.second.now) c.cell.result
    c.above_limit-next.result c.only_term-term.ensures c.requires.sound c.cell.ensures.at c.cell.ensures.small c.above_limit-next.ensures.value
    c.above_limit-next.ensures.small

pub returns-clause-to : goal.returns-clause-to
returns-clause-to g c = one_reach c.args.atom.now c.only_term-term.result.now _ (g.C.Cells.values c.args.second.now) c.cell.result
    c.above_limit-next.result c.only_term-term.ensures c.requires.sound c.cell.ensures.at c.cell.ensures.small c.above_limit-next.ensures.value
    c.above_limit-next.ensures.small
    ∙ ap (λ x. x -ℤ c.args.atom.now.limit) (sym (one_of_ramps c.args.atom.now.terms.items c.only_term-term.result.now (g.C.Cells.values c.args.first.now)
    (g.C.Cells.values c.args.second.now) c.only_term-term.ensures c.if-term.false))

pub returns-clause-next : goal.returns-clause-next
returns-clause-next g c = one_reach c.args.atom.now c.only_term-term.result.now _ (g.C.Cells.values c.args.second.now) c.cell.result
    c.above_limit-next.result c.only_term-term.ensures c.requires.sound c.cell.ensures.at c.cell.ensures.small c.above_limit-next.ensures.value
    c.above_limit-next.ensures.small
