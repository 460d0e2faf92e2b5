use Rattle.std.proofs.Common.{arith}
use Rattle.atom_lines.proofs.leg.leg_from.Goals as goal

pub returns-then-len-eq1-clause-leg : goal.returns-then-len-eq1-clause-leg
returns-then-len-eq1-clause-leg c = c.leg_over.ensures.leg c.args.bound.now c.args.node c.args.trace.now c.args.r c.args.last c.atom-atom.ensures.at
    c.atom-atom.ensures.sound.limit c.stay_of_one-stay.ensures

pub returns-then-len-eq1-clause-last : goal.returns-then-len-eq1-clause-last
returns-then-len-eq1-clause-last c = let h = c.stay_of_one-stay.ensures.within in omega (arith, h, c.leg_over.ensures.row)

pub returns-clause-leg : goal.returns-clause-leg
returns-clause-leg c = c.leg_over-2.ensures.leg c.args.bound.now c.args.node c.args.trace.now c.args.r c.args.last c.atom-atom.ensures.at
    c.atom-atom.ensures.sound.limit c.stay_from-stay.ensures

pub returns-clause-last : goal.returns-clause-last
returns-clause-last c = let h = c.stay_from-stay.ensures.within in omega (arith, h, c.leg_over-2.ensures.row)
