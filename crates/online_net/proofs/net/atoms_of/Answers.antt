use Rattle.std.proofs.Common.{◌≤◌, length, sym, subst, arith}
use Rattle.online_net.proofs.AtomLists.{AreAtomsTo, none_listed, all_listed}
use Rattle.online_net.proofs.net.atoms_of.Goals as goal

pub loop-i-init : goal.loop-i-init
loop-i-init c = subst (λ l. AreAtomsTo 0 l c.args.operators.now) (sym c.new-atoms.ensures.items) (none_listed c.args.operators.now)

pub returns : goal.returns
returns c =
    let past : length c.args.operators.now ≤ c.loop-i.i = omega (arith, c.loop-i-test.false) in
    all_listed c.loop-i.i c.loop-i.atoms.items c.args.operators.now c.loop-i.invariant past
