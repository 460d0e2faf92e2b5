use Rattle.std.proofs.Common.{rules, ◌≡◌, ◌++◌, ◌∷◌, [], length, arith}
use Rattle.implicants.proofs.AtomCells.{below_step, below_all}
use Rattle.implicants.proofs.cells.all_cells.Goals as goal

pub loop-i-preserved : goal.loop-i-preserved
loop-i-preserved c =
    let grew : c.push.new.self.items ≡ c.loop-i.ends.items ++ length c.add_atom.new.items.items ∷ [] = search rules in
    below_step c.args.formula.now.nodes c.args.trace.now c.loop-i.i c.loop-i.items.items c.add_atom.new.items.items c.loop-i.ends.items c.push.new.self.items
    (let l = c.loop-i-test.true in let n = c.len-len.ensures.count in omega (arith, l, n)) c.in_ok-add_atom.ensures grew c.loop-i.invariant

pub returns : goal.returns
returns c =
    below_all c.args.formula.now.nodes c.args.trace.now c.loop-i.i c.loop-i.items.items c.loop-i.ends.items
    (let l = c.loop-i-test.false in let m = c.loop-i.auto.i-end in let n = c.len-len.ensures.count in omega (arith, l, m, n)) c.loop-i.invariant

pub add_atom-requires-clause-inside : goal.add_atom-requires-clause-inside
add_atom-requires-clause-inside c = let t = c.loop-i-test.true in let n = c.len-len.ensures.count in omega (arith, t, n)

pub add_atom-requires-clause-some : goal.add_atom-requires-clause-some
add_atom-requires-clause-some c = c.requires.some

pub add_atom-requires-clause-told : goal.add_atom-requires-clause-told
add_atom-requires-clause-told c = c.requires.told
