use Rattle.std.proofs.Common.{◌≡◌, subst, arith}
use Rattle.value_laws.specs.Kinds.{truth_shape}
use Rattle.implicants.specs.Signals.{AreTruthAtoms}
use Rattle.implicants.proofs.signals.atoms_of.Goals as goal

pub add_atom-requires : goal.add_atom-requires
add_atom-requires c = record {
  bound = c.requires.bound;
  some = c.requires.some;
  inside = let t = c.loop-i-test.true in let w = c.requires.within in omega (arith, t, w);
  before = c.loop-i.invariant;
}

pub loop-i-preserved : goal.loop-i-preserved
loop-i-preserved c = c.in_ok-add_atom.ensures

pub returns : goal.returns
returns c =
    let t = c.loop-i-test.false in
    let e = c.loop-i.auto.i-end in
    let all : c.loop-i.i ≡ c.args.count = omega (arith, t, e) in
    subst (λ k. AreTruthAtoms truth_shape c.args.formula.now.nodes c.args.trace.now k c.loop-i.atoms) all c.loop-i.invariant
