use Rattle.std.proofs.Common.{◌≡◌, length, subst, arith}
use Rattle.value_laws.specs.Kinds.{kleene_shape}
use Rattle.implicants.specs.Keeping.{remaining}
use Rattle.implicants.specs.Certainty.{AreAtomCertainties}
use Rattle.implicants.proofs.certainty.atoms_of.Goals as goal

pub add_atom-requires : goal.add_atom-requires
add_atom-requires c = record {
  given = c.requires;
  inside = let t = c.loop-i-test.true in let n = c.len-i-end.ensures.count in omega (arith, t, n);
  before = c.loop-i.invariant;
}

pub loop-i-preserved : goal.loop-i-preserved
loop-i-preserved c = c.in_ok-add_atom.ensures

pub returns : goal.returns
returns c =
    let items = remaining c.args.left c.args.kept.now c.args.cells.now.all.items in
    let t = c.loop-i-test.false in
    let e = c.loop-i.auto.i-end in
    let n = c.len-i-end.ensures.count in
    let all : c.loop-i.i ≡ length c.args.formula.now.nodes = omega (arith, t, e, n) in
    subst (λ k. AreAtomCertainties kleene_shape c.args.formula.now.nodes c.args.trace.now items k c.loop-i.atoms) all c.loop-i.invariant
