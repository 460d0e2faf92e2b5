use Rattle.std.proofs.Common.{◌≡◌, ◌+◌, length, not, refl, sym, ap, subst, ◌∙◌, arith}
use Rattle.online_net.specs.Atoms.{HasPutAtoms}
use Rattle.online_net.proofs.AtomVerdicts.{none_at, none_not, put_more, put_skips}
use Rattle.online_net.proofs.atom.put_atoms.Goals as goal
use Rattle.online_net.proofs.atom.put_atoms.Goals.{then-is_none+in_ok-put_atom, else-is_none}

pub loop-i-init : goal.loop-i-init
loop-i-init c = record { atoms = λ j l e. absurd (omega (arith, l)); others = λ j n. refl; joins = λ j. refl; count = refl; start = refl }

pub put_atom-requires-clause-edge : goal.put_atom-requires-clause-edge
put_atom-requires-clause-edge c = omega (arith, c.requires.edges, c.loop-i.invariant.count, c.loop-i-test.true)

pub put_atom-requires-clause-atom : goal.put_atom-requires-clause-atom
put_atom-requires-clause-atom c =
    c.requires.atoms c.loop-i.i (none_at c.args.operators.now c.loop-i.i c.index-operators-i.result c.loop-i-test.true c.index-operators-i.is
    c.if-is_none.ensures)

pub loop-i-preserved : goal.loop-i-preserved
loop-i-preserved c =
    elim c.if-is_none.branch [
      | then-is_none+in_ok-put_atom w ↦ subst (λ e. HasPutAtoms c.args.bound.now c.args.before.now c.args.row.now c.args.operators.now (c.loop-i.i + 1)
          c.args.edges.now e) (sym w.edges-is)
          (put_more c.args.bound.now c.args.before.now c.args.row.now c.args.operators.now c.loop-i.i
          (none_at c.args.operators.now c.loop-i.i c.index-operators-i.result c.loop-i-test.true c.index-operators-i.is
          (c.is_none.ensures ∙ ap not w.if-is_none.true)) c.loop-i.invariant w.in_ok-put_atom.ensures)
      | else-is_none w ↦ subst (λ e. HasPutAtoms c.args.bound.now c.args.before.now c.args.row.now c.args.operators.now (c.loop-i.i + 1)
          c.args.edges.now e) (sym w.edges-is)
          (put_skips c.args.bound.now c.args.before.now c.args.row.now c.args.operators.now c.loop-i.i
          (none_not c.args.operators.now c.loop-i.i c.index-operators-i.result c.loop-i-test.true c.index-operators-i.is
          (c.is_none.ensures ∙ ap not w.if-is_none.false)) c.loop-i.invariant)
    ]

pub returns : goal.returns
returns c =
    subst (λ n. HasPutAtoms c.args.bound.now c.args.before.now c.args.row.now c.args.operators.now n c.args.edges.now c.loop-i.edges)
    (let e : c.loop-i.i ≡ length c.args.operators.now = (let a = c.loop-i.auto.i-end in let b = c.loop-i-test.false in omega (arith, a, b)) in e)
    c.loop-i.invariant
