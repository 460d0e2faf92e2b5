use Rattle.std.proofs.Common.{◌≡◌, Some, inl, subst}
use Rattle.std.specs.Prelude.{slice_get}
use Rattle.implicants.proofs.AddedRuns.{short_pushed}
use Rattle.implicants.proofs.upward.add_gained.Goals as goal

pub loop-j-init : goal.loop-j-init
loop-j-init c j r h = inl h

pub loop-j-preserved : goal.loop-j-preserved
loop-j-preserved c = short_pushed c.args.k c.args.best c.args.x.now c.args.gained.now.items c.loop-j.gained.items c.add_touching.new.gained.items
    c.in_ok-pieces.pieces.items c.loop-j.j c.run_in-run.result
    (subst (λ rs. slice_get rs c.loop-j.j ≡ Some c.run_in-run.result) c.deref.ensures.value c.run_in-run.ensures)
    c.in_ok-pieces.ensures c.in_ok-add_touching.ensures c.loop-j.invariant
