use Rattle.std.proofs.Common.{inl, subst, sym}
use Rattle.implicants.specs.Upward.{PutsRun}
use Rattle.implicants.proofs.GivenUp.{puts_fewer, puts_inserted, puts_set}
use Rattle.implicants.proofs.runs.put_run.Goals as goal

pub returns-then-is_held : goal.returns-then-is_held
returns-then-is_held c j r h = inl (j, h)

pub returns-then-is_covered : goal.returns-then-is_covered
returns-then-is_covered c = puts_fewer c.args.run c.args.runs.now.items _ c.take_out.new.runs.items
    (puts_set c.args.run c.place_for-at.result c.args.runs.now.items) c.take_out.ensures

pub returns-in-Ok : goal.returns-in-Ok
returns-in-Ok c = subst (PutsRun c.args.run c.args.runs.now.items) (sym c.in-Ok.ensures.items)
    (puts_inserted c.args.run c.place_for-at.result c.args.runs.now.items)
