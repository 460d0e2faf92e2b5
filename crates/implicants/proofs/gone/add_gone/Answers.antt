use Rattle.std.proofs.Common.{refl, Some}
use Rattle.std.proofs.lemmas.Result.{on_ok_weaker}
use Rattle.implicants.specs.Upward.{IsGoneRun}
use Rattle.implicants.proofs.AddedRuns.{added_run}
use Rattle.implicants.proofs.gone.add_gone.Goals as goal

pub returns : goal.returns
returns c =
    let e = c.cell_at-cell.result in
    on_ok_weaker c.add.result
    (λ adds. added_run c.args.i (Some e.on) c.args.runs.now.items c.add.new.runs.items
    (IsGoneRun c.args.cells.now.all.items c.args.marks.now c.args.i c.args.best c.args.tried) adds
    (refl, c.args.j, e, c.cell_at-cell.ensures, c.if-cell-i.false, refl, c.if-not-is_gone.ensures refl)) c.add.ensures
