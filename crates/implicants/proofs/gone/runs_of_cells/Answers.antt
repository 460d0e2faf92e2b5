use Rattle.std.proofs.Common.{◌≡◌, ◌∷◌, [], Some, ap, arith, length, length-append, subst, sym}
use Rattle.std.specs.Prelude.{slice_get}
use Rattle.implicants.specs.Upward.{AreLostEach}
use Rattle.implicants.proofs.GivenUp.{lost_pushed}
use Rattle.implicants.proofs.AddedRuns.{no_run}
use Rattle.implicants.proofs.gone.runs_of_cells.Goals as goal

pub loop-i-init : goal.loop-i-init
loop-i-init c = record {
  count = ap length c.new-each.ensures.items;
  lost = λ k v at. absurd (no_run k v (subst (λ l. slice_get l k ≡ Some v) c.new-each.ensures.items at));
}

pub loop-i-preserved : goal.loop-i-preserved
loop-i-preserved c =
    let nodes = c.args.formula.now.nodes in
    let tr = c.args.trace.now in
    let all = c.args.cells.now.all.items in
    let xs = c.loop-i.each.items in
    let x = c.in_ok-runs.runs in
    let more = c.in_ok-add_list.ensures in
    record {
      count = let e = length-append xs (x ∷ []) in let f = c.loop-i.invariant.count in let g = ap length more in omega (arith, e, f, g);
      lost = subst (AreLostEach nodes tr all c.args.marks.now (length all) c.args.signs.now) (sym more)
          (lost_pushed nodes tr all c.args.marks.now (length all) c.args.signs.now xs x c.loop-i.invariant.lost c.in_ok-runs.ensures);
    }

pub returns-clause-lost : goal.returns-clause-lost
returns-clause-lost c = c.loop-i.invariant.lost
