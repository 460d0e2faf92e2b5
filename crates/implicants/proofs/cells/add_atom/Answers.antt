use Rattle.std.proofs.Common.{refl, arith}
use Rattle.std.proofs.lemmas.List.{length-map}
use Rattle.frac128.specs.Value.{value}
use Rattle.stl_syntax.specs.SupInf.{truth_setting}
use Rattle.implicants.specs.Cuts.{times_of}
use Rattle.implicants.proofs.TruthSignals.{node_told}
use Rattle.implicants.proofs.HandedDown.{some_cut}
use Rattle.implicants.proofs.cells.add_atom.Goals as goal

pub add_cells-requires-clause-many : goal.add_cells-requires-clause-many
add_cells-requires-clause-many c =
    let l = some_cut c.args.formula.now.nodes c.args.trace.now c.args.i (times_of c.args.times.now) c.requires.inside c.requires.cuts in
    let e = length-map c.args.times.now value in
    omega (arith, l, e)

pub add_cells-requires-clause-values : goal.add_cells-requires-clause-values
add_cells-requires-clause-values c =
    (c.told_have_values.ensures c.args.formula.now.nodes c.args.nodes.now (truth_setting c.args.trace.now)
    c.len.ensures.well_formed.nodes.post_order refl c.requires.told.told c.args.i c.requires.inside).0

pub add_cells-requires-clause-told : goal.add_cells-requires-clause-told
add_cells-requires-clause-told c =
    node_told c.args.formula.now.nodes c.args.trace.now c.args.nodes.now c.requires.told c.args.i c.requires.inside c.signal.result.now c.signal.ensures
