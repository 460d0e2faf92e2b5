use Rattle.std.proofs.Common.{true, refl}
use Rattle.rational.proofs.Order.{same_refl}
use Rattle.stl_syntax.specs.Trace.{row_time}
use Rattle.early_verdict.specs.Adding.{AfterRow, before_row}
use Rattle.early_verdict.specs.BlockRows.{own_row, previous_row}
use Rattle.frac128.specs.Cuts.{place}
use Rattle.frac128.proofs.Wholes.{same_at_tick}
use Rattle.early_verdict.proofs.AtomSets.{atom_fits, atom_shown, atom_stepped, grown_of, grown_then, near_of}
use Rattle.early_verdict.proofs.TurningLemmas.{adds_row}
use Rattle.early_verdict.proofs.atoms.step_atom.Goals as goal

pub returns-clause-stepped : goal.returns-clause-stepped
returns-clause-stepped c =
    atom_stepped c.args.own.now c.rest.new.own c.add_truth.new.own c.rest.ensures
    (grown_then c.in_ok-pending.ensures.grown (grown_of c.in_ok-add_truth.ensures))

pub returns-clause-shown : goal.returns-clause-shown
returns-clause-shown c =
    atom_shown c.args.own.now c.rest.new.own c.add_truth.new.own c.rest.ensures
    (grown_then c.in_ok-pending.ensures.grown (grown_of c.in_ok-add_truth.ensures))

pub returns-clause-fits : goal.returns-clause-fits
returns-clause-fits c a old tr for next from w =
    let r = own_row c.args.next.now in
    let before = previous_row c.args.next.now in
    let holds = c.in_ok-pending.pending.holds in
    let to = c.after_tick.result in
    let ends = same_at_tick to c.time.result r.time true c.time.ensures c.after_tick.ensures in
    atom_fits a tr before r holds (before_row r) (place to) (same_refl (row_time r), refl) ends
    (λ t same. c.in_ok-pending.ensures.holds a tr t for next.stands same)
    old c.args.own.now c.rest.new.own c.add_truth.new.own next from w c.rest.ensures
    (adds_row c.rest.new.own c.up_to_row.new.own c.add_truth.new.own c.in_ok-pending.pending holds r to (AfterRow a tr before r)
    refl ends (c.in_ok-pending.ensures.added a tr for (near_of a old tr before r next)) c.in_ok-add_truth.ensures)
