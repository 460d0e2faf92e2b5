use Rattle.std.proofs.Common.{◌<◌, ◌≤◌, length, arith}
use Rattle.rational.proofs.Lists.{on_err_anyway}
use Rattle.report.proofs.JsonItems.{entries_none, entries_more, entries_all, entries_part}
use Rattle.report.proofs.WritingItems.{atom_of_line}
use Rattle.report.proofs.json.put_later_items.Goals as goal

pub put_item_entry-requires-clause-atom : goal.put_item_entry-requires-clause-atom
put_item_entry-requires-clause-atom c =
    let inside : c.loop-i.i < length c.args.items.now = omega (arith, c.len.ensures, c.loop-i-test.true) in
    atom_of_line c.args.formula.now c.args.items.now c.loop-i.i c.line_from-end.result.1 c.line_from-end.result.0 c.requires.atoms inside
    c.line_from-end.ensures.line

pub loop-i-init : goal.loop-i-init
loop-i-init c = entries_none c.args.scale c.args.formula.now c.args.items.now c.args.from c.args.text.now c.requires.inside

pub loop-i-preserved : goal.loop-i-preserved
loop-i-preserved c =
    entries_more c.args.scale c.args.formula.now c.args.items.now c.args.from c.args.text.now c.loop-i.i c.line_from-end.result.1 c.loop-i.text
    c.put_item_entry.new.text
    c.line_from-end.result.0 c.loop-i.invariant c.line_from-end.ensures.within c.line_from-end.ensures.line c.in_ok-put_item_entry.ensures.ok

pub returns-in_err-put_item_entry-clause-err : goal.returns-in_err-put_item_entry-clause-err
returns-in_err-put_item_entry-clause-err c =
    on_err_anyway c.from_residual.result
    (entries_part c.args.scale c.args.formula.now c.args.items.now c.args.from c.args.text.now c.loop-i.i c.line_from-end.result.1 c.loop-i.text
    c.put_item_entry.new.text
    c.line_from-end.result.0 c.requires.atoms c.loop-i.invariant c.line_from-end.ensures.line c.in_err-put_item_entry.ensures.err)

pub returns-clause-ok : goal.returns-clause-ok
returns-clause-ok c =
    let none_left : length c.args.items.now ≤ c.loop-i.i = omega (arith, c.len.ensures, c.loop-i-test.false) in
    entries_all c.args.scale c.args.formula.now c.args.items.now c.args.from c.args.text.now c.loop-i.i c.loop-i.text c.loop-i.invariant none_left
