use Rattle.std.proofs.Common.{◌≡◌, ◌<◌, [], length, drop, arith, codes}
use Rattle.std.proofs.lemmas.Result.{on_ok_weaker, on_err_weaker}
use Rattle.rational.proofs.Lists.{on_err_anyway}
use Rattle.answer_lines.specs.Appended.{Then, Is}
use Rattle.report.specs.JsonTexts.{IsItemEntry, AreLaterEntries, AreItemEntries}
use Rattle.answer_lines.proofs.Growths.{grew_is, grew_as, grew_then, part_none, part_as, part_then, part_first, some_then}
use Rattle.report.proofs.JsonItems.{ListParts, list_entries, later_exist, no_entries, list_exists}
use Rattle.answer_lines.proofs.Growths.{word_exists}
use Rattle.report.proofs.WritingItems.{atom_of_line}
use Rattle.report.proofs.json.put_item_entries.Goals as goal

pub returns-then-len-eq0-clause-ok : goal.returns-then-len-eq0-clause-ok
returns-then-len-eq0-clause-ok c =
    let none : length c.args.items.now ≡ 0 = omega (arith, c.len.ensures, c.if-len-eq0.true) in
    on_ok_weaker c.push.result (λ e. (codes "]", no_entries c.args.scale c.args.formula.now c.args.items.now none, e)) c.push.ensures.ok

pub returns-then-len-eq0-clause-err : goal.returns-then-len-eq0-clause-err
returns-then-len-eq0-clause-err c =
    on_err_weaker c.push.result
    (part_none (AreItemEntries c.args.scale c.args.formula.now c.args.items.now) c.args.text.now c.push.new.self
    (list_exists c.args.scale c.args.formula.now c.args.items.now c.requires.atoms)) c.push.ensures.err

pub put_item_entry-requires-clause-atom : goal.put_item_entry-requires-clause-atom
put_item_entry-requires-clause-atom c =
    let some : 0 < length c.args.items.now = omega (arith, c.len.ensures, c.if-len-eq0.false) in
    atom_of_line c.args.formula.now c.args.items.now 0 c.line_from-end.result.1 c.line_from-end.result.0 c.requires.atoms some c.line_from-end.ensures.line

pub returns-in_err-put_item_entry-clause-err : goal.returns-in_err-put_item_entry-clause-err
returns-in_err-put_item_entry-clause-err c =
    let s = c.args.scale in
    let f = c.args.formula.now in
    let items = c.args.items.now in
    let line = c.line_from-end.result.0 in
    let n = c.line_from-end.result.1 in
    let rest = drop n items in
    let tail = some_then (AreLaterEntries s f rest) (Is (codes "]")) (later_exist s f items n c.requires.atoms) (word_exists (codes "]")) in
    on_err_anyway _
    (part_as (ListParts s f line rest) (AreItemEntries s f items) c.args.text.now _ (λ w. list_entries s f items n line w c.line_from-end.ensures.line)
    (part_first (IsItemEntry [] s f line)
    (Then (AreLaterEntries s f rest) (Is (codes "]"))) c.args.text.now _ c.in_err-put_item_entry.ensures.err tail))

pub returns-in_err-put_later_items-clause-err : goal.returns-in_err-put_later_items-clause-err
returns-in_err-put_later_items-clause-err c =
    let s = c.args.scale in
    let f = c.args.formula.now in
    let items = c.args.items.now in
    let line = c.line_from-end.result.0 in
    let n = c.line_from-end.result.1 in
    let rest = drop n items in
    on_err_anyway _
    (part_as (ListParts s f line rest) (AreItemEntries s f items) c.args.text.now _ (λ w. list_entries s f items n line w c.line_from-end.ensures.line)
    (part_then (IsItemEntry [] s f line)
    (Then (AreLaterEntries s f rest) (Is (codes "]"))) c.args.text.now _ _ c.in_ok-put_item_entry.ensures.ok
    (part_first (AreLaterEntries s f rest) (Is (codes "]")) _ _ c.in_err-put_later_items.ensures.err (word_exists (codes "]")))))

pub returns-clause-ok : goal.returns-clause-ok
returns-clause-ok c =
    let s = c.args.scale in
    let f = c.args.formula.now in
    let items = c.args.items.now in
    let line = c.line_from-end.result.0 in
    let n = c.line_from-end.result.1 in
    let rest = drop n items in
    on_ok_weaker c.push-2.result
    (λ e. grew_as (ListParts s f line rest) (AreItemEntries s f items) c.args.text.now _ (λ w. list_entries s f items n line w c.line_from-end.ensures.line)
    (grew_then (IsItemEntry [] s f line)
    (Then (AreLaterEntries s f rest) (Is (codes "]"))) c.args.text.now _ _ c.in_ok-put_item_entry.ensures.ok
    (grew_then (AreLaterEntries s f rest) (Is (codes "]")) _ _ _ c.in_ok-put_later_items.ensures.ok (grew_is (codes "]") _ _ e)))) c.push-2.ensures.ok

pub returns-clause-err : goal.returns-clause-err
returns-clause-err c =
    let s = c.args.scale in
    let f = c.args.formula.now in
    let items = c.args.items.now in
    let line = c.line_from-end.result.0 in
    let n = c.line_from-end.result.1 in
    let rest = drop n items in
    on_err_weaker c.push-2.result
    (λ e. part_as (ListParts s f line rest) (AreItemEntries s f items) c.args.text.now _ (λ w. list_entries s f items n line w c.line_from-end.ensures.line)
    (part_then (IsItemEntry [] s f line)
    (Then (AreLaterEntries s f rest) (Is (codes "]"))) c.args.text.now _ _ c.in_ok-put_item_entry.ensures.ok
    (part_then (AreLaterEntries s f rest) (Is (codes "]")) _ _ _ c.in_ok-put_later_items.ensures.ok
    (part_none (Is (codes "]")) _ _ (word_exists (codes "]")) e)))) c.push-2.ensures.err
