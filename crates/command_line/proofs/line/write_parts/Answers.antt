use Rattle.std.proofs.Common.{◌++◌, List, ℕ}
use Rattle.answer_lines.specs.Lines.{number_text, detail_text}
use Rattle.answer_lines.specs.declared.line.Line.{Line}
use Rattle.command_line.proofs.Devices.{part_err, part_more, part_on, written_on}
use Rattle.command_line.proofs.line.write_parts.Goals as goal

-- what follows the middle, the number and the head
after_middle : Line → List ℕ
after_middle l = detail_text l.detail ++ l.tail.now

after_number : Line → List ℕ
after_number l = l.middle.now ++ (detail_text l.detail ++ l.tail.now)

after_head : Line → List ℕ
after_head l = number_text l.number ++ (l.middle.now ++ (detail_text l.detail ++ l.tail.now))

pub returns-in_err-write_all-clause-written : goal.returns-in_err-write_all-clause-written
unfolding after_head
returns-in_err-write_all-clause-written g c =
    let l = c.args.line.now in
    part_err _ _ _ c.from_residual.result c.from_residual.ensures.0 (part_more _ _ l.head.now (after_head l) c.in_err-write_all.ensures.written)

pub returns-in_err-write_some-clause-written : goal.returns-in_err-write_some-clause-written
unfolding after_head after_number
returns-in_err-write_some-clause-written g c =
    let l = c.args.line.now in
    part_err _ _ _ c.from_residual-in_err-write_some.result c.from_residual-in_err-write_some.ensures.0
    (part_on _ _ _ l.head.now (after_head l) c.in_ok-write_all.ensures.written
    (part_more _ _ (number_text l.number) (after_number l) c.in_err-write_some.ensures.written))

pub returns-in_err-write_all-2-clause-written : goal.returns-in_err-write_all-2-clause-written
unfolding after_head after_number after_middle
returns-in_err-write_all-2-clause-written g c =
    let l = c.args.line.now in
    part_err _ _ _ c.from_residual-in_err-write_all-2.result c.from_residual-in_err-write_all-2.ensures.0
    (part_on _ _ _ l.head.now (after_head l) c.in_ok-write_all.ensures.written
    (part_on _ _ _ (number_text l.number) (after_number l) c.in_ok-write_some.ensures.written
    (part_more _ _ l.middle.now (after_middle l) c.in_err-write_all-2.ensures.written)))

pub returns-in_err-write_detail-clause-written : goal.returns-in_err-write_detail-clause-written
unfolding after_head after_number after_middle
returns-in_err-write_detail-clause-written g c =
    let l = c.args.line.now in
    part_err _ _ _ c.from_residual-in_err-write_detail.result c.from_residual-in_err-write_detail.ensures.0
    (part_on _ _ _ l.head.now (after_head l) c.in_ok-write_all.ensures.written
    (part_on _ _ _ (number_text l.number) (after_number l) c.in_ok-write_some.ensures.written
    (part_on _ _ _ l.middle.now (after_middle l) c.in_ok-write_all-2.ensures.written
    (part_more _ _ (detail_text l.detail) l.tail.now c.in_err-write_detail.ensures.written))))

pub returns-clause-written : goal.returns-clause-written
unfolding after_head after_number after_middle
returns-clause-written g c =
    let l = c.args.line.now in
    let r = c.write_all-3.result in
    written_on _ _ _ l.head.now (after_head l) r c.in_ok-write_all.ensures.written
    (written_on _ _ _ (number_text l.number) (after_number l) r c.in_ok-write_some.ensures.written
    (written_on _ _ _ l.middle.now (after_middle l) r c.in_ok-write_all-2.ensures.written
    (written_on _ _ _ (detail_text l.detail) l.tail.now r c.in_ok-write_detail.ensures.written c.write_all-3.ensures.written)))
