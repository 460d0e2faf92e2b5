-- Rows more of what is followed.
use Rattle.std.proofs.Common.{take}
use Rattle.trace_stream.proofs.RowsKept.{so_far}
use Rattle.trace_stream.proofs.OpenRows.{case_open, opened_by_none, opened_by_rows}
use Rattle.trace_stream.proofs.live.take_rows.Goals as goal

pub take_rows-requires : goal.take_rows-requires
take_rows-requires g c =
    let (f, case, bytes, made, k, t) = c.requires in
    let (of, is, t2) = case_open g.F.Follow.stands g.F.Follow.owes g.F.Follow.kind c.args.follower.now case made c.in-Some.follower c.in-Some.is t in
    (of, made, t2, so_far f c.args.rows.now case of bytes is k)

pub returns-in-None-clause-taken : goal.returns-in-None-clause-taken
returns-in-None-clause-taken g c = λ f case bytes made k t.
    opened_by_none g.F.Follow.stands g.F.Follow.owes g.F.Follow.kind f c.args.rows.now c.args.follower.now case bytes c.args.text.now made k t

pub returns-in_ok-take_rows-in-Some-clause-taken : goal.returns-in_ok-take_rows-in-Some-clause-taken
returns-in_ok-take_rows-in-Some-clause-taken g c = λ f case bytes made k t.
    let e = c.in_ok-take_rows-in-Some.ensures in
    let (of, is, t2) = case_open g.F.Follow.stands g.F.Follow.owes g.F.Follow.kind c.args.follower.now case made c.in-Some.follower c.in-Some.is t in
    opened_by_rows g.F.Follow.stands g.F.Follow.owes g.F.Follow.kind f c.args.rows.now c.take_rows.new.rows case of c.take_rows.new.self bytes
    (take c.in_ok-take_rows-in-Some.field-0 c.args.piece.now) c.args.text.now c.take_rows.new.text made is k
    (e.taken of made t2 (so_far f c.args.rows.now case of bytes is k)) e.kept.1 e.kept.2
