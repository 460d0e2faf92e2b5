use Rattle.std.proofs.Common.{refl}
use Rattle.early_stream.proofs.EarlyFollows.{later_row, row_on, wide_row}
use Rattle.early_stream.proofs.deciding.Deciding.take_row.Goals as goal

pub feed-requires-clause-open : goal.feed-requires-clause-open
feed-requires-clause-open c = c.requires.2.stands.stands.is_ended

pub feed-requires-clause-width : goal.feed-requires-clause-width
feed-requires-clause-width c = let (case, made, k, t) = c.requires in wide_row c.args.self.now case k.stands c.args.row.now t.0

pub feed-requires-clause-later : goal.feed-requires-clause-later
feed-requires-clause-later c =
    let (case, made, k, t) = c.requires in
    later_row case.trace.rows c.args.row.now t.1 c.args.self.now.early.last k.stands.stands.last

pub returns : goal.returns
returns c = λ case made k t.
    let e = c.in-Ok.ensures in
    let st = c.in-Ok.ensures.stands case.trace.rows k.stands.stands in
    row_on c.args.self.now (record { early = c.feed.new.self; scale = c.args.self.now.scale; digits = c.self-1.given.0 }) case
    made k c.feed.ensures.same.nodes c.feed.ensures.same.header refl
    c.args.row.now c.args.text.now c.put_answer.new.text c.in-Ok.answer st.0 st.1 c.in_ok-put_answer.ensures
