use Rattle.std.proofs.Common.{◌++◌, ap, ◌∙◌, subst, append_assoc}
use Rattle.std.proofs.lemmas.Result.{IfOk-weaker}
use Rattle.trace_stream.specs.Cases.{with_row}
use Rattle.verdict_stream.proofs.FollowedCases.{IsOpened}
use Rattle.verdict_stream.proofs.watcher.Watcher.take_next.Goals as goal

pub make_room-requires : goal.make_room-requires
make_room-requires c = let (case, made, opened, t) = c.requires in (case, made, opened)

pub take_row-requires-clause-open : goal.take_row-requires-clause-open
take_row-requires-clause-open c =
    let (case, made, opened, t) = c.requires in
    let (grown, longer, now) = c.in_ok-make_room.ensures.open case made opened in
    (case, made ++ grown, now, t)

pub returns : goal.returns
returns c = λ case made opened t.
    let (first, longer, now) = c.in_ok-make_room.ensures.open case made opened in
    IfOk-weaker c.take_row.result _ _
    (λ u h.
    let (second, last, after) = h in (
      first ++ second,
      last ∙ ap (λ l. l ++ second) longer ∙ append_assoc c.args.text.now first second,
      subst (λ m. IsOpened c.take_row.new.self (with_row c.args.row.now case) m) (append_assoc made first second) after,
    ))
    (c.take_row.ensures case (made ++ first) now t)
