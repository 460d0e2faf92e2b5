use Rattle.std.proofs.Common.{[], length, sym, ap, subst, append-nil, inl, arith}
use Rattle.std.proofs.lemmas.Result.{IfOk-weaker}
use Rattle.verdict_stream.proofs.FollowedCases.{IsOpened}
use Rattle.verdict_stream.proofs.watcher.Watcher.make_room.Goals as goal

pub returns-then-len-lt-MOST_ROWS-clause-open : goal.returns-then-len-lt-MOST_ROWS-clause-open
returns-then-len-lt-MOST_ROWS-clause-open c = λ case made opened.
    ([], sym (append-nil c.args.text.now), subst (λ m. IsOpened c.args.self.now case m) (sym (append-nil made)) opened)

pub returns-clause-open : goal.returns-clause-open
returns-clause-open c = λ case made opened.
    IfOk-weaker c.make_owed.result _ _ (λ u h. let (grown, is, follows) = h in (grown, is, inl follows)) (c.make_owed.ensures case made opened)

pub returns-clause-room : goal.returns-clause-room
returns-clause-room c =
    let (case, made, opened) = c.requires in
    IfOk-weaker c.make_owed.result _ _ (λ u h. let (grown, is, follows) = h in omega (arith, ap length follows.stands.no_times))
    (c.make_owed.ensures case made opened)
