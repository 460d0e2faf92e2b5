use Rattle.std.proofs.lemmas.Result.{IfOk-weaker}
use Rattle.std.proofs.Common.{[], ◌++◌, sym, subst, append-nil, arith}
use Rattle.trace_stream.specs.Following.{Follows}
use Rattle.trace_stream.specs.Streams.{verdicts}
use Rattle.verdict_stream.specs.Watching.{WatchesRows}
use Rattle.verdict_stream.specs.declared.verdicts.Verdicts.{Verdicts}
use Rattle.verdict_stream.proofs.FollowedCases.{knows, settled, followed_waiting, keeps_made}
use Rattle.verdict_stream.proofs.verdicts.VerdictsFollow.flush.Goals as goal

pub returns-then-self-gt0 : goal.returns-then-self-gt0
returns-then-self-gt0 c = λ case made opened. (
  [],
  sym (append-nil c.args.text.now),
  subst (λ t. Follows (WatchesRows c.args.self.now) verdicts case t) (sym (append-nil made))
      (followed_waiting c.args.self.now case made opened (omega (arith, c.if-self-gt0.true))),
)

pub make_owed-requires : goal.make_owed-requires
make_owed-requires c =
    let (case, made, opened) = c.requires in
    (case, made, (settled c.args.self.now case made opened (λ x. (let y = x in omega (arith, y, c.if-self-gt0.false)))).opened)

pub returns : goal.returns
returns c = λ case made opened.
    let v = c.args.self.now in
    let s = settled v case made opened (λ x. (let y = x in omega (arith, y, c.if-self-gt0.false))) in
    IfOk-weaker c.make_owed.result _ _
    (λ u h.
    let (grown, is, follows) = h in
    let after : Verdicts = record v { watcher = c.make_owed.new.self } in
    (grown, is, keeps_made after case (made ++ grown) (knows v case made opened) s.none follows s.last))
    (c.make_owed.ensures case made s.opened)
