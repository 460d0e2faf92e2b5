use Rattle.std.proofs.Common.{if◌then◌else◌, subst}
use Rattle.std.proofs.lemmas.Result.{on_ok_weaker}
use Rattle.frac128.specs.Value.{value}
use Rattle.value_laws.specs.Kinds.{margin_shape}
use Rattle.pl_signal.specs.Joining.{IsAllOver}
use Rattle.pl_signal.proofs.JoiningLemmas.{turns_over}
use Rattle.online_robust.proofs.TailLemmas.{joined_along}
use Rattle.online_robust.proofs.tail.Tail.join.Goals as goal

pub returns-in-Ok-true-clause-joined : goal.returns-in-Ok-true-clause-joined
returns-in-Ok-true-clause-joined c =
    let all = subst (λ b. IsAllOver margin_shape c.args.side c.args.p.now c.args.q.now (value c.args.self.now.end.at) (value c.args.to.now)
    (if b then c.args.p.now else c.args.q.now)) c.in-Ok-true.field-0-test c.in-Ok-true.ensures in
    on_ok_weaker c.go_on.result
    (joined_along c.args.side c.args.p.now c.args.q.now c.args.point.now c.args.to.now c.args.p.now all.0 all.1) c.go_on.ensures

pub returns-in-Ok-false-clause-joined : goal.returns-in-Ok-false-clause-joined
returns-in-Ok-false-clause-joined c =
    let all = subst (λ b. IsAllOver margin_shape c.args.side c.args.p.now c.args.q.now (value c.args.self.now.end.at) (value c.args.to.now)
    (if b then c.args.p.now else c.args.q.now)) c.in-Ok-false.field-0-test c.in-Ok-false.ensures in
    on_ok_weaker c.go_on-in-Ok-false.result
    (joined_along c.args.side c.args.p.now c.args.q.now c.args.point.now c.args.to.now c.args.q.now all.0 all.1) c.go_on-in-Ok-false.ensures

pub go_across-requires-clause-turned : goal.go_across-requires-clause-turned
go_across-requires-clause-turned c =
    turns_over margin_shape c.args.side c.args.p.now c.args.q.now (value c.args.self.now.end.at) (value c.args.to.now) c.in-Err.first c.in-Err.ensures

pub returns-in-Err-clause-joined : goal.returns-in-Err-clause-joined
returns-in-Err-clause-joined c = c.go_across.ensures.joined c.args.side c.in-Err.ensures
