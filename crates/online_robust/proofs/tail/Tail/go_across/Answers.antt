use Rattle.std.proofs.Common.{sym, subst, ◌^◌}
use Rattle.std.proofs.lemmas.Result.{on_ok_weaker}
use Rattle.rational.specs.Rational.{IsWithin}
use Rattle.rational.proofs.Order.{le_of_lt, le_trans}
use Rattle.frac128.specs.Value.{value}
use Rattle.value_laws.specs.Kinds.{margin_shape}
use Rattle.pl_signal.proofs.JoiningLemmas.{turn_first, turn_second}
use Rattle.online_robust.proofs.TailLemmas.{joined_across}
use Rattle.online_robust.proofs.tail.Tail.go_across.Goals as goal

pub go_on-requires-then-first-clause-within : goal.go_on-requires-then-first-clause-within
go_on-requires-then-first-clause-within c =
    let meet = c.in_ok-middle.ensures.met in
    subst (λ r. IsWithin (2 ^ 34) (value r.at)) (sym c.in_ok-go_on.ensures.end)
    (le_trans c.requires.from_within.0 (le_of_lt meet.after), le_trans (le_of_lt meet.before) c.requires.to_within.1)

pub go_on-requires-3-clause-within : goal.go_on-requires-3-clause-within
go_on-requires-3-clause-within c =
    let meet = c.in_ok-middle.ensures.met in
    subst (λ r. IsWithin (2 ^ 34) (value r.at)) (sym c.in_ok-go_on-2.ensures.end)
    (le_trans c.requires.from_within.0 (le_of_lt meet.after), le_trans (le_of_lt meet.before) c.requires.to_within.1)

pub returns-then-first-clause-joined : goal.returns-then-first-clause-joined
returns-then-first-clause-joined c side turn =
    on_ok_weaker c.go_on-then-first.result
    (joined_across side c.args.p.now c.args.q.now c.args.point.now c.args.to.now
    (turn_first margin_shape side c.args.p.now c.args.q.now (value c.args.self.now.end.at) (value c.args.to.now) c.in_ok-middle.middle c.args.first
    c.if-first.true turn c.in_ok-middle.ensures.met) c.requires.edge c.in_ok-go_on.ensures)
    c.go_on-then-first.ensures

pub returns-clause-joined : goal.returns-clause-joined
returns-clause-joined c side turn =
    on_ok_weaker c.go_on-3.result
    (joined_across side c.args.p.now c.args.q.now c.args.point.now c.args.to.now
    (turn_second margin_shape side c.args.p.now c.args.q.now (value c.args.self.now.end.at) (value c.args.to.now) c.in_ok-middle.middle c.args.first
    c.if-first.false turn c.in_ok-middle.ensures.met) c.requires.edge c.in_ok-go_on-2.ensures)
    c.go_on-3.ensures
