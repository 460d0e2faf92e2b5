use Rattle.std.proofs.Common.{◌≡◌, if◌then◌else◌, subst}
use Rattle.std.proofs.lemmas.Result.{on_ok_weaker, on_err_weaker}
use Rattle.frac128.specs.Value.{value}
use Rattle.frac128.specs.declared.frac.Frac.{Frac}
use Rattle.pl_signal.specs.declared.faults.OpFault.TheVariants as F
use Rattle.pl_signal.specs.Joining.{IsAllOver, IsGapFault, IsTurn}
use Rattle.pl_signal.specs.Knots.{stop}
use Rattle.pl_signal.proofs.Kept.{none_kept}
use Rattle.pl_signal.proofs.JoiningLemmas.{joins_alone, turns_over}
use Rattle.pl_signal.proofs.builder.Builder.join_kept.Goals as goal

pub returns-in-Ok-true-clause-ok : goal.returns-in-Ok-true-clause-ok
returns-in-Ok-true-clause-ok g c =
    let all = subst (λ s. IsAllOver g.P.Shape c.args.side c.args.p.now c.args.q.now s (value c.args.to.now) c.args.p.now) c.stop-from.ensures.value
    (subst (λ b. IsAllOver g.P.Shape c.args.side c.args.p.now c.args.q.now (value c.stop-from.result) (value c.args.to.now)
    (if b then c.args.p.now else c.args.q.now)) c.in-Ok-true.field-0-test c.in-Ok-true.ensures) in
    on_ok_weaker c.go_along.result
    (joins_alone g.P.Shape c.args.side c.args.self.now c.go_along.new.self c.args.p.now c.args.q.now c.args.p.now c.args.point.now c.args.to.now
    all.0 all.1) c.go_along.ensures.ok

pub returns-in-Ok-true-clause-still : goal.returns-in-Ok-true-clause-still
returns-in-Ok-true-clause-still g c = on_ok_weaker c.go_along.result (λ _. c.requires.none) c.go_along.ensures.ok

pub returns-in-Ok-true-clause-wide : goal.returns-in-Ok-true-clause-wide
returns-in-Ok-true-clause-wide g c =
    on_err_weaker c.go_along.result
    (λ _. none_kept (λ pair. (from : Frac) × (value from ≡ stop c.args.self.now)
    × IsGapFault g.P.Shape c.args.p.now c.args.q.now from c.args.to.now (F.Wide pair)) c.args.fault.now c.requires.none) c.go_along.ensures.err

pub returns-in-Ok-false-clause-ok : goal.returns-in-Ok-false-clause-ok
returns-in-Ok-false-clause-ok g c =
    let all = subst (λ s. IsAllOver g.P.Shape c.args.side c.args.p.now c.args.q.now s (value c.args.to.now) c.args.q.now) c.stop-from.ensures.value
    (subst (λ b. IsAllOver g.P.Shape c.args.side c.args.p.now c.args.q.now (value c.stop-from.result) (value c.args.to.now)
    (if b then c.args.p.now else c.args.q.now)) c.in-Ok-false.field-0-test c.in-Ok-false.ensures) in
    on_ok_weaker c.go_along-in-Ok-false.result
    (joins_alone g.P.Shape c.args.side c.args.self.now c.go_along-in-Ok-false.new.self c.args.p.now c.args.q.now c.args.q.now c.args.point.now c.args.to.now
    all.0 all.1) c.go_along-in-Ok-false.ensures.ok

pub returns-in-Ok-false-clause-still : goal.returns-in-Ok-false-clause-still
returns-in-Ok-false-clause-still g c = on_ok_weaker c.go_along-in-Ok-false.result (λ _. c.requires.none) c.go_along-in-Ok-false.ensures.ok

pub returns-in-Ok-false-clause-wide : goal.returns-in-Ok-false-clause-wide
returns-in-Ok-false-clause-wide g c =
    on_err_weaker c.go_along-in-Ok-false.result
    (λ _. none_kept (λ pair. (from : Frac) × (value from ≡ stop c.args.self.now)
    × IsGapFault g.P.Shape c.args.p.now c.args.q.now from c.args.to.now (F.Wide pair)) c.args.fault.now c.requires.none) c.go_along-in-Ok-false.ensures.err

pub join_crossing-requires-clause-turned : goal.join_crossing-requires-clause-turned
join_crossing-requires-clause-turned g c =
    turns_over g.P.Shape c.args.side c.args.p.now c.args.q.now (stop c.args.self.now) (value c.args.to.now) c.in-Err.first
    (subst (λ s. IsTurn g.P.Shape c.args.side c.args.p.now c.args.q.now s (value c.args.to.now) c.in-Err.first) c.stop-from.ensures.value c.in-Err.ensures)

pub returns-in-Err-clause-ok : goal.returns-in-Err-clause-ok
returns-in-Err-clause-ok g c = c.join_crossing.ensures.ok c.args.side
    (subst (λ s. IsTurn g.P.Shape c.args.side c.args.p.now c.args.q.now s (value c.args.to.now) c.in-Err.first) c.stop-from.ensures.value c.in-Err.ensures)
