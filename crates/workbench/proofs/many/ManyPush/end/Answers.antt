use Rattle.std.proofs.Common.{true, Result, Ok, Err, subst}
use Rattle.std.specs.Prelude.{MatchResult}
use Rattle.session_mux.specs.Taking.{HasAll}
use Rattle.workbench.specs.Requests.{sessions}
use Rattle.workbench.specs.Pushing.{IsPush, IsFinished}
use Rattle.workbench.specs.declared.fault.Stop.{Stop}
use Rattle.workbench.proofs.ManyLines.{many_ended}
use Rattle.workbench.proofs.many.ManyPush.end.Goals as goal

pub finish-finished-requires : goal.finish-finished-requires
finish-finished-requires g c =
    let (bytes, text, p) = c.requires in
    record { formula = c.args.self.now.formula; bytes = bytes; written = text; is = p.stands.taking }

pub returns-in-Ok-clause-ended : goal.returns-in-Ok-clause-ended
returns-in-Ok-clause-ended g c = λ bytes text p.
    let f = c.args.self.now.formula in
    let mux = c.write_made.new.input.mux in
    let held = g.K.Sink.written c.args.out.now in
    let after = g.K.Sink.written c.write_made.new.out in
    subst (λ (r : Result (Unit {0}) Stop).
    MatchResult r (λ _. IsPush (sessions f) held after bytes true text (IsFinished (HasAll f mux) (sessions f) bytes) (Ok true))
    (λ e. IsPush (sessions f) held after bytes true text (IsFinished (HasAll f mux) (sessions f) bytes) (Err e))) c.in-Ok.is
    (many_ended f c.finish-finished.new.self c.write_made.new.input held after bytes text p.owed c.finish-finished.result c.write_made.result
    c.write_made.ensures.written
    (c.finish-finished.ensures f bytes text p.stands.taking) c.write_made.ensures.done)

pub returns-in-Err-clause-ended : goal.returns-in-Err-clause-ended
returns-in-Err-clause-ended g c = λ bytes text p.
    let f = c.args.self.now.formula in
    let mux = c.write_made.new.input.mux in
    let held = g.K.Sink.written c.args.out.now in
    let after = g.K.Sink.written c.write_made.new.out in
    subst (λ (r : Result (Unit {0}) Stop).
    MatchResult r (λ _. IsPush (sessions f) held after bytes true text (IsFinished (HasAll f mux) (sessions f) bytes) (Ok true))
    (λ e. IsPush (sessions f) held after bytes true text (IsFinished (HasAll f mux) (sessions f) bytes) (Err e))) c.in-Err.is
    (many_ended f c.finish-finished.new.self c.write_made.new.input held after bytes text p.owed c.finish-finished.result c.write_made.result
    c.write_made.ensures.written
    (c.finish-finished.ensures f bytes text p.stands.taking) c.write_made.ensures.done)
