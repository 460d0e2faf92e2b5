use Rattle.std.proofs.Common.{◌++◌, Bool, true, Ok, Err, refl, sym, subst}
use Rattle.trace_stream.specs.Streams.{verdicts}
use Rattle.trace_stream.specs.Following.{IsOver}
use Rattle.written_streams.specs.Watches.{Watched, StandsFor, WatchesEnd, HasPushed}
use Rattle.written_streams.specs.declared.watch.Phase.TheVariants.{Ended}
use Rattle.written_streams.proofs.WatchCalls.{end_written, has_finished, call_stopped, fault_there}
use Rattle.written_streams.proofs.watch.Watch.end.Goals as goal

pub stopped-requires : goal.stopped-requires
stopped-requires g c =
    let (p, s) = c.self.invariant c.in_ok-allow.ensures in
    let mid = c.finish-finished.new.self in
    fault_there (g.K.Sink.written c.args.out.now) (g.K.Sink.written c.write_made.new.out) p true mid.text Bool
    (IsOver WatchesEnd verdicts p.limits p.formula mid p.bytes (p.text ++ mid.text)) c.in-Err.halt
    (end_written (g.K.Sink.written c.args.out.now)
    (g.K.Sink.written c.write_made.new.out) c.self.inside.live mid p c.self.inside.phase s c.finish-finished.ensures.formula
    c.finish-finished.result (Err c.in-Err.halt) c.in-Err.ensures.written (c.finish-finished.ensures.over p.bytes p.text s.live))

pub returns-in-Ok-clause-ended : goal.returns-in-Ok-clause-ended
returns-in-Ok-clause-ended g c = λ p stands.
    let s = subst (λ (w : Watched). StandsFor p w) (sym c.self.view_is) stands in
    let mid = c.finish-finished.new.self in
    let written = end_written (g.K.Sink.written c.args.out.now)
    (g.K.Sink.written c.write_made.new.out) c.self.inside.live mid p c.self.inside.phase s c.finish-finished.ensures.formula
    c.finish-finished.result (Ok c.in-Ok.holds) c.in-Ok.ensures.written (c.finish-finished.ensures.over p.bytes p.text s.live) in (
      mid.text,
      written.0,
      has_finished c.self.inside.live mid p c.self.inside.phase s c.finish-finished.ensures.formula c.write_made.new.live Ended
          c.in-Ok.holds c.in-Ok.ensures.done refl written.1,
    )

pub returns-in-Err-clause-ended : goal.returns-in-Err-clause-ended
returns-in-Err-clause-ended g c = λ p stands.
    let s = subst (λ (w : Watched). StandsFor p w) (sym c.self.view_is) stands in
    let mid = c.finish-finished.new.self in
    call_stopped (g.K.Sink.written c.args.out.now) (g.K.Sink.written c.write_made.new.out) p true mid.text Bool
    (IsOver WatchesEnd verdicts p.limits p.formula mid p.bytes (p.text ++ mid.text)) (λ _ q. HasPushed q c.args.self.now) c.in-Err.halt c.stopped.result
    (end_written (g.K.Sink.written c.args.out.now)
    (g.K.Sink.written c.write_made.new.out) c.self.inside.live mid p c.self.inside.phase s c.finish-finished.ensures.formula
    c.finish-finished.result (Err c.in-Err.halt) c.in-Err.ensures.written (c.finish-finished.ensures.over p.bytes p.text s.live)) c.stopped.ensures.fault
