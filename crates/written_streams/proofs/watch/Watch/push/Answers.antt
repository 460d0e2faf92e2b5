use Rattle.std.proofs.Common.{◌++◌, false, sym, subst}
use Rattle.trace_stream.specs.Streams.{verdicts}
use Rattle.trace_stream.specs.Following.{IsLive}
use Rattle.written_streams.specs.Watches.{Watched, StandsFor, WatchesRows, with_piece, with_text, HasPushed}
use Rattle.written_streams.proofs.WatchCalls.{push_written, has_pushed, call_stopped, fault_there}
use Rattle.written_streams.proofs.watch.Watch.push.Goals as goal

pub invariant_of-self : goal.invariant_of-self
invariant_of-self g c = λ reading.
    let (p, s) = c.self.invariant reading in
    let mid = c.feed-fed.new.self in
    let written = push_written c.self.inside.live mid c.args.piece.now c.self.inside.phase s c.feed-fed.ensures.formula c.feed-fed.ensures.limits
    c.in-Ok.ensures.written (c.feed-fed.ensures.taken p.bytes p.text s.live) in
    let pushed = has_pushed c.self.inside.live mid p c.args.piece.now c.self.inside.phase s c.feed-fed.ensures.formula
    c.feed-fed.ensures.limits c.write_made.new.live c.in-Ok.ensures.done reading written.1 in
    (with_text (with_piece p c.args.piece.now) mid.text, pushed.stands)

pub stopped-requires : goal.stopped-requires
stopped-requires g c =
    let (p, s) = c.self.invariant c.in_ok-allow.ensures in
    let mid = c.feed-fed.new.self in
    fault_there (g.K.Sink.written c.args.out.now) (g.K.Sink.written c.write_made.new.out) (with_piece p c.args.piece.now) false mid.text (Unit {0})
    (λ _. IsLive WatchesRows verdicts mid (p.bytes ++ c.args.piece.now) p.text) c.in-Err.halt
    (push_written c.self.inside.live mid c.args.piece.now c.self.inside.phase s c.feed-fed.ensures.formula c.feed-fed.ensures.limits
    c.in-Err.ensures.written (c.feed-fed.ensures.taken p.bytes p.text s.live))

pub returns-in-Ok-clause-pushed : goal.returns-in-Ok-clause-pushed
returns-in-Ok-clause-pushed g c = λ p stands.
    let s = subst (λ (w : Watched). StandsFor p w) (sym c.self.view_is) stands in
    let mid = c.feed-fed.new.self in
    let written = push_written c.self.inside.live mid c.args.piece.now c.self.inside.phase s c.feed-fed.ensures.formula c.feed-fed.ensures.limits
    c.in-Ok.ensures.written (c.feed-fed.ensures.taken p.bytes p.text s.live) in (
      mid.text,
      written.0,
      has_pushed c.self.inside.live mid p c.args.piece.now c.self.inside.phase s c.feed-fed.ensures.formula
          c.feed-fed.ensures.limits c.write_made.new.live c.in-Ok.ensures.done c.in_ok-allow.ensures written.1,
    )

pub returns-in-Err-clause-pushed : goal.returns-in-Err-clause-pushed
returns-in-Err-clause-pushed g c = λ p stands.
    let s = subst (λ (w : Watched). StandsFor p w) (sym c.self.view_is) stands in
    let mid = c.feed-fed.new.self in
    call_stopped (g.K.Sink.written c.args.out.now) (g.K.Sink.written c.write_made.new.out) (with_piece p c.args.piece.now) false mid.text (Unit {0})
    (λ _. IsLive WatchesRows verdicts mid (p.bytes ++ c.args.piece.now) p.text) (λ _ q. HasPushed q c.args.self.now) c.in-Err.halt c.stopped.result
    (push_written c.self.inside.live mid c.args.piece.now c.self.inside.phase s c.feed-fed.ensures.formula c.feed-fed.ensures.limits
    c.in-Err.ensures.written (c.feed-fed.ensures.taken p.bytes p.text s.live)) c.stopped.ensures.fault
