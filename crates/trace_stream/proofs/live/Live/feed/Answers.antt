use Rattle.std.proofs.Common.{false, ◌++◌, subst}
use Rattle.trace_stream.specs.declared.fault.StreamStop.{StreamStop}
use Rattle.trace_stream.specs.Following.{IsOpenStop}
use Rattle.trace_stream.proofs.ReaderSteps.{live_open, flushed, fault_flushed}
use Rattle.trace_stream.proofs.live.Live.feed.Goals as goal

pub take_piece-requires : goal.take_piece-requires
take_piece-requires g c = record {
  bytes = c.requires.bytes;
  written = c.requires.written;
  is = live_open g.F.Follow.stands g.F.Follow.owes g.F.Follow.kind c.args.self.now c.requires.bytes c.requires.written c.requires.is;
}

pub flush-requires : goal.flush-requires
flush-requires g c =
    let k = c.in-Ok.ensures.taken c.requires.bytes c.requires.written
    (live_open g.F.Follow.stands g.F.Follow.owes g.F.Follow.kind c.args.self.now c.requires.bytes c.requires.written c.requires.is) in
    (k.case, c.requires.written ++ c.take_piece.new.self.text, k.followed)

pub returns-in-Ok-clause-taken : goal.returns-in-Ok-clause-taken
returns-in-Ok-clause-taken g c = λ bytes written k.
    let k2 = c.in-Ok.ensures.taken bytes written (live_open g.F.Follow.stands g.F.Follow.owes g.F.Follow.kind c.args.self.now bytes written k) in
    flushed g.F.Follow.stands g.F.Follow.owes g.F.Follow.kind c.args.self.now.rows.limits c.args.self.now.formula
    c.take_piece.new.self (bytes ++ c.args.piece.now) written
    c.flush.new.text c.flush.new.follower c.flush.result k2 (c.flush.ensures.ok k2.case (written ++ c.take_piece.new.self.text) k2.followed) c.flush.ensures.err

pub flush-requires-in-Err-Fault : goal.flush-requires-in-Err-Fault
flush-requires-in-Err-Fault g c =
    let mid = c.take_piece.new.self in
    let k = subst (λ (s : StreamStop). IsOpenStop g.F.Follow.stands g.F.Follow.owes g.F.Follow.kind c.args.self.now.rows.limits c.args.self.now.formula false
    (c.requires.bytes ++ c.args.piece.now) mid.follower (c.requires.written ++ mid.text) s) c.in-Err-Fault.field-0-is
    (c.in-Err-Fault.ensures.taken c.requires.bytes c.requires.written
    (live_open g.F.Follow.stands g.F.Follow.owes g.F.Follow.kind c.args.self.now c.requires.bytes c.requires.written c.requires.is)) in
    (k.3, c.requires.written ++ mid.text, k.4)

pub returns-in_ok-flush-in-Err-Fault-clause-taken : goal.returns-in_ok-flush-in-Err-Fault-clause-taken
returns-in_ok-flush-in-Err-Fault-clause-taken g c = λ bytes written live.
    let mid = c.take_piece.new.self in
    let k = subst (λ (s : StreamStop). IsOpenStop g.F.Follow.stands g.F.Follow.owes g.F.Follow.kind c.args.self.now.rows.limits c.args.self.now.formula false
    (bytes ++ c.args.piece.now) mid.follower (written ++ mid.text) s) c.in-Err-Fault.field-0-is
    (c.in-Err-Fault.ensures.taken bytes written (live_open g.F.Follow.stands g.F.Follow.owes g.F.Follow.kind c.args.self.now bytes written live)) in
    fault_flushed g.F.Follow.stands g.F.Follow.owes g.F.Follow.kind c.args.self.now.rows.limits c.args.self.now.formula false
    (bytes ++ c.args.piece.now) written mid.text
    c.flush-in-Err-Fault.new.text mid.follower c.flush-in-Err-Fault.new.follower c.in-Err-Fault.fault k
    (c.in_ok-flush-in-Err-Fault.ensures.ok k.3 (written ++ mid.text) k.4)

pub returns-in-Err-Wide-clause-taken : goal.returns-in-Err-Wide-clause-taken
returns-in-Err-Wide-clause-taken g c = λ bytes written live.
    let mid = c.take_piece.new.self in
    subst (λ (s : StreamStop). IsOpenStop g.F.Follow.stands g.F.Follow.owes g.F.Follow.kind c.args.self.now.rows.limits c.args.self.now.formula false
    (bytes ++ c.args.piece.now) mid.follower (written ++ mid.text) s) c.in-Err-Wide.field-0-is
    (c.in-Err-Wide.ensures.taken bytes written (live_open g.F.Follow.stands g.F.Follow.owes g.F.Follow.kind c.args.self.now bytes written live))
