use Rattle.std.proofs.Common.{[], ◌++◌, append_assoc, refl, sym, subst, arith}
use Rattle.std.proofs.KnownBytes.{Appends-nil}
use Rattle.command_line.specs.Writing.{IsWritten}
use Rattle.command_line.proofs.output.write_left.Goals as goal

pub loop-so_far-init : goal.loop-so_far-init
loop-so_far-init g c = record {
  can = c.requires;
  so = ([], Appends-nil _, λ later left. left);
  cause = record { later = omega arith; failed = tt; still = refl };
}

pub loop-so_far-preserved : goal.loop-so_far-preserved
loop-so_far-preserved g c =
    let (text, wrote, on) = c.loop-so_far.invariant.so in
    let some = c.put_some-more.ensures in
    let room = c.put_some-more.new.room in
    record {
      can = some.goes_on c.if-not-more.false;
      so = (
        text ++ room,
        subst (λ w. IsWritten (g.K.Sink.written c.args.sink.now) (g.K.Sink.written c.write_on-so_far.new.sink) c.write_on-so_far.result (text ++ w))
            c.bytes.ensures (c.write_on-so_far.ensures.written (g.K.Sink.written c.args.sink.now) text wrote),
        λ later left. subst (g.L.LinesLeft.is_left c.args.left.now) (sym (append_assoc text room later)) (on (room ++ later) (some.more c.if-not-more.false later left)),
      );
      cause = c.write_on-so_far.ensures.cause (g.K.Sink.faults c.args.sink.now) c.loop-so_far.invariant.cause;
    }

pub loop-so_far-smaller : goal.loop-so_far-smaller
loop-so_far-smaller g c = c.put_some-more.ensures.fewer c.if-not-more.false

pub returns-then-not-more-clause-written : goal.returns-then-not-more-clause-written
returns-then-not-more-clause-written g c =
    let (text, wrote, on) = c.loop-so_far.invariant.so in
    let room = c.put_some-more.new.room in (
      text ++ room,
      on room (c.put_some-more.ensures.last c.if-not-more.true),
      subst (λ w. IsWritten (g.K.Sink.written c.args.sink.now) (g.K.Sink.written c.write_on-so_far.new.sink) c.write_on-so_far.result (text ++ w))
          c.bytes.ensures (c.write_on-so_far.ensures.written (g.K.Sink.written c.args.sink.now) text wrote),
    )

pub returns-then-not-more-clause-cause : goal.returns-then-not-more-clause-cause
returns-then-not-more-clause-cause g c = c.write_on-so_far.ensures.cause (g.K.Sink.faults c.args.sink.now) c.loop-so_far.invariant.cause
