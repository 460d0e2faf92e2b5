-- A time of a few digits.
use Rattle.std.proofs.Common.{take, arith}
use Rattle.trace_reader.proofs.PlainLemmas.{time_read}
use Rattle.trace_reader.proofs.plain.plain_time.Goals as goal

pub returns : goal.returns
returns c =
    let p = c.in_ok-number.ensures in
    let n = c.in_ok-number.number in
    record {
      plain = p.plain;
      read = time_read (take n.len c.args.text.now) c.args.most.now c.args.digits n.size p.read c.if-number-ge-BEYOND.false;
      fits = omega (arith, c.if-number-ge-BEYOND.false);
    }
