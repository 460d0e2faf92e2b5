-- A number with a point or without.
use Rattle.std.proofs.Common.{◌≡◌, length, take, arith, subst, sym}
use Rattle.std.proofs.lemmas.List.{length-take-le}
use Rattle.trace_reader.specs.Plain.{IsTicks}
use Rattle.trace_reader.proofs.PlainLemmas.{whole_ticks, digits_plain}
use Rattle.trace_reader.proofs.plain.plain_number.Goals as goal

pub returns : goal.returns
returns c =
    let text = c.args.text.now in
    let d = c.requires.whole in
    let len = c.args.whole.len in
    let n : length (take len text) ≡ len = length-take-le len text (omega (arith, d.few, c.requires.room)) in
    record {
      plain = record {
        some = d.some;
        goes_on = omega (arith, d.few, c.requires.room);
        short = omega (arith, d.few);
        bytes = digits_plain (take len text) d.digits;
      };
      short = omega (arith, d.few);
      read = subst (IsTicks c.args.most.now c.args.digits (take len text)) (sym c.scaled.ensures)
          (whole_ticks (take len text) c.args.most.now c.args.digits c.args.whole.value (omega (arith, n, d.some)) d.digits d.value);
    }
