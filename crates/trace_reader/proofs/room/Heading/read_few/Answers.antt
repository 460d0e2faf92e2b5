-- A row of plain numbers that a piece of a few bytes begins with.
use Rattle.std.proofs.Common.{◌≡◌, ◌≤◌, length, take, sym, ap, ◌∙◌, arith}
use Rattle.std.proofs.lemmas.List.{take-take}
use Rattle.trace_reader.proofs.room.Heading.read_few.Goals as goal

pub returns : goal.returns
returns c =
    let p = c.in_ok-size.ensures in
    let n = c.in_ok-size.size in
    let piece = c.args.piece.now in
    let within : n ≤ length piece = omega (arith, c.if-size-piece.false) in
    let front : take n piece ≡ take n c.padded_few-room.result =
    ap (take n) (sym c.padded_few-room.ensures) ∙ take-take n (length piece) c.padded_few-room.result within in
    record {
      line = p.line;
      whole = record {
        taken = front ∙ p.whole.taken;
        within = within;
        free = p.whole.free;
        short = p.whole.short;
      };
      solid = p.solid;
      read = p.read;
    }
