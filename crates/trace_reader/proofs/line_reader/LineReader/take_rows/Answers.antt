-- Rows that were added to the trace are rows that the reader takes.
use Rattle.std.proofs.Common.{◌<◌, ◌≤◌, ◌+◌, length, take, ap, arith, length-append}
use Rattle.stl_syntax.specs.Trace.{Trace}
use Rattle.trace_reader.specs.LineReader.{state}
use Rattle.trace_reader.specs.declared.line_reader.LineReader.{LineReader}
use Rattle.trace_reader.proofs.BlockTakes.{block_after, block_taken, block_within, block_kept, none_taken, so_far_later, so_far_columns}
use Rattle.trace_reader.proofs.line_reader.LineReader.take_rows.Goals as goal

pub take_rows-block-requires : goal.take_rows-block-requires
take_rows-block-requires c =
    let p = c.args.self.now in
    let h = c.in-Some.heading.now.heading in
    record {
      width = so_far_columns p.content.heading p.content.least h c.args.trace.now.header c.requires.so_far.header c.in-Some.ensures.0;
      later = so_far_later (state c.args.limits.now p) c.args.trace.now c.next_time.result c.requires.so_far c.next_time.ensures;
    }

pub returns-then-block-eq0-clause-rows : goal.returns-then-block-eq0-clause-rows
returns-then-block-eq0-clause-rows c =
    let (next, added) = c.take_rows-block.ensures.rows in
    none_taken (state c.args.limits.now c.args.self.now) c.args.trace.now c.take_rows-block.new.trace added.rows
    (omega (arith, added.count, c.if-block-eq0.true)) added.added

pub pass-requires : goal.pass-requires
pass-requires c = omega (arith, c.requires.within.lines, c.take_rows-block.ensures.few, c.rows_left-most.ensures.lines)

pub pass-requires-2 : goal.pass-requires-2
pass-requires-2 c =
    let (next, added) = c.take_rows-block.ensures.rows in
    let t = c.args.trace.now in
    let some : 0 < c.take_rows-block.result.rows = omega (arith, c.if-block-eq0.false) in
    let few = c.take_rows-block.ensures.few in
    let left = c.rows_left-most.ensures.rows (omega (arith, some, few)) in
    let rows = ap (λ (x : Trace). length x.rows) added.added in
    let header = ap (λ (x : Trace). length x.header.columns) added.added in
    record {
      count = omega (arith, left, few, c.requires.within.rows);
      some = omega (arith, rows, length-append t.rows added.rows, added.count, some);
      narrow = omega (
        arith,
        header,
        c.take_rows-block.ensures.narrow,
        so_far_columns c.args.self.now.content.heading c.args.self.now.content.least c.in-Some.heading.now.heading t.header c.requires.so_far.header
            c.in-Some.ensures.0,
      );
    }

pub returns : goal.returns
returns c =
    let limits = c.args.limits.now in
    let p = c.args.self.now in
    let h = c.in-Some.heading.now in
    let t = c.args.trace.now in
    let u = c.take_rows-block.new.trace in
    let n = c.take_rows-block.result.rows in
    let bytes = take c.take_rows-block.result.bytes c.args.piece.now in
    let (next, added) = c.take_rows-block.ensures.rows in
    let from = c.next_time.result in
    let some : 0 < n = omega (arith, c.if-block-eq0.false) in
    let few = c.take_rows-block.ensures.few in
    let left = c.rows_left-most.ensures in
    let any : 0 < c.rows_left-most.result = omega (arith, some, few) in
    let between = left.between any in
    let lines : p.lines.begun + length added.rows ≤ limits.lines = omega (arith, added.count, few, left.lines) in
    let rows : p.content.count + length added.rows ≤ limits.rows = omega (arith, added.count, few, left.rows any) in
    let a = block_after limits p h c.requires.within between c.in-Some.ensures.0 c.in-Some.ensures.1 from c.next_time.ensures added.read lines rows in
    let q : LineReader = record { lines = c.pass.new.self; content = c.pass-2.new.self } in
    record {
      size = c.take_rows-block.ensures.size;
      rows = block_taken limits p q h from next t u n bytes added a some c.pass.ensures between c.pass-2.ensures;
      within = block_within limits p q h from next t u n bytes added a some c.pass.ensures between c.pass-2.ensures;
      kept = block_kept limits p q h from next t u n bytes added a some c.pass.ensures between c.pass-2.ensures;
    }
