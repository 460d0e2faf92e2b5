-- A block of rows, behind the last row that was taken.
use Rattle.std.proofs.Common.{inl, ◌<◌, List, length, sym, subst, arith}
use Rattle.stl_syntax.specs.Trace.{Row}
use Rattle.trace_stream.specs.Streams.{verdicts}
use Rattle.trace_stream.specs.Following.{IsOpenOn}
use Rattle.trace_stream.specs.Kept.{with_rows}
use Rattle.trace_stream.proofs.OpenRows.{open_by_none}
use Rattle.verdict_stream.specs.Watching.{WatchesRows, WatchesOwing}
use Rattle.verdict_stream.proofs.FollowedCases.{knows, more_read, read_so_far}
use Rattle.verdict_stream.proofs.verdicts.VerdictsFollow.take_rows.Goals as goal

pub returns-then-rows-eq0-clause-taken : goal.returns-then-rows-eq0-clause-taken
returns-then-rows-eq0-clause-taken c = λ case made opened has.
    let v = c.args.self.now in
    open_by_none (WatchesRows v) (WatchesOwing v) verdicts c.args.rows.now case c.args.text.now made opened

pub take_rows-requires : goal.take_rows-requires
take_rows-requires c =
    let (case, made, opened, has) = c.requires in
    read_so_far c.args.self.now case made opened c.args.rows.now has

pub take_alone-requires : goal.take_alone-requires
take_alone-requires c =
    let (case, made, opened, has) = c.requires in
    let v = c.args.self.now in
    let taken = c.in_ok-bytes.ensures.rows in
    let some : 0 < length v.block.rows = omega (arith, c.rows.ensures.count, c.if-rows-eq0.false) in
    let h = more_read v case made c.take_rows.new.trace taken.more opened some taken.added in
    let (r, is, b) = c.came_alone.ensures c.if-came_alone.true case made taken.more h in
    (case, made, r, b, knows v case made opened)

pub returns-then-came_alone-clause-taken : goal.returns-then-came_alone-clause-taken
returns-then-came_alone-clause-taken c = λ case made opened has.
    let v = c.args.self.now in
    let taken = c.in_ok-bytes.ensures.rows in
    let some : 0 < length v.block.rows = omega (arith, c.rows.ensures.count, c.if-rows-eq0.false) in
    let h = more_read v case made c.take_rows.new.trace taken.more opened some taken.added in
    let (r, is, b) = c.came_alone.ensures c.if-came_alone.true case made taken.more h in
    let (grown, eq, follows) = c.in_ok-take_alone.ensures case made r b (knows v case made opened) in
    record {
      more = taken.more;
      stands = taken.stands;
      opened = subst (λ (rows : List Row). IsOpenOn (WatchesRows c.take_alone.new.self) (WatchesOwing c.take_alone.new.self) verdicts (with_rows rows case)
          c.args.text.now c.take_alone.new.text made) (sym is) (grown, eq, inl follows);
    }

pub take_together-requires : goal.take_together-requires
take_together-requires c =
    let (case, made, opened, has) = c.requires in
    let v = c.args.self.now in
    let taken = c.in_ok-bytes.ensures.rows in
    let some : 0 < length v.block.rows = omega (arith, c.rows.ensures.count, c.if-rows-eq0.false) in
    (case, made, taken.more, more_read v case made c.take_rows.new.trace taken.more opened some taken.added, knows v case made opened)

pub returns-clause-taken : goal.returns-clause-taken
returns-clause-taken c = λ case made opened has.
    let v = c.args.self.now in
    let taken = c.in_ok-bytes.ensures.rows in
    let some : 0 < length v.block.rows = omega (arith, c.rows.ensures.count, c.if-rows-eq0.false) in
    record {
      more = taken.more;
      stands = taken.stands;
      opened = c.in_ok-take_together.ensures case made taken.more (more_read v case made c.take_rows.new.trace taken.more opened some taken.added)
          (knows v case made opened);
    }
