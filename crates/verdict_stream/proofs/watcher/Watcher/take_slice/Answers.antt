-- The rows of a slice: a root that is an atom answers them at once, and else their text is owed.
use Rattle.std.proofs.Common.{◌<◌, ◌≤◌, ◌+◌, [], length, refl, sym, ap, ◌∙◌, subst, append-nil, inl, inr, arith}
use Rattle.atom_lines.specs.Rows.{row_of}
use Rattle.online_nodes.specs.Driven.{rows_of, most_rows}
use Rattle.online_net.specs.Nets.{last_row_of}
use Rattle.online_net.specs.Stretches.{rows_between}
use Rattle.trace_stream.specs.Kept.{with_rows}
use Rattle.verdict_stream.specs.Watching.{IsOwing}
use Rattle.verdict_stream.specs.declared.watcher.Watcher.{Watcher}
use Rattle.verdict_stream.proofs.WatchedRoot.{rows_others, pass_before}
use Rattle.verdict_stream.proofs.WatchedRows.{atom_here, steps_stand, passing, can_take, rows_followed}
use Rattle.verdict_stream.proofs.FollowedCases.{open_last, atom_owes_none, owes_on}
use Rattle.verdict_stream.proofs.Blocks.{count_between, last_pushed}
use Rattle.verdict_stream.proofs.watcher.Watcher.take_slice.Goals as goal

pub feed_rows-requires-clause-last : goal.feed_rows-requires-clause-last
feed_rows-requires-clause-last c =
    let (case, made, opened, l) = c.requires.open in
    open_last c.args.self.now case made opened ∙ ap last_row_of l.rows ∙ last_pushed l.before (row_of c.args.block.now c.args.at)

pub take_all-requires-clause-none : goal.take_all-requires-clause-none
take_all-requires-clause-none c =
    let (case, made, opened, l) = c.requires.open in
    (atom_owes_none c.args.self.now case made opened (sym c.is_atom.ensures ∙ c.if-is_atom.true)).stands.none_waiting

pub take_all-requires-clause-can : goal.take_all-requires-clause-can
take_all-requires-clause-can c =
    let (case, made, opened, l) = c.requires.open in
    let v = c.args.self.now in
    let k = atom_owes_none v case made opened (sym c.is_atom.ensures ∙ c.if-is_atom.true) in
    let w = k.stands in
    let rows = rows_between c.args.block.now c.args.at (c.args.at + c.min.result) in
    let mid = c.step_all.new.self in
    let st = steps_stand v case w (rows_of rows) c.feed_rows.new.self mid.net (c.in-Ok.ensures.stands case.formula.nodes case.trace.header w.events w.stands)
    (λ header events s. c.in_ok-step_all.ensures.stands header events s) in
    let x = passing v case w (rows_of rows) mid.net (rows_others case.formula.nodes case.trace.header rows) st in (
      pass_before case.formula.nodes case.trace.header w.events (rows_of rows) x.first x.beyond,
      can_take v case w (rows_of rows) x mid st c.step_all.ensures.start,
    )

pub returns-then-is_atom-clause-open : goal.returns-then-is_atom-clause-open
returns-then-is_atom-clause-open c = λ case made opened l.
    let v = c.args.self.now in
    let block = c.args.block.now in
    let at = c.args.at in
    let to = at + c.min.result in
    let atom = sym c.is_atom.ensures ∙ c.if-is_atom.true in
    let k = atom_owes_none v case made opened atom in
    let w = k.stands in
    let rows = rows_between block at to in
    let mid = c.step_all.new.self in
    let fed = c.in-Ok.ensures.stands case.formula.nodes case.trace.header w.events w.stands in
    let st = steps_stand v case w (rows_of rows) c.feed_rows.new.self mid.net fed (λ header events s. c.in_ok-step_all.ensures.stands header events s) in
    let x = passing v case w (rows_of rows) mid.net (rows_others case.formula.nodes case.trace.header rows) st in
    let can = can_take v case w (rows_of rows) x mid st c.step_all.ensures.start in
    let count = count_between block at to (omega arith) (omega (arith, c.requires.within, c.min.ensures, c.rows.ensures.count)) in
    let room : length v.times.items < most_rows = c.requires.room in
    let some : 0 < length rows = omega (arith, count, room, c.requires.within, c.min.ensures, c.rows.ensures.count, c.len-room.ensures, v.times.ok.0) in
    let few : length rows ≤ most_rows = omega (arith, count, c.min.ensures) in
    let (grown, is, follows) = rows_followed v case w rows k (atom_here v case w atom) some few fed.run x c.take_all.new.self c.take_all.new.lines
    c.args.text.now c.take_all.new.text (c.take_all.ensures.formula ∙ c.step_all.ensures.formula) c.in_ok-take_all.ensures.none
    (c.in_ok-take_all.ensures.taken (pass_before case.formula.nodes case.trace.header w.events (rows_of rows) x.first x.beyond) can) in
    (grown, is, inl follows)

pub returns-clause-open : goal.returns-clause-open
returns-clause-open c = λ case made opened l.
    let v = c.args.self.now in
    let block = c.args.block.now in
    let at = c.args.at in
    let to = at + c.min.result in
    let rows = rows_between block at to in
    let after : Watcher = record {
      network = record { net = c.feed_rows.new.self; formula = v.network.formula; start = v.network.start };
      horizon = v.horizon;
      times = c.keep_times.new.times;
      pending = v.pending;
      lines = v.lines;
    } in
    let count = count_between block at to (omega arith) (omega (arith, c.requires.within, c.min.ensures, c.rows.ensures.count)) in
    let room : length v.times.items < most_rows = c.requires.room in
    let some : 0 < length rows = omega (arith, count, room, c.requires.within, c.min.ensures, c.rows.ensures.count, c.len-room.ensures, v.times.ok.0) in
    let few : length v.times.items + length rows ≤ most_rows = omega (arith, count, room, c.min.ensures, c.len-room.ensures, v.times.ok.0) in (
      [],
      sym (append-nil c.args.text.now),
      inr (subst (λ m. IsOwing after (with_rows rows case) m) (sym (append-nil made))
          (owes_on v case made opened (sym c.is_atom.ensures ∙ c.if-is_atom.false) after rows some few
          (λ nodes header events st. c.in-Ok.ensures.stands nodes header events st) (record {
            formula = refl;
            start = refl;
            horizon = refl;
            times = c.in_ok-keep_times.ensures;
            pending = refl;
            lines = refl;
          }))),
    )
