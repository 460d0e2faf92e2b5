-- Slices of a block in turn.
use Rattle.std.proofs.Common.{◌≡◌, [], ◌++◌, List, false, sym, ap, ◌∙◌, subst, append-nil, append_assoc, arith}
use Rattle.stl_syntax.specs.Trace.{Row}
use Rattle.online_net.specs.Stretches.{rows_between}
use Rattle.trace_stream.specs.Streams.{verdicts}
use Rattle.trace_stream.specs.Kept.{with_rows}
use Rattle.trace_stream.specs.Following.{IsOpenOn}
use Rattle.verdict_stream.specs.Watching.{Watches, IsOwing}
use Rattle.verdict_stream.proofs.FollowedCases.{IsOpened}
use Rattle.verdict_stream.proofs.Blocks.{between_both, between_all, last_on}
use Rattle.verdict_stream.proofs.watcher.Watcher.take_block.Goals as goal

pub loop-at-init : goal.loop-at-init
loop-at-init c = record {
  within = c.requires.some;
  followed = λ case made opened l. (
    [],
    sym (append-nil c.args.text.now),
    subst (λ m. IsOpened c.args.self.now (with_rows [] case) m) (sym (append-nil made))
        (subst (λ (rs : List Row). IsOpened c.args.self.now (record case { trace = record case.trace { rows = rs } }) made)
        (sym (append-nil case.trace.rows)) opened),
  );
}

pub make_room-requires : goal.make_room-requires
make_room-requires c =
    let (case, made, opened, l) = c.requires.open in
    let (grown, is, now) = c.loop-at.invariant.followed case made opened l in
    (with_rows (rows_between c.args.block.now 0 c.loop-at.at) case, made ++ grown, now)

pub take_slice-requires-clause-open : goal.take_slice-requires-clause-open
take_slice-requires-clause-open c =
    let (case, made, opened, l) = c.requires.open in
    let block = c.args.block.now in
    let at = c.loop-at.at in
    let (first, is, now) = c.loop-at.invariant.followed case made opened l in
    let here = with_rows (rows_between block 0 at) case in
    let (second, longer, then) = c.in_ok-make_room.ensures.open here (made ++ first) now in
    (here, (made ++ first) ++ second, then, last_on block case.trace 0 at (omega arith) c.loop-at.invariant.within l)

pub loop-at-preserved : goal.loop-at-preserved
loop-at-preserved c = record {
  within = c.in_ok-at.ensures.later.1;
  followed = λ case made opened l.
      let block = c.args.block.now in
      let old = c.args.text.now in
      let at = c.loop-at.at in
      let to = c.in_ok-at.at in
      let (first, is, now) = c.loop-at.invariant.followed case made opened l in
      let here = with_rows (rows_between block 0 at) case in
      let (second, longer, then) = c.in_ok-make_room.ensures.open here (made ++ first) now in
      let (third, last, after) = c.in_ok-at.ensures.open here ((made ++ first) ++ second) then
      (last_on block case.trace 0 at (omega arith) c.loop-at.invariant.within l) in
      let rows : (case.trace.rows ++ rows_between block 0 at) ++ rows_between block at to ≡ case.trace.rows ++ rows_between block 0 to =
      append_assoc case.trace.rows (rows_between block 0 at) (rows_between block at to)
      ∙ ap (λ rs. case.trace.rows ++ rs) (between_both block 0 at to (omega arith) (omega (arith, c.in_ok-at.ensures.later.0))) in (
        (first ++ second) ++ third,
        last ∙ ap (λ t. t ++ third) (longer ∙ ap (λ t. t ++ second) is ∙ append_assoc old first second) ∙ append_assoc old (first ++ second) third,
        subst (λ m. IsOpened c.take_slice.new.self (with_rows (rows_between block 0 to) case) m)
            (ap (λ m. m ++ third) (append_assoc made first second) ∙ append_assoc made (first ++ second) third)
            (subst (λ (rs : List Row). IsOpened c.take_slice.new.self (record case { trace = record case.trace { rows = rs } })
            (((made ++ first) ++ second) ++ third))
            rows after),
      );
}

pub returns : goal.returns
returns c = λ case made opened l.
    subst (λ (rs : List Row). IsOpenOn (Watches false c.loop-at.self) (IsOwing c.loop-at.self) verdicts (with_rows rs case) c.args.text.now c.loop-at.text made)
    (between_all c.args.block.now c.loop-at.at (omega (arith, c.loop-at-test.false, c.rows-last.ensures.count)))
    (c.loop-at.invariant.followed case made opened l)
