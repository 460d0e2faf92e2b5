use Rattle.std.proofs.Common.{[], subst}
use Rattle.rational.specs.Places.{Before, Same}
use Rattle.rational.proofs.PlaceLemmas.{before_same, same_places}
use Rattle.frac128.specs.Cuts.{place}
use Rattle.stl_syntax.specs.Trace.{Row}
use Rattle.atom_lines.specs.Rows.{row_of}
use Rattle.online_net.specs.Stretches.{after_time}
use Rattle.online_net.proofs.AtomRuns.{put_run_to, stretch_put}
use Rattle.online_net.proofs.stretch.put_last.Goals as goal

abbrev none : Row
none = record { time = 0; values = [] }

pub put_run-requires-clause-some : goal.put_run-requires-clause-some
put_run-requires-clause-some c =
    let from = place c.args.along.now.run.from in
    let end = after_time (row_of c.args.block.now c.args.to).time in
    before_same from end (place c.tick_cut-end.result)
    (subst (λ k. Before from (after_time (row_of c.args.block.now k).time)) c.requires.here c.requires.come.3.some)
    (same_places (subst (λ n. Same (place c.tick_cut-end.result) (after_time n)) (c.time.ensures none) c.tick_cut-end.ensures))

pub returns : goal.returns
returns c = λ b from e come.
    stretch_put b c.args.block.now from c.args.to c.args.node c.args.along.now come c.requires.here
    (put_run_to (subst (λ n. Same (place c.tick_cut-end.result) (after_time n)) (c.time.ensures none) c.tick_cut-end.ensures) c.in_ok-put_run.ensures)
