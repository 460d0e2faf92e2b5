use Rattle.std.proofs.Common.{◌≡◌, ℕ, suc, ◌≤◌, true, false, List, [], sym, subst, ◌∙◌}
use Rattle.stl_syntax.specs.Formula.{root}
use Rattle.stl_syntax.specs.Stream.{IsStreamText}
use Rattle.workload_summary.specs.Counting.{line_count}
use Rattle.workload_summary.proofs.WholeBytes.{sound_as, starved, streamed, stream_lines}
use Rattle.workload_summary.proofs.counts.watched.Goals as goal
use Rattle.stl_syntax.specs.Scaling.{nodes_for}

pub feed-requires : goal.feed-requires
feed-requires c = record { bytes = []; written = []; is = c.in_ok-live.ensures.live }

pub memory_of-requires : goal.memory_of-requires
memory_of-requires c =
    let (tr, whole) = c.requires in
    starved c.in_ok-live.live.rows.limits c.in_ok-live.live.formula c.args.bytes.now c.feed.new.self.text false c.in-Err.stop
    (sound_as c.in_ok-live.ensures.limits c.in_ok-live.ensures.formula whole) (c.in-Err.ensures.taken [] [] c.in_ok-live.ensures.live)

pub finish-requires : goal.finish-requires
finish-requires c = record { bytes = c.args.bytes.now; written = []; is = c.in_default.ensures.taken [] [] c.in_ok-live.ensures.live }

pub memory_of-requires-in-Err-finish : goal.memory_of-requires-in-Err-finish
memory_of-requires-in-Err-finish c =
    let (tr, whole) = c.requires in
    starved c.feed.new.self.rows.limits c.feed.new.self.formula c.args.bytes.now c.finish.new.self.text true c.in-Err-finish.stop
    (sound_as (c.in_default.ensures.limits ∙ c.in_ok-live.ensures.limits) (c.in_default.ensures.formula ∙ c.in_ok-live.ensures.formula) whole)
    (c.in-Err-finish.ensures.over c.args.bytes.now [] (c.in_default.ensures.taken [] [] c.in_ok-live.ensures.live))

pub verdict_lines-requires : goal.verdict_lines-requires
verdict_lines-requires c =
    let (tr, whole) = c.requires in
    let over = c.in_default-finish.ensures.over c.args.bytes.now [] (c.in_default.ensures.taken [] [] c.in_ok-live.ensures.live) in
    let is : IsStreamText (root (nodes_for c.args.formula tr)) tr.header tr.rows true c.finish.new.self.text =
    streamed (c.in_default.ensures.formula ∙ c.in_ok-live.ensures.formula) over tr whole in
    subst (λ (t : List ℕ). 1 ≤ line_count t) (sym c.text.ensures) (stream_lines c.args.formula tr is)

pub returns : goal.returns
returns c = λ tr whole.
    let over = c.in_default-finish.ensures.over c.args.bytes.now [] (c.in_default.ensures.taken [] [] c.in_ok-live.ensures.live) in
    record {
      text = c.finish.new.self.text;
      is = streamed (c.in_default.ensures.formula ∙ c.in_ok-live.ensures.formula) over tr whole;
      count = subst (λ (t : List ℕ). line_count t ≡ suc c.verdict_lines.result) c.text.ensures c.verdict_lines.ensures;
    }
