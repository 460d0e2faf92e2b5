use Rattle.std.proofs.Common.{inl, false, ℕ, ◌-◌, List, ◌++◌, ◌≤◌, ◌<◌, length, drop, sym, ap, ◌∙◌, subst, arith, length-drop}
use Rattle.std.proofs.lemmas.List.{take_all}
use Rattle.stl_syntax.specs.Trace.{Row}
use Rattle.trace_stream.specs.Following.{Follows}
use Rattle.trace_stream.specs.Kept.{with_rows}
use Rattle.trace_stream.specs.Streams.{verdicts}
use Rattle.trace_stream.specs.declared.case.Case.{Case}
use Rattle.verdict_stream.specs.Watching.{IsWatched, IsOwing, IsBehind}
use Rattle.verdict_stream.specs.declared.watcher.Watcher.{Watcher}
use Rattle.verdict_stream.proofs.FollowedCases.{some_owed}
use Rattle.verdict_stream.proofs.CaughtUp.{IsCaught, first_last, rest_rows, case_is, last_is, made_of, told_before}
use Rattle.verdict_stream.proofs.verdicts.Verdicts.catch_up.Goals as goal
use Rattle.verdict_stream.proofs.verdicts.Verdicts.catch_up.Goals.{In_ok-make_owed, In_ok-take_block}

pub make_owed-requires : goal.make_owed-requires
make_owed-requires c =
    let (case, made, more, b) = c.requires in
    let v = c.args.self.now in
    let (g, is, now) = c.in_ok-take_block.ensures b.base b.first (inl b.watched) (first_last v case made more b) in
    (with_rows (drop 1 v.block.rows) b.base, b.first ++ g, now)

-- the network took all rows, and owes their text
owing : (c : In_ok-take_block) (case : Case) (made : List ℕ) (more : List Row) (b : IsBehind c.args.self.now case made more)
    → 0 < length c.take_block.new.self.times.items
    → (g : List ℕ) × IsOwing c.take_block.new.self (with_rows (drop 1 c.args.self.now.block.rows) b.base) (b.first ++ g)
owing c case made more b some =
    let v = c.args.self.now in
    let (g, is, now) = c.in_ok-take_block.ensures b.base b.first (inl b.watched) (first_last v case made more b) in
    (g, some_owed c.take_block.new.self (with_rows (drop 1 v.block.rows) b.base) (b.first ++ g) now (λ e. omega (arith, some, ap length e)))

pub make_behind-requires-clause-some : goal.make_behind-requires-clause-some
make_behind-requires-clause-some c = (c.owes_more.ensures c.if-owes_more.true).1

pub make_behind-requires-clause-owing : goal.make_behind-requires-clause-owing
make_behind-requires-clause-owing c =
    let (case, made, more, b) = c.requires in
    let k = c.owes_more.ensures c.if-owes_more.true in
    let (g, o) = owing (goal.at.make_behind-requires-clause-owing c).In_ok-take_block case made more b (omega (arith, k.1)) in
    (with_rows (drop 1 c.args.self.now.block.rows) b.base, b.first ++ g, o)

pub returns-then-owes_more : goal.returns-then-owes_more
returns-then-owes_more c = λ case made more b.
    let v = c.args.self.now in
    let k = c.owes_more.ensures c.if-owes_more.true in
    let w = c.take_block.new.self in
    let x = with_rows (drop 1 v.block.rows) b.base in
    let (g, o) = owing (goal.at.returns-then-owes_more c).In_ok-take_block case made more b (omega (arith, k.1)) in
    let (grown, is, now) = c.in_ok-make_behind.ensures x (b.first ++ g) made o (told_before v case made more b w.times.items k.0) in
    record {
      grown = grown;
      is = is;
      watched = subst (λ (u : Watcher). Follows (λ case made. IsWatched false u case) verdicts (with_rows more case) (made ++ grown))
          (sym c.keep_last.ensures.watcher)
          (subst (λ (y : Case). Follows (λ case made. IsWatched false c.make_behind.new.self case) verdicts y (made ++ grown))
          (ap (λ rs. with_rows rs b.base) (rest_rows v case made more b) ∙ case_is v case made more b) now);
      last = c.keep_last.ensures.block ∙ last_is v case made more b;
      quiet = c.keep_last.ensures.quiet;
    }

-- the text that the network made
text_of : (c : In_ok-make_owed) (case : Case) (made : List ℕ) (more : List Row) (b : IsBehind c.args.self.now case made more)
    → IsCaught c.args.self.now case made more b c.make_owed.new.self c.make_owed.new.text
text_of c case made more b =
    let v = c.args.self.now in
    let (g, is, now) = c.in_ok-take_block.ensures b.base b.first (inl b.watched) (first_last v case made more b) in
    let (h, is', follows) = c.in_ok-make_owed.ensures (with_rows (drop 1 v.block.rows) b.base) (b.first ++ g) now in
    made_of v case made more b c.make_owed.new.self c.clear.new.self c.take_block.new.text c.make_owed.new.text g h c.clear.ensures is is' follows

pub slice_bounds-push-count : goal.slice_bounds-push-count
slice_bounds-push-count c =
    let (case, made, more, b) = c.requires in
    subst (λ t. c.args.self.now.quiet.bytes ≤ length t) (sym c.bytes.ensures)
    (text_of (goal.at.slice_bounds-push-count c).In_ok-make_owed case made more b).few

pub slice_bounds-push-start : goal.slice_bounds-push-start
slice_bounds-push-start c =
    let (case, made, more, b) = c.requires in
    subst (λ t. c.args.self.now.quiet.bytes ≤ length t) (sym c.bytes.ensures)
    (text_of (goal.at.slice_bounds-push-start c).In_ok-make_owed case made more b).few

pub returns : goal.returns
returns c = λ case made more b.
    let v = c.args.self.now in
    let k = text_of (goal.at.returns c).In_ok-make_owed case made more b in
    let bytes = c.bytes.result.now in
    let all = take_all (length bytes - v.quiet.bytes) (drop v.quiet.bytes bytes) (omega (arith, length-drop v.quiet.bytes bytes)) in
    record {
      grown = k.rest;
      is = c.in_ok-push.ensures.ok ∙ ap (λ t. c.args.text.now ++ t) (all ∙ ap (λ t. drop v.quiet.bytes t) c.bytes.ensures ∙ k.beyond);
      watched = subst (λ (w : Watcher). Follows (λ case made. IsWatched false w case) verdicts (with_rows more case) (made ++ k.rest))
          (sym c.keep_last-2.ensures.watcher) k.watched;
      last = c.keep_last-2.ensures.block ∙ last_is v case made more b;
      quiet = c.keep_last-2.ensures.quiet;
    }
