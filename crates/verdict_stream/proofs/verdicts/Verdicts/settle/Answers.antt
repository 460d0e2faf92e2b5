use Rattle.std.proofs.Common.{false, inl, [], ◌++◌, ap, subst, arith}
use Rattle.trace_stream.specs.Following.{Follows}
use Rattle.trace_stream.specs.Streams.{verdicts}
use Rattle.trace_stream.specs.declared.case.Case.{Case}
use Rattle.verdict_stream.specs.Watching.{IsWatched, KeepsLast}
use Rattle.verdict_stream.specs.declared.quiet.Quiet.{Quiet}
use Rattle.verdict_stream.proofs.FollowedCases.{waiting, knows, knows_same, with_none}
use Rattle.verdict_stream.proofs.verdicts.Verdicts.settle.Goals as goal

pub returns-then-self-gt0-clause-rows : goal.returns-then-self-gt0-clause-rows
returns-then-self-gt0-clause-rows c = λ case made k.
    let v = c.args.self.now in
    let h = c.in_ok-catch_up.ensures case made [] (waiting v case made (inl k) (omega (arith, c.if-self-gt0.true))) in
    record {
      grown = h.grown;
      is = h.is;
      watched = subst (λ (x : Case). Follows (λ y text. IsWatched false c.catch_up.new.self.watcher y) verdicts x (made ++ h.grown)) (with_none case) h.watched;
      last = subst (λ (x : Case). KeepsLast c.catch_up.new.self.block x.trace) (with_none case) h.last;
      none = (ap (λ (q : Quiet). q.rows) h.quiet, ap (λ (q : Quiet). q.bytes) h.quiet);
      knows = knows_same v.quiet c.catch_up.new.self.quiet case (knows v case made (inl k)) (ap (λ (q : Quiet). q.reach) h.quiet)
          (ap (λ (q : Quiet). q.calm) h.quiet) (ap (λ (q : Quiet). q.told) h.quiet);
    }
