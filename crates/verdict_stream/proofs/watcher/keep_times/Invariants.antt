use Rattle.std.proofs.Common.{◌≡◌, ◌++◌, map}
use Rattle.stl_syntax.specs.Trace.{Row}
use Rattle.online_net.specs.Stretches.{rows_between}
use Rattle.verdict_stream.proofs.watcher.keep_times.Given as goal

abbrev pub invariant-loop-r : goal.invariant-loop-r
invariant-loop-r l = l.times.items ≡ l.initial.times.items ++ map (λ (r : Row). r.time) (rows_between l.block l.at l.r)
