use Rattle.std.proofs.Common.{◌≡◌, ◌≤◌, drop, take}
use Rattle.std.specs.Prelude.{All}
use Rattle.trace_reader.specs.TraceText.{greatest}
use Rattle.trace_reader.proofs.room.greatest.Given as goal

abbrev pub invariant-loop-n : goal.invariant-loop-n
invariant-loop-n l =
    (greatest l.least l.numbers ≡ greatest l.most (drop l.n-index l.numbers)) × (l.most ≤ 6) × All (λ n. n ≤ l.most) (take l.n-index l.numbers)
