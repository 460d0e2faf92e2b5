use Rattle.std.proofs.Common.{◌≡◌, ℕ, List, ◌++◌, drop}
use Rattle.stl_syntax.specs.declared.items.Verdict.{Verdict}
use Rattle.verdict_stream.specs.Pendings.{IsTextOfRows}
use Rattle.verdict_stream.proofs.watcher.Watcher.put_rows.Given as goal

abbrev pub invariant-loop-i : goal.invariant-loop-i
invariant-loop-i l = record {
  network : l.self.network ≡ l.initial.self.network;
  horizon : l.self.horizon ≡ l.initial.self.horizon;
  times : l.self.times.items ≡ l.initial.self.times.items;
  lines : (grown : List ℕ) × (l.text ++ l.self.lines ≡ l.initial.text ++ grown)
      × ((later : List ℕ) (left : List Verdict)
      → IsTextOfRows l.initial.self.network.formula.scale l.initial.self.horizon (drop l.i l.initial.self.times.items) l.self.pending later left
      → IsTextOfRows l.initial.self.network.formula.scale l.initial.self.horizon (drop l.first l.initial.self.times.items) l.initial.self.pending
      (grown ++ later) left);
}
