use Rattle.std.proofs.Common.{◌≡◌, ◌≤◌, ◌-◌, ◌++◌, ℕ, List, length, take}
use Rattle.stl_syntax.specs.Trace.{Row}
use Rattle.trace_reader.specs.Reader.{StandsFor}
use Rattle.trace_reader.specs.LineReader.{state, IsWithin}
use Rattle.trace_reader.proofs.line_reader.LineReader.take.Given as goal

abbrev pub invariant-loop-at : goal.invariant-loop-at
invariant-loop-at l = record {
  within : l.at ≤ length l.piece;
  bounds : IsWithin l.limits l.self;
  content : (l.self.content.heading ≡ l.initial.self.content.heading) × (l.self.content.row ≡ l.initial.self.content.row)
      × (l.self.content.count ≡ l.initial.self.content.count)
      × (l.self.content.least ≡ l.initial.self.content.least);
  stands : (bytes : List ℕ) (rows : List Row) → StandsFor (state l.limits l.initial.self) bytes rows
      → StandsFor (state l.limits l.self) (bytes ++ take l.at l.piece) rows;
}

abbrev pub decreases-loop-at : goal.decreases-loop-at
decreases-loop-at l = length l.piece - l.at
