-- A field of a row that was read, and what was found wrong in one.
use Rattle.std.specs.Prelude.{ℕ, ℤ, List}
use Rattle.trace_reader.specs.TraceText.{IsInTicks}
use Rattle.trace_reader.specs.TraceRefusals.{NumberFault}
use Rattle.trace_reader.specs.declared.refusal.TraceKind.{TraceKind}

-- field i is the number v of ticks, and has no fault
pub record IsFieldRead (digits most : ℕ) (low high : ℤ) (i : ℕ) (f : List ℕ) (v : ℤ) : Type 0 where
  pub value : IsInTicks digits most f v
  pub sound : (k : TraceKind) → ¬ NumberFault digits most low high i f k
