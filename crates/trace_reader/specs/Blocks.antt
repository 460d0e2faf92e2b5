-- Rows of plain numbers that stand one after another, and those that were added to a trace.
use Rattle.std.specs.Prelude.{◌≡◌, ℕ, ◌+◌, ◌≤◌, List, [], ◌∷◌, ◌++◌, length, take}
use Rattle.stl_syntax.specs.Trace.{Row, Trace}
use Rattle.trace_reader.specs.Headings.{Scaled}
use Rattle.trace_reader.specs.Plain.{IsPlainRow}

-- the bytes are these rows: the first not before the time `from`, each later than the one before it, and the last before the time `next`
pub data ArePlainRows (h : Scaled) (from : ℕ) : List ℕ → List Row → ℕ → Type 0 where
  none : ArePlainRows h from [] [] from
  more : {bytes : List ℕ} {rows : List Row} {next : ℕ} (piece : List ℕ) (n : ℕ) (r : Row) → ArePlainRows h from bytes rows next
      → IsPlainRow h piece n r → next ≤ r.time → ArePlainRows h from (bytes ++ take n piece) (rows ++ r ∷ []) (r.time + 1)

-- the trace has so many rows more, which are these bytes
pub record AreRowsAdded (h : Scaled) (from next : ℕ) (old new : Trace) (n : ℕ) (bytes : List ℕ) : Type 0 where
  pub rows : List Row
  pub count : n ≡ length rows
  pub added : new ≡ record old { rows = old.rows ++ rows }
  pub read : ArePlainRows h from bytes rows next
