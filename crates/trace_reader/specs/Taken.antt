-- Rows that are taken straight into the trace.
use Rattle.std.specs.Prelude.{◌≡◌, ℕ, ◌≤◌, List, [], ◌∷◌, ◌++◌, length, take, Some}
use Rattle.stl_syntax.specs.Trace.{Row, Trace}
use Rattle.trace_reader.specs.Reader.{Reader, StandsFor, header_read}

-- the trace has the header that was read, and the last of the rows of the bytes so far: all of them, or those behind some earlier ones
pub record HasTraceSoFar (r : Reader) (t : Trace) : Type 0 where
  pub bytes : List ℕ
  pub earlier : List Row
  pub stands : StandsFor r bytes (earlier ++ t.rows)
  pub header : header_read r ≡ Some t.header

-- some bytes more were taken, which are rows, and the trace has them behind its own
pub record AreRowsTaken (old new : Reader) (before after : Trace) (taken : List ℕ) : Type 0 where
  pub more : List Row
  pub added : after ≡ record before { rows = before.rows ++ more }
  pub stands : (bytes : List ℕ) (rows : List Row) → StandsFor old bytes rows → StandsFor new (bytes ++ taken) (rows ++ more)

-- some bytes of the piece were taken, which are rows, and the trace has all but the last one behind its own
pub record IsRowShort (old new : Reader) (before after : Trace) (piece : List ℕ) : Type 0 where
  pub size : ℕ
  pub within : size ≤ length piece
  pub more : List Row
  pub added : after ≡ record before { rows = before.rows ++ more }
  pub stands : (bytes : List ℕ) (rows : List Row) → StandsFor old bytes rows
      → StandsFor new (bytes ++ take size piece) (rows ++ (more ++ new.row ∷ []))
