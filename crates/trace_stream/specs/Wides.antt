-- When a stream of margins is refused for a denominator, and what was made before that.
use Rattle.std.specs.Prelude.{◌≡◌, ◌⊎◌, ℕ, pos, Bool, true, false, List, [], ◌∷◌, ◌++◌}
use Rattle.rational.specs.Time.{Rational}
use Rattle.rational.specs.Extended.{Affine}
use Rattle.stl_syntax.specs.Formula.{Formula, root}
use Rattle.stl_syntax.specs.Scaling.{scaled}
use Rattle.stl_syntax.specs.SupInf.{margin_setting}
use Rattle.stl_syntax.specs.Trace.{Header, Row, Trace, last_time}
use Rattle.stl_syntax.specs.declared.node.Node.{Node}
use Rattle.online_nodes.specs.MarginStream.{IsMarginStream}
use Rattle.online_nodes.specs.StreamedWide.{IsStreamedCrossing, IsStreamedValue}
use Rattle.trace_reader.specs.TraceText.{TraceOf}
use Rattle.trace_reader.specs.declared.refusal.Limits.{Limits}
use Rattle.trace_stream.specs.CaseReader.{IsSound}
use Rattle.trace_stream.specs.Streams.{Stream, margins}

-- a pair of functions, or a constant, that is in play at node i once these rows have come, or all where the input has ended, needs this
-- denominator
abbrev pub IsNeededByThen : List Node → Trace → Bool → ℕ → ℕ → Type 0
IsNeededByThen nodes tr ended i den =
    ((p q : Affine) × (a b : Rational) × IsStreamedCrossing nodes (margin_setting tr) ended (pos (last_time 0 tr.rows)) i p q a b den)
    ⊎ ((p : Affine) × (u : Rational) × IsStreamedValue nodes (margin_setting tr) ended (pos (last_time 0 tr.rows)) i p u den)

-- rows that need too large a denominator: those up to one, which made no text of its own, or all of an input that has ended
pub data IsWideRows (f : Formula) (header : Header) : Bool → List Row → ℕ → ℕ → List ℕ → Type 0 where
  at_row : (before : List Row) (r : Row) {i den : ℕ} {text : List ℕ}
      → IsNeededByThen (scaled f header.scale).nodes (record { header = header; rows = before ++ r ∷ [] }) false i den
      → IsMarginStream (root (scaled f header.scale).nodes) header before false text → IsWideRows f header false (before ++ r ∷ []) i den text
  at_end : {rows : List Row} {i den : ℕ} {text : List ℕ} → IsNeededByThen (scaled f header.scale).nodes (record { header = header; rows = rows }) true i den
      → IsMarginStream (root (scaled f header.scale).nodes) header rows false text → IsWideRows f header true rows i den text

-- they are the rows of the first of the bytes, which have no fault; of all bytes and their end, where it came at the end
pub record IsWideByRow (limits : Limits) (f : Formula) (bytes : List ℕ) (ended : Bool) (i den : ℕ) (text : List ℕ) : Type 0 where
  pub seen : List ℕ
  pub later : List ℕ
  pub parts : bytes ≡ seen ++ later
  pub seen_end : Bool
  pub at_end : seen_end ≡ true → (ended ≡ true) × (later ≡ [])
  pub header : Header
  pub rows : List Row
  pub sound : IsSound limits f seen seen_end
  pub read : TraceOf seen seen_end f.scale header rows
  pub closed : Bool
  pub closes : closed ≡ true → seen_end ≡ true
  pub cause : IsWideRows f header closed rows i den text

-- only a stream of margins is refused so
abbrev pub IsWideStream : Stream → Limits → Formula → List ℕ → Bool → ℕ → ℕ → List ℕ → Type 0
IsWideStream margins limits f bytes ended i den text = IsWideByRow limits f bytes ended i den text
IsWideStream s limits f bytes ended i den text = ⊥
