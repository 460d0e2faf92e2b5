-- The law of the origin for the commands that answer row by row.
use Rattle.std.specs.Prelude.{◌≡◌, ℕ, ℤ, Bool, true, false, List, [], ◌∷◌, ◌++◌, length, int_lt, codes, IsTrue, IsFalse, MatchBool, Option, Some, None}
use Rattle.rational.specs.Time.{Interval, whole, later}
use Rattle.stl_syntax.specs.Trace.{Header, Row, Trace, IsTrace, AreRows, row_time, first_time, start}
use Rattle.stl_syntax.specs.Formula.{Formula, Subformula, root}
use Rattle.stl_syntax.specs.Knots.{Knot, Piece, Knots}
use Rattle.stl_syntax.specs.Stream.{after, IsRowsText, IsRestText}
use Rattle.stl_syntax.specs.Early.{NoneDecides, FirstDecides}
use Rattle.stl_syntax.specs.Texts.{IsNumberText, AreVerdictLines, IsStartLine, start_line, newline, AreMarginLines, ArePieceLines}
use Rattle.stl_syntax.specs.Verdicts.{Describes, TellsClosed}
use Rattle.stl_syntax.specs.declared.items.Verdict.{Verdict}
use Rattle.online_nodes.specs.MarginStream.{TellsLeftOpen}
use Rattle.trace_stream.specs.Streams.{Stream, verdicts, early, margins}
use Rattle.unit_laws.specs.Origins.{delayed, AreDelayed, IsDelayedKnot, AreDelayedPieces, AreDelayedKnots}
use Rattle.unit_laws.specs.Streams.{Owes}
use Rattle.stl_syntax.specs.Scaling.{nodes_for}

-- the verdict lines of a stretch, with each time d ticks later
abbrev pub IsStretchLater : ℕ → Subformula → Trace → Interval → List ℕ → Type 0
IsStretchLater d p tr stretch text = (vs ws : List Verdict) × Describes vs p tr stretch × AreDelayed d vs ws × AreVerdictLines tr.header.scale ws text

-- those of what a front answers beyond an old one
abbrev pub IsNewTextLater : ℕ → Subformula → Trace → Option ℤ → Option ℤ → List ℕ → Type 0
IsNewTextLater d p tr old None text = text ≡ []
IsNewTextLater d p tr None (Some new) text = IsStretchLater d p tr (after (first_time tr.rows) None new) text
IsNewTextLater d p tr (Some old) (Some new) text =
    MatchBool (int_lt old new) (IsStretchLater d p tr (after (first_time tr.rows) (Some old) new) text) (text ≡ [])

-- the lines of margins of what it answers, with each time d ticks later
abbrev pub IsNewMarginsLater : ℕ → Subformula → Trace → Option ℤ → Option ℤ → List ℕ → Type 0
IsNewMarginsLater d p tr old None text = text ≡ []
IsNewMarginsLater d p tr None (Some new) text =
    (ks ls : Knots) × TellsClosed p tr (start tr) (whole new) ks × AreDelayedKnots d ks ls × AreMarginLines tr.header.scale ls text
IsNewMarginsLater d p tr (Some old) (Some new) text =
    MatchBool (int_lt old new)
    ((k l : Knot) × (ps qs : List Piece) × TellsLeftOpen p tr (whole old) (whole new) k ps × IsDelayedKnot d k l × AreDelayedPieces d ps qs
    × ArePieceLines tr.header.scale l qs text)
    (text ≡ [])

-- the text of an early verdict, with the time of its row d ticks later
pub data IsEarlyTextLater (d : ℕ) (p : Subformula) (header : Header) (rows : List Row) (ended : Bool) (text : List ℕ) : Type 0 where
  at_row_later : (before after : List Row) (r : Row) (holds : Bool) (time : List ℕ) → rows ≡ before ++ r ∷ after → FirstDecides p header before r holds
      → IsNumberText header.scale.time (later (row_time r) d) time → text ≡ codes "decided at " ++ time ++ newline ++ start_line holds
      → IsEarlyTextLater d p header rows ended text
  at_end_too : (line : List ℕ) → IsTrue ended → AreRows (length header.columns) rows → NoneDecides p header rows
      → IsStartLine p (record { header = header; rows = rows }) line
      → text ≡ codes "decided at end" ++ newline ++ line → IsEarlyTextLater d p header rows ended text
  not_yet_too : IsFalse ended → NoneDecides p header rows → text ≡ [] → IsEarlyTextLater d p header rows ended text

-- the text of a stream for rows under a header, with each time d ticks later
abbrev pub StreamTextLater : ℕ → Stream → Subformula → Header → List Row → Bool → List ℕ → Type 0
StreamTextLater d verdicts p header rows false text = IsRowsText (IsNewTextLater d p) p header [] None rows text
StreamTextLater d verdicts p header rows true text =
    AreRows (length header.columns) rows
    × ((during rest line : List ℕ) × IsRowsText (IsNewTextLater d p) p header [] None rows during
    × IsRestText (IsNewTextLater d p) p (record { header = header; rows = rows }) rest
    × IsStartLine p (record { header = header; rows = rows }) line × (text ≡ during ++ rest ++ line))
StreamTextLater d early p header rows ended text = IsEarlyTextLater d p header rows ended text
StreamTextLater d margins p header rows false text = IsRowsText (IsNewMarginsLater d p) p header [] None rows text
StreamTextLater d margins p header rows true text =
    AreRows (length header.columns) rows
    × ((during rest : List ℕ) × IsRowsText (IsNewMarginsLater d p) p header [] None rows during
    × IsRestText (IsNewMarginsLater d p) p (record { header = header; rows = rows }) rest × (text ≡ during ++ rest))

-- what a stream owes for the rows of the delayed trace is what it owes for those of the trace, with each time d ticks later
abbrev pub StreamsMove : Type 0
StreamsMove =
    (s : Stream) (f : Formula) (tr : Trace) (d : ℕ) (ended : Bool) (text : List ℕ) → IsTrace tr → Owes s f (delayed d tr) ended text
    → StreamTextLater d s (root (nodes_for f tr)) tr.header tr.rows ended text
