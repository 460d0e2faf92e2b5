-- Robustness as a stream: the points and the open gaps of a stretch.
use Rattle.std.specs.Prelude.{◌≡◌, ℕ, ℤ, Bool, true, false, List, [], ◌++◌, length, int_lt, Option, Some, None, MatchBool}
use Rattle.rational.specs.Time.{Rational, ◌≈◌, whole}
use Rattle.stl_syntax.specs.Trace.{Header, Row, Trace, AreRows, start}
use Rattle.stl_syntax.specs.Formula.{Subformula}
use Rattle.stl_syntax.specs.Knots.{Knot, Piece, Knots}
use Rattle.stl_syntax.specs.Texts.{AreMarginLines, ArePieceLines}
use Rattle.stl_syntax.specs.Stream.{IsRowsText, IsRestText}
use Rattle.stl_syntax.specs.Verdicts.{TellsAfter, TellsClosed}

-- the robustness over (after,to]: pieces alone, of which the first begins at the time `after`
abbrev pub TellsLeftOpen : Subformula → Trace → Rational → Rational → Knot → List Piece → Type 0
TellsLeftOpen p tr after to k pieces = (k.time ≈ after) × TellsAfter p tr to k pieces

-- the robustness lines of what a front at `new` answers beyond `old`
abbrev pub IsNewMargins : Subformula → Trace → Option ℤ → Option ℤ → List ℕ → Type 0
IsNewMargins p tr old None text = text ≡ []
IsNewMargins p tr None (Some new) text = (knots : Knots) × TellsClosed p tr (start tr) (whole new) knots × AreMarginLines tr.header.scale knots text
IsNewMargins p tr (Some old) (Some new) text =
    MatchBool (int_lt old new)
    ((k : Knot) × (pieces : List Piece) × TellsLeftOpen p tr (whole old) (whole new) k pieces × ArePieceLines tr.header.scale k pieces text)
    (text ≡ [])

-- the text for these rows, with the rest where the input has ended; then there is a row
abbrev pub IsMarginStream : Subformula → Header → List Row → Bool → List ℕ → Type 0
IsMarginStream p header rows false text = IsRowsText (IsNewMargins p) p header [] None rows text
IsMarginStream p header rows true text =
    AreRows (length header.columns) rows
    × ((during rest : List ℕ) × IsRowsText (IsNewMargins p) p header [] None rows during
    × IsRestText (IsNewMargins p) p (record { header = header; rows = rows }) rest × (text ≡ during ++ rest))
