-- The text of the lines that a node gave out is that of the stream of its margins.
use Rattle.std.proofs.Common.{◌≡◌, ℕ, Bool, true, false, List, [], ◌∷◌, ◌++◌, length, refl, sym, ap}
use Rattle.std.proofs.Common.{subst, ◌∙◌, append_assoc, append-nil, Option, Some, None, ℤ, pos}
use Rattle.std.specs.Prelude.{MatchBool, int_lt}
use Rattle.rational.specs.Time.{whole}
use Rattle.stl_syntax.specs.Trace.{Header, Row, Trace, AreRows, first_time, last_time}
use Rattle.stl_syntax.specs.Formula.{Subformula}
use Rattle.stl_syntax.specs.Knots.{Knot, Piece, Knots}
use Rattle.stl_syntax.specs.Stream.{IsRowsText}
use Rattle.stl_syntax.specs.Texts.{AreMarginLines, ArePieceLines}
use Rattle.stl_syntax.specs.declared.scale.Scale.{Scale}
use Rattle.online_nodes.specs.MarginEdges.{Part, parts_after, parts_of, IsPartLine, AreNewParts, AreRowsParts, AreEmittedParts, shown_number}
use Rattle.online_nodes.specs.MarginStream.{TellsLeftOpen, IsNewMargins, IsMarginStream}
use Rattle.online_nodes.specs.StreamedWide.{front_at}
use Rattle.online_robust.specs.Lining.{ArePartLines}

-- the text of two lists is that of the one, and then that of the other
pub lines_split : (scale : Scale) (a b : List Part) (text : List ℕ) → ArePartLines scale (a ++ b) text
    → (x y : List ℕ) × ArePartLines scale a x × ArePartLines scale b y × (text ≡ x ++ y)
lines_split scale [] b text lines = ([], text, refl, lines, refl)
lines_split scale (p ∷ a) b text (here, later, is, lines, e) =
    let (x, y, first, second, f) = lines_split scale a b later lines in
    (here ++ x, y, (here, x, is, first, refl), second, e ∙ ap (λ l. here ++ l) f ∙ sym (append_assoc here x y))

-- a line more
pub lines_more : (scale : Scale) (a : List Part) (p : Part) (text line : List ℕ) → ArePartLines scale a text → IsPartLine scale p line
    → ArePartLines scale (a ++ p ∷ []) (text ++ line)
lines_more scale [] p text line lines is = (line, [], is, refl, ap (λ l. l ++ line) lines ∙ sym (append-nil line))
lines_more scale (q ∷ a) p text line (here, later, is_here, lines, e) is =
    (here, later ++ line, is_here, lines_more scale a p later line lines is, ap (λ l. l ++ line) e ∙ append_assoc here later line)

piece_lines : (scale : Scale) (k : Knot) (pieces : List Piece) (text : List ℕ)
    → ArePartLines scale (parts_after k.time pieces) text → ArePieceLines scale k pieces text
piece_lines scale k [] text lines = lines
piece_lines scale k (p ∷ pieces) text (gap_line, rest, is_gap, (knot_line, later, is_knot, lines, f), e) = (
  gap_line,
  knot_line,
  later,
  is_gap,
  is_knot,
  piece_lines scale p.next pieces later lines,
  e ∙ ap (λ l. gap_line ++ l) f ∙ sym (append_assoc gap_line knot_line later),
)

margin_lines : (scale : Scale) (knots : Knots) (text : List ℕ) → ArePartLines scale (parts_of knots) text → AreMarginLines scale knots text
margin_lines scale knots text (first, later, is, lines, e) = (first, later, is, piece_lines scale knots.first knots.pieces later lines, e)

-- the text of what is new
new_text : (p : Subformula) (tr : Trace) (old new : Option ℤ) (parts : List Part) (text : List ℕ) → AreNewParts p tr old new parts
    → ArePartLines tr.header.scale parts text → IsNewMargins p tr old new text
new_text p tr old None parts text are lines = subst (λ l. ArePartLines tr.header.scale l text) are lines
new_text p tr None (Some new) parts text (knots, tells, e) lines =
    (knots, tells, margin_lines tr.header.scale knots text (subst (λ l. ArePartLines tr.header.scale l text) e lines))
new_text p tr (Some old) (Some new) parts text are lines = by_test (int_lt old new) are
  where
    by_test : (b : Bool)
        → MatchBool b ((k : Knot) × (pieces : List Piece) × TellsLeftOpen p tr (whole old) (whole new) k pieces
        × (parts ≡ parts_after k.time pieces)) (parts ≡ [])
        → MatchBool b ((k : Knot) × (pieces : List Piece) × TellsLeftOpen p tr (whole old) (whole new) k pieces
        × ArePieceLines tr.header.scale k pieces text) (text ≡ [])
    by_test true (k, pieces, tells, e) =
        (k, pieces, tells, piece_lines tr.header.scale k pieces text (subst (λ l. ArePartLines tr.header.scale l text) e lines))
    by_test false e = subst (λ l. ArePartLines tr.header.scale l text) e lines

module _ (p : Subformula) (header : Header) where
  rows_text : (before rows : List Row) (old : Option ℤ) (parts : List Part) (text : List ℕ) → AreRowsParts p header before old rows parts
      → ArePartLines header.scale parts text → IsRowsText (IsNewMargins p) p header before old rows text
  rows_text before [] old parts text are lines = subst (λ l. ArePartLines header.scale l text) are lines
  rows_text before (r ∷ rows) old parts text (here, later, is_here, are, e) lines =
      let (x, y, first, second, f) = lines_split header.scale here later text (subst (λ l. ArePartLines header.scale l text) e lines) in (
        x,
        y,
        new_text p (record { header = header; rows = before ++ r ∷ [] }) old
            (shown_number (first_time (before ++ r ∷ [])) (front_at false (pos r.time) p)) here x is_here first,
        rows_text (before ++ r ∷ []) rows (shown_number (first_time (before ++ r ∷ [])) (front_at false (pos r.time) p)) later y are second,
        f,
      )

  -- the text of all that was given out for these rows
  pub stream_text : (rows : List Row) (ended : Bool) (parts : List Part) (text : List ℕ) → (ended ≡ true → AreRows (length header.columns) rows)
      → AreEmittedParts p header rows ended parts → ArePartLines header.scale parts text → IsMarginStream p header rows ended text
  stream_text rows false parts text some are lines = rows_text [] rows None parts text are lines
  stream_text rows true parts text some (during, rest, are, new, e) lines =
      let (x, y, first, second, f) = lines_split header.scale during rest text (subst (λ l. ArePartLines header.scale l text) e lines) in (
        some refl,
        (
          x,
          y,
          rows_text [] rows None during x are first,
          new_text p (record { header = header; rows = rows }) (shown_number (first_time rows) (front_at false (pos (last_time 0 rows)) p))
              (Some (pos (last_time 0 rows))) rest y new second,
          f,
        ),
      )
