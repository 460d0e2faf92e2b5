-- What a stream of robustness writes for rows is one text, and rows more only make it longer.
use Rattle.std.proofs.Common.{◌≡◌, Bool, true, false, List, [], ◌++◌, ap, ◌∙◌, sym, append_assoc, Some, None, ℤ, ℕ}
use Rattle.std.specs.Prelude.{int_lt}
use Rattle.rational.specs.Time.{whole}
use Rattle.rational.proofs.Order.{same_sym, same_trans}
use Rattle.stl_syntax.specs.Trace.{Header, Row, Trace}
use Rattle.stl_syntax.specs.Formula.{Subformula}
use Rattle.stl_syntax.specs.Knots.{Knot, Piece}
use Rattle.stl_syntax.specs.Texts.{ArePieceLines}
use Rattle.online_nodes.specs.MarginStream.{TellsLeftOpen, IsNewMargins, IsMarginStream}
use Rattle.stl_syntax.proofs.MarginsLaw.{closed_once, after_once}
use Rattle.answer_lines.proofs.OneText.{pieces_once, margins_once}
use Rattle.answer_lines.proofs.StreamTexts.{IsLonger, IsOneText, by_test, rows_once, rows_grow, rest_once}

-- the lines of robustness after an old front
abbrev IsOpenText : Subformula → Trace → ℤ → ℤ → List ℕ → Type 0
IsOpenText p tr old new text = (k : Knot) × (pieces : List Piece) × TellsLeftOpen p tr (whole old) (whole new) k pieces
    × ArePieceLines tr.header.scale k pieces text

open_once : (p : Subformula) (tr : Trace) (old new : ℤ) (x y : List ℕ) → IsOpenText p tr old new x → IsOpenText p tr old new y → x ≡ y
open_once p tr old new x y (k, pieces, (at, tells), lines) (l, others, (at', tells'), lines') =
    let times = same_trans at (same_sym at') in
    pieces_once tr.header.scale k l pieces others x y times (after_once p tr _ k l pieces others times tells tells') lines lines'

-- the lines of robustness that a row answers
pub new_margins_once : (p : Subformula) → IsOneText (IsNewMargins p)
new_margins_once p tr old None x y a b = a ∙ sym b
new_margins_once p tr None (Some new) x y (ks, a, lines) (ls, b, others) =
    let e = closed_once p tr _ _ ks ls a b in margins_once tr.header.scale ks ls x y e.0 e.1 lines others
new_margins_once p tr (Some old) (Some new) x y a b = by_test (IsOpenText p tr old new) (int_lt old new) x y (open_once p tr old new x y) a b

-- so is the text of a stream
pub margin_stream_once : (p : Subformula) (header : Header) (rows : List Row) (ended : Bool) (x y : List ℕ)
    → IsMarginStream p header rows ended x → IsMarginStream p header rows ended y → x ≡ y
margin_stream_once p header rows false x y a b = rows_once (new_margins_once p) p header [] None rows x y a b
margin_stream_once p header rows true x y (_, (during, rest, a, b, is)) (_, (during', rest', a', b', is')) =
    is ∙ ap (λ t. t ++ rest) (rows_once (new_margins_once p) p header [] None rows during during' a a')
    ∙ ap (λ t. during' ++ t) (rest_once (new_margins_once p) p header (record { header = header; rows = rows }) rest rest' b b') ∙ sym is'

-- rows more make the text of margins longer
pub margin_stream_grows : (p : Subformula) (header : Header) (rows beyond : List Row) (ended : Bool) (x y : List ℕ) → IsMarginStream p header rows false x
    → IsMarginStream p header (rows ++ beyond) ended y → IsLonger x y
margin_stream_grows p header rows beyond false x y a b = rows_grow (new_margins_once p) p header [] None rows beyond x y a b
margin_stream_grows p header rows beyond true x y a (_, (during, rest, b, _, is)) =
    let (tail, e) = rows_grow (new_margins_once p) p header [] None rows beyond x during a b in
    (tail ++ rest, is ∙ ap (λ t. t ++ rest) e ∙ append_assoc x tail rest)
