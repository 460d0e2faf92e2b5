-- Verdicts and knots that are alike have each text of the other; items of a report have lines.
use Rattle.std.proofs.Common.{refl, ap, ◌∙◌, ℕ, List, [], ◌∷◌, ◌++◌, codes}
use Rattle.std.specs.Prelude.{if◌then◌else◌}
use Rattle.rational.specs.Time.{Rational, ◌≈◌, BeginAlike, EndAlike}
use Rattle.rational.proofs.Order.{same_sym, same_trans}
use Rattle.frac128.specs.Spans.{interval}
use Rattle.frac128.specs.declared.span.Span.{Span}
use Rattle.stl_syntax.specs.Formula.{Formula}
use Rattle.stl_syntax.specs.Knots.{Knot, Piece, Knots}
use Rattle.stl_syntax.specs.Verdicts.{AreAlike, KnotsAlike, PiecesAlike}
use Rattle.stl_syntax.specs.Texts.{IsNumberText, bool_text, IsSpanText, newline}
use Rattle.stl_syntax.specs.Texts.{AreVerdictLines, IsKnotLine, ArePieceLines, AreMarginLines}
use Rattle.stl_syntax.specs.declared.scale.Scale.{Scale}
use Rattle.stl_syntax.specs.declared.items.Verdict.{Verdict}
use Rattle.stl_syntax.specs.declared.items.Item.{Item}
use Rattle.serde_json.specs.Data.{Items}
use Rattle.answer_lines.proofs.KeptTexts.{value_of_same}
use Rattle.report.specs.Json.{AreItemData}
use Rattle.report.specs.Table.{AreRecords, IsTableText}
use Rattle.report.specs.Report.{AreItemLines}

-- a number has the text of each other pair of its value
pub number_alike : (digits : ℕ) {t u : Rational} {x : List ℕ} → t ≈ u → IsNumberText digits t x → IsNumberText digits u x
number_alike digits e a = record { num = a.num; den = a.den; lowest = a.lowest; same = same_trans (same_sym e) a.same; is = a.is }

span_alike : (scale : Scale) (a b : Span) {x : List ℕ} → BeginAlike (interval a) (interval b) → EndAlike (interval a) (interval b)
    → IsSpanText scale a x → IsSpanText scale b x
span_alike scale a b begin end p = record {
  from = p.from;
  to = p.to;
  from_is = number_alike scale.time begin.time p.from_is;
  to_is = number_alike scale.time end.time p.to_is;
  is = p.is ∙ ap (λ c. (if c then codes "[" else codes "(") ++ p.from ++ codes "," ++ p.to ++ (if a.to_in then codes "]" else codes ")")) begin.inside
      ∙ ap (λ c. (if b.from_in then codes "[" else codes "(") ++ p.from ++ codes "," ++ p.to ++ (if c then codes "]" else codes ")")) end.inside;
}

-- verdicts have the lines of verdicts that are alike
pub verdict_lines_alike : (scale : Scale) (vs ws : List Verdict) (x : List ℕ) → AreAlike vs ws → AreVerdictLines scale vs x → AreVerdictLines scale ws x
verdict_lines_alike scale [] [] x e h = h
verdict_lines_alike scale [] (w ∷ ws) x e h = absurd e
verdict_lines_alike scale (v ∷ vs) [] x e h = absurd e
verdict_lines_alike scale (v ∷ vs) (w ∷ ws) x (begin, end, holds, e) (here, later, (on, on_is, here_is), rest, is) = (
  here,
  later,
  (on, span_alike scale v.on w.on begin end on_is, here_is ∙ ap (λ b. on ++ codes " " ++ bool_text b ++ newline) holds),
  verdict_lines_alike scale vs ws later e rest,
  is,
)

knot_alike : (scale : Scale) (k l : Knot) {x : List ℕ} → KnotsAlike k l → IsKnotLine scale k x → IsKnotLine scale l x
knot_alike scale k l e (time, value, time_is, value_is, is) =
    (time, value, number_alike scale.time e.time time_is, value_of_same scale.value k.value l.value value e.value value_is, is)

-- the first knots and all pieces of two lists are alike
pub record AllAlike (k l : Knot) (ps qs : List Piece) : Type 0 where
  -- the knots
  pub first : KnotsAlike k l
  -- the pieces
  pub pieces : PiecesAlike ps qs

pieces_alike : (scale : Scale) (k l : Knot) (ps qs : List Piece) (x : List ℕ) → AllAlike k l ps qs → ArePieceLines scale k ps x → ArePieceLines scale l qs x
pieces_alike scale k l [] [] x e h = h
pieces_alike scale k l [] (b ∷ qs) x e h = absurd e.pieces
pieces_alike scale k l (a ∷ ps) [] x e h = absurd e.pieces
pieces_alike scale k l (a ∷ ps) (b ∷ qs) x e (piece, knot, later, (s, t, from, to, s_is, t_is, from_is, to_is, piece_is), knot_is, rest, is) =
    let (f, g, next, more) = e.pieces in (
      piece,
      knot,
      later,
      (
        s,
        t,
        from,
        to,
        number_alike scale.time e.first.time s_is,
        number_alike scale.time next.time t_is,
        value_of_same scale.value a.from b.from from f from_is,
        value_of_same scale.value a.to b.to to g to_is,
        piece_is,
      ),
      knot_alike scale a.next b.next next knot_is,
      pieces_alike scale a.next b.next ps qs later (record { first = next; pieces = more }) rest,
      is,
    )

-- knots have the lines of knots that are alike
pub margin_lines_alike : (scale : Scale) (ks ls : Knots) (x : List ℕ) → AllAlike ks.first ls.first ks.pieces ls.pieces
    → AreMarginLines scale ks x → AreMarginLines scale ls x
margin_lines_alike scale ks ls x e (first, later, first_is, rest, is) = (
  first,
  later,
  knot_alike scale ks.first ls.first e.first first_is,
  pieces_alike scale ks.first ls.first ks.pieces ls.pieces later e rest,
  is,
)

records_alike : (scale : Scale) (k l : Knot) (ps qs : List Piece) (xs : List (List (List ℕ))) → AllAlike k l ps qs
    → AreRecords scale k ps xs → AreRecords scale l qs xs
records_alike scale k l [] [] xs e (time, value, time_is, value_is, is) =
    (time, value, number_alike scale.time e.first.time time_is, value_of_same scale.value k.value l.value value e.first.value value_is, is)
records_alike scale k l [] (b ∷ qs) xs e h = absurd e.pieces
records_alike scale k l (a ∷ ps) [] xs e h = absurd e.pieces
records_alike scale k l (a ∷ ps) (b ∷ qs) xs e (time, value, from, to, later, time_is, value_is, from_is, to_is, rest, is) =
    let (f, g, next, more) = e.pieces in (
      time,
      value,
      from,
      to,
      later,
      number_alike scale.time e.first.time time_is,
      value_of_same scale.value k.value l.value value e.first.value value_is,
      value_of_same scale.value a.from b.from from f from_is,
      value_of_same scale.value a.to b.to to g to_is,
      records_alike scale a.next b.next ps qs later (record { first = next; pieces = more }) rest,
      is,
    )

-- knots have the table of knots that are alike
pub table_alike : (scale : Scale) (ks ls : Knots) (x : List ℕ) → AllAlike ks.first ls.first ks.pieces ls.pieces
    → IsTableText scale ks x → IsTableText scale ls x
table_alike scale ks ls x e (records, are, is) = (records, records_alike scale ks.first ls.first ks.pieces ls.pieces records e are, is)

-- the items of a report have lines
pub item_lines : (scale : Scale) (f : Formula) (es : List Item) (array : Items) → AreItemData scale f es array → (text : List ℕ) × AreItemLines scale f es text
item_lines scale f [] array h = ([], refl)
item_lines scale f (e ∷ es) array (a, at, (name, on, later, name_is, on_is, rest, is)) =
    let (text, lines) = item_lines scale f es later rest in
    (name ++ codes " " ++ bool_text e.holds ++ codes " on " ++ on ++ newline ++ text, (a, at, (name, on, text, name_is, on_is, lines, refl)))
