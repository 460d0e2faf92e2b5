-- A report is one JSON text.
use Rattle.std.proofs.Common.{◌≡◌, ℕ, Bool, List, [], ◌∷◌, ◌++◌, sym, ap, subst, ◌∙◌, codes, Some}
use Rattle.std.specs.Prelude.{slice_get}
use Rattle.rational.specs.Time.{◌≈◌}
use Rattle.rational.specs.Extended.{◌≈ᵉ◌}
use Rattle.rational.proofs.Tests.{one_truth}
use Rattle.stl_syntax.specs.Trace.{Trace, start}
use Rattle.stl_syntax.specs.Formula.{Formula, atom, root}
use Rattle.stl_syntax.specs.Truth.{Truth}
use Rattle.stl_syntax.specs.Knots.{Knot, Piece, Knots}
use Rattle.stl_syntax.specs.Print.{IsAtomText}
use Rattle.stl_syntax.specs.Verdicts.{AreAlike, KnotsAlike, PiecesAlike}
use Rattle.stl_syntax.specs.Texts.{newline}
use Rattle.stl_syntax.specs.declared.atom.Atom.{Atom}
use Rattle.stl_syntax.specs.declared.items.Item.{Item}
use Rattle.stl_syntax.specs.declared.items.Verdict.{Verdict}
use Rattle.stl_syntax.specs.declared.node.Node.TheVariants.{Atom as Leaf}
use Rattle.stl_syntax.specs.declared.scale.Scale.{Scale}
use Rattle.stl_syntax.proofs.PrintLaw.{one_printed}
use Rattle.stl_syntax.proofs.VerdictsLaw.{Describes-unique}
use Rattle.stl_syntax.proofs.MarginsLaw.{DescribesMargins-unique}
use Rattle.serde_json.specs.Data.{Data, boolean, string, array, object, Items, item, no_members, member}
use Rattle.serde_json.specs.Written.{compact_text}
use Rattle.stl_syntax.specs.Scaling.{nodes_for}
use Rattle.report.specs.Json.{AreVerdictData, AreItemData, IsKnotData, IsPieceData, ArePieceData, AreMarginData, IsReportData}
use Rattle.report.specs.Report.{json, Out}
use Rattle.answer_lines.proofs.OneText.{number_once, span_once, value_once}
use Rattle.promises.proofs.ExplainTexts.{AreAllSame, explained_same}

verdicts_data : (scale : Scale) (vs ws : List Verdict) (xs ys : Items) → AreAlike vs ws → AreVerdictData scale vs xs → AreVerdictData scale ws ys → xs ≡ ys
verdicts_data scale [] [] xs ys e h k = h ∙ sym k
verdicts_data scale [] (w ∷ ws) xs ys e h k = absurd e
verdicts_data scale (v ∷ vs) [] xs ys e h k = absurd e
verdicts_data scale (v ∷ vs) (w ∷ ws) xs ys (begin, end, holds, e) (on, later, on_is, rest, is) (on', later', on_is', rest', is') =
    is ∙ ap (λ t. item (object (member (codes "on") (string t) (member (codes "value") (boolean v.holds) no_members))) later)
    (span_once scale v.on w.on begin end on_is on_is')
    ∙ ap (λ b. item (object (member (codes "on") (string on') (member (codes "value") (boolean b) no_members))) later) holds
    ∙ ap (λ l. item (object (member (codes "on") (string on') (member (codes "value") (boolean w.holds) no_members))) l)
    (verdicts_data scale vs ws later later' e rest rest') ∙ sym is'

-- an item's object
abbrev item_object : List ℕ → List ℕ → Bool → Data
item_object name on holds = object (member (codes "atom") (string name) (member (codes "on") (string on) (member (codes "value") (boolean holds) no_members)))

items_data : (scale : Scale) (f : Formula) (es gs : List Item) (xs ys : Items) → AreAllSame es gs → AreItemData scale f es xs
    → AreItemData scale f gs ys → xs ≡ ys
items_data scale f [] [] xs ys s h k = h ∙ sym k
items_data scale f [] (g ∷ gs) xs ys s h k = absurd s
items_data scale f (e ∷ es) [] xs ys s h k = absurd s
items_data scale f (e ∷ es) (g ∷ gs) xs ys (s, all) (a, at, (name, on, later, name_is, on_is, rest, is))
    (b, at', (name', on', later', name_is', on_is', rest', is')) =
    let found : Some (Leaf a) ≡ Some (Leaf b) = sym at ∙ ap (slice_get f.nodes) s.node ∙ at' in
    let one : a ≡ b = cc in
    let names : name ≡ name' = one_printed f.scale (atom 0 b) name name' (subst (λ (c : Atom). IsAtomText f.scale c name) one name_is) name_is' in
    is ∙ ap (λ t. item (item_object t on e.holds) later) names
    ∙ ap (λ t. item (item_object name' t e.holds) later) (span_once scale e.on g.on s.on.begin s.on.end on_is on_is')
    ∙ ap (λ h. item (item_object name' on' h) later) s.holds
    ∙ ap (λ l. item (item_object name' on' g.holds) l) (items_data scale f es gs later later' all rest rest') ∙ sym is'

knot_data : (scale : Scale) (k l : Knot) (x y : Data) → KnotsAlike k l → IsKnotData scale k x → IsKnotData scale l y → x ≡ y
knot_data scale k l x y e (t, v, t_is, v_is, is) (t', v', t_is', v_is', is') =
    is ∙ ap (λ z. object (member (codes "at") (string z) (member (codes "margin") (string v) no_members))) (number_once scale.time e.time t_is t_is')
    ∙ ap (λ z. object (member (codes "at") (string t') (member (codes "margin") (string z) no_members)))
    (value_once scale.value k.value l.value e.value v_is v_is')
    ∙ sym is'

-- a piece's object
abbrev piece_object : List ℕ → List ℕ → List ℕ → List ℕ → Data
piece_object a b from to =
    object (member (codes "from") (string from) (member (codes "on") (string (codes "(" ++ a ++ codes "," ++ b ++ codes ")"))
    (member (codes "to") (string to) no_members)))

-- two pieces, each after its knot, that are the same
record AreSamePieces (k l : Knot) (p q : Piece) : Type 0 where
  begin : k.time ≈ l.time
  from : p.from ≈ᵉ q.from
  to : p.to ≈ᵉ q.to
  end : p.next.time ≈ q.next.time

piece_data : (scale : Scale) (k l : Knot) (p q : Piece) (x y : Data) → AreSamePieces k l p q → IsPieceData scale k p x → IsPieceData scale l q y → x ≡ y
piece_data scale k l p q x y s (a, b, from, to, a_is, b_is, from_is, to_is, is) (a', b', from', to', a_is', b_is', from_is', to_is', is') =
    is ∙ ap (λ z. piece_object z b from to) (number_once scale.time s.begin a_is a_is')
    ∙ ap (λ z. piece_object a' z from to) (number_once scale.time s.end b_is b_is')
    ∙ ap (λ z. piece_object a' b' z to) (value_once scale.value p.from q.from s.from from_is from_is')
    ∙ ap (λ z. piece_object a' b' from' z) (value_once scale.value p.to q.to s.to to_is to_is') ∙ sym is'

pieces_data : (scale : Scale) (k l : Knot) (ps qs : List Piece) (xs ys : Items) → k.time ≈ l.time → PiecesAlike ps qs → ArePieceData scale k ps xs
    → ArePieceData scale l qs ys → xs ≡ ys
pieces_data scale k l [] [] xs ys e h a b = a ∙ sym b
pieces_data scale k l [] (q ∷ qs) xs ys e h a b = absurd h
pieces_data scale k l (p ∷ ps) [] xs ys e h a b = absurd h
pieces_data scale k l (p ∷ ps) (q ∷ qs) xs ys e (f, g, next, h) (piece, knot, later, piece_is, knot_is, rest, is)
    (piece', knot', later', piece_is', knot_is', rest', is') =
    is ∙ ap (λ z. item z (item knot later))
    (piece_data scale k l p q piece piece' (record { begin = e; from = f; to = g; end = next.time }) piece_is piece_is')
    ∙ ap (λ z. item piece' (item z later)) (knot_data scale p.next q.next knot knot' next knot_is knot_is')
    ∙ ap (λ z. item piece' (item knot' z)) (pieces_data scale p.next q.next ps qs later later' next.time h rest rest') ∙ sym is'

margins_data : (scale : Scale) (ks ls : Knots) (xs ys : Items) → KnotsAlike ks.first ls.first → PiecesAlike ks.pieces ls.pieces → AreMarginData scale ks xs
    → AreMarginData scale ls ys → xs ≡ ys
margins_data scale ks ls xs ys e h (knot, later, knot_is, rest, is) (knot', later', knot_is', rest', is') =
    is ∙ ap (λ z. item z later) (knot_data scale ks.first ls.first knot knot' e knot_is knot_is')
    ∙ ap (λ z. item knot' z) (pieces_data scale ks.first ls.first ks.pieces ls.pieces later later' e.time h rest rest') ∙ sym is'

-- a report's object
abbrev report_object : List ℕ → Items → Items → Bool → Items → Data
report_object printed items margins holds spans =
    object (member (codes "formula") (string printed) (member (codes "items") (array items) (member (codes "margins") (array margins)
    (member (codes "start") (boolean holds) (member (codes "verdicts") (array spans) no_members)))))

-- what a report tells
record Told : Type 0 where
  -- the verdicts
  verdicts : List Verdict
  -- the margins
  margins : Knots
  -- the items of the explanation
  items : List Item
  -- whether the formula holds at the start
  holds : Bool

-- two that tell the same
record AreSameTold (a b : Told) : Type 0 where
  verdicts : AreAlike a.verdicts b.verdicts
  knots : KnotsAlike a.margins.first b.margins.first
  pieces : PiecesAlike a.margins.pieces b.margins.pieces
  items : AreAllSame a.items b.items
  holds : a.holds ≡ b.holds

report_data : (scale : Scale) (f : Formula) (a b : Told) (x y : Data) → AreSameTold a b → IsReportData scale f a.verdicts a.margins a.items a.holds x
    → IsReportData scale f b.verdicts b.margins b.items b.holds y → x ≡ y
report_data scale f a b x y s (printed, items, margins, spans, p_is, i_is, m_is, v_is, is)
    (printed', items', margins', spans', p_is', i_is', m_is', v_is', is') =
    is ∙ ap (λ z. report_object z items margins a.holds spans) (one_printed f.scale (root f.nodes) printed printed' p_is p_is')
    ∙ ap (λ z. report_object printed' z margins a.holds spans) (items_data scale f a.items b.items items items' s.items i_is i_is')
    ∙ ap (λ z. report_object printed' items' z a.holds spans)
    (margins_data scale a.margins b.margins margins margins' s.knots s.pieces m_is m_is')
    ∙ ap (λ z. report_object printed' items' margins' z spans) s.holds
    ∙ ap (λ z. report_object printed' items' margins' b.holds z) (verdicts_data scale a.verdicts b.verdicts spans spans' s.verdicts v_is v_is') ∙ sym is'

-- `json` writes one text
pub json_once : (f : Formula) (tr : Trace) (x y : List ℕ) → Out json f tr x → Out json f tr y → x ≡ y
json_once f tr x y (vs, ks, es, holds, report, v, k, e, h, r, is) (ws, ls, gs, also, other, v', k', e', h', r', is') =
    let told : Told = record { verdicts = vs; margins = ks; items = es; holds = holds } in
    let also_told : Told = record { verdicts = ws; margins = ls; items = gs; holds = also } in
    is ∙ ap (λ d. compact_text d ++ newline)
    (report_data tr.header.scale f told also_told report other (record {
      verdicts = Describes-unique _ tr _ vs ws v v';
      knots = (DescribesMargins-unique (root (nodes_for f tr)) tr ks ls k k').0;
      pieces = (DescribesMargins-unique (root (nodes_for f tr)) tr ks ls k k').1;
      items = explained_same f tr es gs e e';
      holds = one_truth (Truth (root (nodes_for f tr)) tr (start tr)) holds also h h';
    }) r r') ∙ sym is'
