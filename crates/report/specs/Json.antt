-- The report as one JSON object, with its keys in ascending order.
use Rattle.std.specs.Prelude.{◌≡◌, ℕ, Bool, List, [], ◌∷◌, ◌++◌, codes, Some, slice_get}
use Rattle.serde_json.specs.Data.{Data, boolean, string, array, object, Items, no_items, item, no_members, member}
use Rattle.stl_syntax.specs.Knots.{Knot, Piece, Knots}
use Rattle.stl_syntax.specs.Formula.{Formula}
use Rattle.stl_syntax.specs.Texts.{IsNumberText, IsValueText, IsSpanText}
use Rattle.stl_syntax.specs.Print.{IsAtomText, IsPrintedFormula}
use Rattle.stl_syntax.specs.declared.scale.Scale.{Scale}
use Rattle.stl_syntax.specs.declared.items.Verdict.{Verdict}
use Rattle.stl_syntax.specs.declared.items.Item.{Item}
use Rattle.stl_syntax.specs.declared.atom.Atom.{Atom}
use Rattle.stl_syntax.specs.declared.node.Node.TheVariants.{Atom as Leaf}

-- the verdict lines in order
abbrev pub AreVerdictData : Scale → List Verdict → Items → Type 0
AreVerdictData scale [] items = items ≡ no_items
AreVerdictData scale (v ∷ verdicts) items =
    (on : List ℕ) × (later : Items) × IsSpanText scale v.on on × AreVerdictData scale verdicts later
    × (items ≡ item (object (member (codes "on") (string on) (member (codes "value") (boolean v.holds) no_members))) later)

-- the items in order
abbrev pub AreItemData : Scale → Formula → List Item → Items → Type 0
AreItemData scale f [] items = items ≡ no_items
AreItemData scale f (e ∷ more) items =
    (a : Atom) × (slice_get f.nodes e.node ≡ Some (Leaf a)) × ((name on : List ℕ) × (later : Items) × IsAtomText f.scale a name × IsSpanText scale e.on on
    × AreItemData scale f more later
    × (items ≡ item
    (object (member (codes "atom") (string name) (member (codes "on") (string on) (member (codes "value") (boolean e.holds) no_members)))) later))

-- a knot
abbrev pub IsKnotData : Scale → Knot → Data → Type 0
IsKnotData scale k d =
    (time value : List ℕ) × IsNumberText scale.time k.time time × IsValueText scale.value k.value value
    × (d ≡ object (member (codes "at") (string time) (member (codes "margin") (string value) no_members)))

-- a piece after knot k
abbrev pub IsPieceData : Scale → Knot → Piece → Data → Type 0
IsPieceData scale k p d =
    (a b from to : List ℕ) × IsNumberText scale.time k.time a × IsNumberText scale.time p.next.time b
    × IsValueText scale.value p.from from × IsValueText scale.value p.to to
    × (d ≡ object (member (codes "from") (string from)
    (member (codes "on") (string (codes "(" ++ a ++ codes "," ++ b ++ codes ")")) (member (codes "to") (string to) no_members))))

-- the pieces in order, each with the knot after it
abbrev pub ArePieceData : Scale → Knot → List Piece → Items → Type 0
ArePieceData scale k [] items = items ≡ no_items
ArePieceData scale k (p ∷ pieces) items =
    (piece knot : Data) × (later : Items) × IsPieceData scale k p piece × IsKnotData scale p.next knot × ArePieceData scale p.next pieces later
    × (items ≡ item piece (item knot later))

-- the robustness lines in order
abbrev pub AreMarginData : Scale → Knots → Items → Type 0
AreMarginData scale knots items =
    (knot : Data) × (later : Items) × IsKnotData scale knots.first knot × ArePieceData scale knots.first knots.pieces later × (items ≡ item knot later)

-- the object of a report; its text is followed by LF
abbrev pub IsReportData : Scale → Formula → List Verdict → Knots → List Item → Bool → Data → Type 0
IsReportData scale f verdicts knots explained holds d =
    (printed : List ℕ) × (items margins spans : Items) × IsPrintedFormula f printed × AreItemData scale f explained items × AreMarginData scale knots margins
    × AreVerdictData scale verdicts spans
    × (d ≡ object (member (codes "formula") (string printed) (member (codes "items") (array items) (member (codes "margins") (array margins)
    (member (codes "start") (boolean holds) (member (codes "verdicts") (array spans) no_members))))))
