-- The texts of a report's parts, piece by piece.
use Rattle.std.specs.Prelude.{◌≡◌, ℕ, Bool, false, List, [], ◌++◌, codes, Some, slice_get}
use Rattle.rational.specs.Time.{Rational}
use Rattle.serde_json.specs.Data.{Data, boolean, string, array, object, Items, no_items, no_members, member}
use Rattle.serde_json.specs.Written.{items_text, compact_text}
use Rattle.stl_syntax.specs.Knots.{Knot, Knots}
use Rattle.stl_syntax.specs.Formula.{Formula}
use Rattle.stl_syntax.specs.Print.{IsAtomText, IsPrintedFormula}
use Rattle.stl_syntax.specs.Texts.{IsNumberText, IsSpanText}
use Rattle.stl_syntax.specs.declared.scale.Scale.{Scale}
use Rattle.stl_syntax.specs.declared.items.Item.{Item}
use Rattle.stl_syntax.specs.declared.items.Verdict.{Verdict}
use Rattle.stl_syntax.specs.declared.atom.Atom.{Atom}
use Rattle.stl_syntax.specs.declared.node.Node.TheVariants.{Atom as Leaf}
use Rattle.answer_lines.specs.Appended.{AreEach, Then, Is}
use Rattle.report.specs.Json.{IsKnotData, IsPieceData, AreItemData}
use Rattle.report.specs.Report.{IsItemLines}
use Rattle.answer_lines.specs.Steps.{Step, steps_of}

-- a text of a kind as a string
abbrev pub IsStringOf : (List ℕ → Type 0) → Data → Type 0
IsStringOf P d = (s : List ℕ) × P s × (d ≡ string s)

-- the open span between two times
abbrev pub IsGapText : ℕ → Rational → Rational → List ℕ → Type 0
IsGapText digits s t text =
    (a b : List ℕ) × IsNumberText digits s a × IsNumberText digits t b × (text ≡ codes "(" ++ a ++ codes "," ++ b ++ codes ")")

-- a value of a kind as compact text, after some bytes
abbrev pub IsDataText : List ℕ → (Data → Type 0) → List ℕ → Type 0
IsDataText lead P text = (d : Data) × P d × (text ≡ lead ++ compact_text d)

-- a verdict
abbrev pub IsVerdictData : Scale → Verdict → Data → Type 0
IsVerdictData scale v d =
    (on : List ℕ) × IsSpanText scale v.on on × (d ≡ object (member (codes "on") (string on) (member (codes "value") (boolean v.holds) no_members)))

-- an item
abbrev pub IsItemData : Scale → Formula → Item → Data → Type 0
IsItemData scale f e d =
    (a : Atom) × (slice_get f.nodes e.node ≡ Some (Leaf a)) × ((name on : List ℕ) × IsAtomText f.scale a name × IsSpanText scale e.on on
    × (d ≡ object (member (codes "atom") (string name) (member (codes "on") (string on) (member (codes "value") (boolean e.holds) no_members)))))

-- an item, after some bytes
abbrev pub IsItemEntry : List ℕ → Scale → Formula → Item → List ℕ → Type 0
IsItemEntry lead scale f e = IsDataText lead (IsItemData scale f e)

-- the items after the first, where neighbours that join are one
pub record AreLaterEntries (scale : Scale) (f : Formula) (items : List Item) (text : List ℕ) : Type 0 where
  pub lines : List Item
  pub joined : IsItemLines items lines
  pub written : AreEach (IsItemEntry (codes ",") scale f) lines text

-- the list of the items with its closing bracket
pub record AreItemEntries (scale : Scale) (f : Formula) (items : List Item) (text : List ℕ) : Type 0 where
  pub lines : List Item
  pub joined : IsItemLines items lines
  pub array : Items
  pub entries : AreItemData scale f lines array
  pub is : text ≡ items_text false array

-- a knot, after some bytes
abbrev pub IsKnotEntry : List ℕ → Scale → Knot → List ℕ → Type 0
IsKnotEntry lead scale k = IsDataText lead (IsKnotData scale k)

-- a piece, after a comma
abbrev pub IsPieceEntry : Scale → Step → List ℕ → Type 0
IsPieceEntry scale s = IsDataText (codes ",") (IsPieceData scale s.knot s.piece)

-- a piece and the knot after it, each after a comma
abbrev pub IsStepEntry : Scale → Step → List ℕ → Type 0
IsStepEntry scale s = Then (IsPieceEntry scale s) (IsKnotEntry (codes ",") scale s.piece.next)

-- the list of knots and pieces with its closing bracket
abbrev pub AreMarginEntries : Scale → Knots → List ℕ → Type 0
AreMarginEntries scale knots = Then (IsKnotEntry [] scale knots.first) (Then (AreEach (IsStepEntry scale) (steps_of knots)) (Is (codes "]")))

-- the object of a report with its formula and a list of items, of which it has none yet
abbrev pub IsHeadData : Formula → Data → Type 0
IsHeadData f d =
    (printed : List ℕ) × IsPrintedFormula f printed
    × (d ≡ object (member (codes "formula") (string printed) (member (codes "items") (array no_items) no_members)))

-- the object with the list of margins, of which it has none yet
abbrev pub margins_data : Data
margins_data = object (member (codes "margins") (array no_items) no_members)

-- the object with the truth at the start and the list of verdicts, of which it has none yet
abbrev pub start_data : Bool → Data
start_data holds = object (member (codes "start") (boolean holds) (member (codes "verdicts") (array no_items) no_members))

-- the text of the object ends with an empty list, before which these bytes stand behind the brace
abbrev pub EndsWithList : Data → List ℕ → Type 0
EndsWithList d front = compact_text d ≡ codes "{" ++ (front ++ codes "]}")

-- the text of the object, with some bytes in place of its brace, up to where the items of the list at its end begin
abbrev pub IsOpened : List ℕ → Data → List ℕ → Type 0
IsOpened lead d text = (front : List ℕ) × EndsWithList d front × (text ≡ lead ++ front)

-- from the beginning up to where the items begin
abbrev pub IsOpening : Formula → List ℕ → Type 0
IsOpening f text = (d : Data) × IsHeadData f d × IsOpened (codes "{") d text

-- from the beginning to the items
abbrev pub HeadParts : Scale → Formula → List Item → List ℕ → Type 0
HeadParts scale f items = Then (IsOpening f) (AreItemEntries scale f items)
