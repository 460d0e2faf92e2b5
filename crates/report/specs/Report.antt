-- The whole text of a command.
use Rattle.std.specs.Prelude.{◌≡◌, ◌⊎◌, ℕ, List, [], ◌∷◌, ◌++◌, codes, Some, slice_get, Bool, MatchBool}
use Rattle.rational.specs.Time.{closed, BeginAlike, EndAlike, Touch}
use Rattle.frac128.specs.Spans.{interval}
use Rattle.stl_syntax.specs.Trace.{Trace, start, stop}
use Rattle.stl_syntax.specs.Truth.{Truth}
use Rattle.stl_syntax.specs.Knots.{Knots}
use Rattle.stl_syntax.specs.Kept.{Kept}
use Rattle.stl_syntax.specs.Formula.{Formula, root}
use Rattle.stl_syntax.specs.Print.{IsAtomText}
use Rattle.stl_syntax.specs.declared.scale.Scale.{Scale}
use Rattle.stl_syntax.specs.Verdicts.{Describes, DescribesMargins}
use Rattle.stl_syntax.specs.Texts.{AreVerdictLines, IsStartLine, AreMarginLines, newline, bool_text, IsSpanText}
use Rattle.serde_json.specs.Data.{Data}
use Rattle.serde_json.specs.Written.{compact_text}
use Rattle.stl_syntax.specs.Scaling.{nodes_for}
use Rattle.report.specs.Json.{IsReportData}
use Rattle.report.specs.Table.{IsTableText}
use Rattle.stl_syntax.specs.declared.items.Verdict.{Verdict}
use Rattle.stl_syntax.specs.declared.items.Item.{Item}
use Rattle.stl_syntax.specs.declared.node.Node.TheVariants.{Atom as Leaf}
use Rattle.stl_syntax.specs.declared.atom.Atom.{Atom}

-- the commands that judge a whole trace
pub data Command : Type 0 where
  check : Command
  robust : Command
  explain : Command
  json : Command
  table : Command

-- two neighbours in the list are written as one
abbrev pub Join : Item → Item → Type 0
Join e f = (e.node ≡ f.node) × (e.holds ≡ f.holds) × Touch (interval e.on) (interval f.on)

-- the lines are the items, where neighbours that join are one: `line` is the one that is being written, which ends with the last item read
abbrev pub AreJoined : Item → Item → List Item → List Item → Type 0
AreJoined line last [] lines = lines ≡ line ∷ []
AreJoined line last (e ∷ items) lines =
    (Join last e × ((longer : Item) × (longer.node ≡ line.node) × (longer.holds ≡ line.holds) × BeginAlike (interval longer.on) (interval line.on)
    × EndAlike (interval longer.on) (interval e.on) × AreJoined longer e items lines))
    ⊎ ((¬ Join last e) × ((others : List Item) × (lines ≡ line ∷ others) × AreJoined e e items others))

-- the items with neighbours joined
abbrev pub IsItemLines : List Item → List Item → Type 0
IsItemLines [] lines = lines ≡ []
IsItemLines (e ∷ items) lines = AreJoined e e items lines

-- the lines of items, with the formula's own atoms
abbrev pub AreItemLines : Scale → Formula → List Item → List ℕ → Type 0
AreItemLines scale f [] text = text ≡ []
AreItemLines scale f (e ∷ items) text =
    (a : Atom) × (slice_get f.nodes e.node ≡ Some (Leaf a)) × ((name on later : List ℕ) × IsAtomText f.scale a name × IsSpanText scale e.on on
    × AreItemLines scale f items later × (text ≡ name ++ codes " " ++ bool_text e.holds ++ codes " on " ++ on ++ newline ++ later))

-- no item where the formula holds at the start, and else those that are kept, with neighbours joined
abbrev pub IsExplained : Formula → Trace → List Item → Type 0
IsExplained f tr lines =
    (Truth (root (nodes_for f tr)) tr (start tr) × (lines ≡ []))
    ⊎ ((¬ Truth (root (nodes_for f tr)) tr (start tr)) × ((items : List Item) × Kept (nodes_for f tr) tr items × IsItemLines items lines))

-- the text of a command for a formula and a trace
abbrev pub Out : Command → Formula → Trace → List ℕ → Type 0
Out check f tr text =
    (verdicts : List Verdict) × (body line : List ℕ) × Describes verdicts (root (nodes_for f tr)) tr (closed (start tr) (stop tr))
    × AreVerdictLines tr.header.scale verdicts body × IsStartLine (root (nodes_for f tr)) tr line × (text ≡ body ++ line)
Out robust f tr text = (knots : Knots) × DescribesMargins knots (root (nodes_for f tr)) tr × AreMarginLines tr.header.scale knots text
Out explain f tr text =
    (items : List Item) × (line body : List ℕ) × IsExplained f tr items × IsStartLine (root (nodes_for f tr)) tr line
    × AreItemLines tr.header.scale f items body × (text ≡ line ++ body)
Out json f tr text =
    (verdicts : List Verdict) × (knots : Knots) × (items : List Item) × (holds : Bool) × (report : Data)
    × Describes verdicts (root (nodes_for f tr)) tr (closed (start tr) (stop tr)) × DescribesMargins knots (root (nodes_for f tr)) tr × IsExplained f tr items
    × MatchBool holds (Truth (root (nodes_for f tr)) tr (start tr)) (¬ Truth (root (nodes_for f tr)) tr (start tr))
    × IsReportData tr.header.scale f verdicts knots items holds report × (text ≡ compact_text report ++ newline)
Out table f tr text = (knots : Knots) × DescribesMargins knots (root (nodes_for f tr)) tr × IsTableText tr.header.scale knots text
