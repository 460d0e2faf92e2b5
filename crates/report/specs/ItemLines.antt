-- The lines of an explanation's items.
use Rattle.std.specs.Prelude.{◌≡◌, ℕ, List, ◌∷◌, ◌++◌, codes, Some, slice_get}
use Rattle.rational.specs.Time.{BeginAlike, EndAlike}
use Rattle.frac128.specs.Spans.{interval}
use Rattle.stl_syntax.specs.Formula.{Formula}
use Rattle.stl_syntax.specs.Print.{IsAtomText}
use Rattle.stl_syntax.specs.Texts.{newline, bool_text, IsSpanText}
use Rattle.stl_syntax.specs.declared.scale.Scale.{Scale}
use Rattle.stl_syntax.specs.declared.items.Item.{Item}
use Rattle.stl_syntax.specs.declared.node.Node.TheVariants.{Atom as Leaf}
use Rattle.stl_syntax.specs.declared.atom.Atom.{Atom}
use Rattle.report.specs.Report.{IsItemLines, AreItemLines}

-- the item is of an atom of the formula
abbrev pub IsOfAtom : Formula → Item → Type 0
IsOfAtom f e = (a : Atom) × (slice_get f.nodes e.node ≡ Some (Leaf a))

-- the line of an item
pub record IsItemLine (scale : Scale) (f : Formula) (e : Item) (text : List ℕ) : Type 0 where
  pub atom : Atom
  pub at : slice_get f.nodes e.node ≡ Some (Leaf atom)
  pub name : List ℕ
  pub on : List ℕ
  pub name_is : IsAtomText f.scale atom name
  pub on_is : IsSpanText scale e.on on
  pub is : text ≡ name ++ codes " " ++ bool_text e.holds ++ codes " on " ++ on ++ newline

-- the text of the items, where neighbours that join are one line
pub record AreItemsText (scale : Scale) (f : Formula) (items : List Item) (text : List ℕ) : Type 0 where
  pub lines : List Item
  pub joined : IsItemLines items lines
  pub written : AreItemLines scale f lines text

-- the item is the first, which e makes longer up to its own end
pub record IsLonger (line e longer : Item) : Type 0 where
  pub node : longer.node ≡ line.node
  pub holds : longer.holds ≡ line.holds
  pub begins : BeginAlike (interval longer.on) (interval line.on)
  pub ends : EndAlike (interval longer.on) (interval e.on)

-- the first line of the items, behind which the lines of the rest stand, whatever these are
pub record IsFirstLine (items rest : List Item) (line : Item) : Type 0 where
  pub before : (others : List Item) → IsItemLines rest others → IsItemLines items (line ∷ others)
  pub node : (e : Item) (more : List Item) → items ≡ e ∷ more → line.node ≡ e.node
