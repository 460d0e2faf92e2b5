-- The nodes of a network before any row.
use Rattle.std.specs.Prelude.{◌≡◌, ℕ, List, [], length, Some, None, slice_get}
use Rattle.stl_syntax.specs.Trace.{Trace}
use Rattle.stl_syntax.specs.Formula.{subformula, horizon}
use Rattle.stl_syntax.specs.declared.atom.Atom.{Atom}
use Rattle.stl_syntax.specs.declared.node.Node.{Node}
use Rattle.stl_syntax.specs.declared.node.Node.TheVariants.{Const, Atom as Leaf}
use Rattle.online_robust.specs.Standing.{Stands}
use Rattle.online_robust.specs.Steps.{IsLeaf}
use Rattle.online_robust.specs.declared.station.Station.{Station}
use Rattle.online_robust.specs.declared.station.Work.{Work}
use Rattle.online_robust.specs.declared.station.Work.TheVariants as W

-- the node's work before any row
abbrev pub IsFirstWork : Node → Work → Type 0
IsFirstWork n (W.Const b) = n ≡ Const b
IsFirstWork n W.Atom = (a : Atom) × (n ≡ Leaf a)
IsFirstWork n (W.Operator op) = (¬ IsLeaf n) × ((nodes : List Node) (place : ℕ) (tr : Trace) → Stands n nodes place tr None op [])

-- the first n nodes before any row
pub record AreFirstStations (nodes : List Node) (n : ℕ) (stations : List Station) : Type 0 where
  pub count : length stations ≡ n
  pub first : (i : ℕ) (node : Node) (st : Station) → slice_get nodes i ≡ Some node → slice_get stations i ≡ Some st
      → (st.ahead ≡ horizon (subformula nodes i)) × IsFirstWork node st.work
