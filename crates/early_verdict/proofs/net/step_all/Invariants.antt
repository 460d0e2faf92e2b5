use Rattle.std.proofs.Common.{◌≡◌, ℕ, ◌<◌, Some, Option, length}
use Rattle.std.specs.Prelude.{slice_get}
use Rattle.stl_syntax.specs.Trace.{Trace, start}
use Rattle.stl_syntax.specs.declared.node.Node.{Node}
use Rattle.early_verdict.specs.Fitting.{Fits, lists_at}
use Rattle.early_verdict.specs.Happening.{Happens}
use Rattle.early_verdict.specs.Standing.{AllGo, AllTidy, AllWere, SteppedTo, own_list}
use Rattle.early_verdict.specs.Living.{AreLive, ShownTo}
use Rattle.early_verdict.specs.BlockRows.{own_row, previous_row}
use Rattle.early_verdict.specs.declared.sets.Sets.{Sets}
use Rattle.early_verdict.proofs.net.step_all.Given as goal

abbrev pub invariant-loop-i : goal.invariant-loop-i
invariant-loop-i l = record {
  count : length l.live ≡ length l.initial.live;
  stepped : SteppedTo l.i (own_list l.formula.nodes l.initial.live l.initial.shown) (own_list l.formula.nodes l.live l.shown);
  shows : ShownTo l.i (own_list l.formula.nodes l.live l.shown) l.initial.shown l.shown;
  tidy : AllTidy (own_list l.formula.nodes l.live l.shown);
  shown_tidy : AllTidy l.shown;
  fits : (old : Option Trace) (tr : Trace) → Happens l.entry old tr
      → AreLive l.formula.nodes (start tr) (own_list l.formula.nodes l.initial.live l.initial.shown) l.initial.shown
      → AllGo l.formula.nodes l.bound l.entry old tr (previous_row l.next) (own_row l.next)
      → AllWere old l.formula.nodes (own_list l.formula.nodes l.initial.live l.initial.shown) l.initial.shown
      → (j : ℕ) (m : Node) (s : Sets) → j < l.i → slice_get l.formula.nodes j ≡ Some m → slice_get (own_list l.formula.nodes l.live l.shown) j ≡ Some s
      → Fits m l.entry.ended tr (lists_at l.shown) s;
}
