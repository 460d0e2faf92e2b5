use Rattle.stl_syntax.specs.Trace.{Trace}
use Rattle.truth_sets.specs.Nodes.{AreReady}
use Rattle.truth_sets.specs.Telling.{IsOver}
use Rattle.truth_sets.proofs.nodes.root_of.Given as goal

abbrev pub invariant-loop-i : goal.invariant-loop-i
invariant-loop-i l = record {
  ready : (tr : Trace) → IsOver l.on tr → AreReady l.on tr l.formula.nodes 0 l.initial.sets.items → AreReady l.on tr l.formula.nodes l.i l.sets.items;
}
