use Rattle.std.proofs.Common.{◌≤◌, length}
use Rattle.stl_syntax.specs.Trace.{Trace}
use Rattle.early_verdict.specs.Living.{NetIs}
use Rattle.early_verdict.proofs.letting.let_go.Given as goal

abbrev pub invariant-loop-i : goal.invariant-loop-i
invariant-loop-i l = record {
  within : l.i ≤ length l.formula.nodes;
  stands : (tr : Trace) → NetIs l.formula.nodes tr l.initial.net.live.items l.initial.net.shown.items
      → NetIs l.formula.nodes tr l.net.live.items l.net.shown.items;
}

abbrev pub decreases-loop-i : goal.decreases-loop-i
decreases-loop-i l = l.i
