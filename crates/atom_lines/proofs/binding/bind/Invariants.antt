use Rattle.std.proofs.Common.{take, length}
use Rattle.std.specs.Prelude.{All}
use Rattle.stl_syntax.specs.Binding.{HasColumns}
use Rattle.atom_lines.specs.Faults.{AreNodeBindings}
use Rattle.atom_lines.specs.Sums.{IsNodeSound}
use Rattle.atom_lines.proofs.binding.bind.Given as goal

-- the nodes so far are bound to columns
abbrev pub invariant-loop-i : goal.invariant-loop-i
invariant-loop-i l = record {
  bindings : AreNodeBindings l.header.columns l.formula.nodes l.i l.atoms.items;
  sound : All (IsNodeSound (length l.header.columns)) l.atoms.items;
  named : All (HasColumns l.header.columns) (take l.i l.formula.nodes);
}
