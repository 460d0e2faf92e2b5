use Rattle.std.proofs.Common.{take, length}
use Rattle.std.specs.Prelude.{All}
use Rattle.stl_syntax.specs.Binding.{HasColumn}
use Rattle.atom_lines.specs.Binding.{AreTermBindings}
use Rattle.atom_lines.specs.Sums.{IsTermSound}
use Rattle.atom_lines.proofs.binding.bind_atom.Given as goal

-- the terms so far are bound to columns
abbrev pub invariant-loop-i : goal.invariant-loop-i
invariant-loop-i l = record {
  bindings : AreTermBindings l.header.columns (take l.i l.atom.terms) l.terms.items;
  sound : All (IsTermSound (length l.header.columns)) l.terms.items;
  named : All (HasColumn l.header.columns) (take l.i l.atom.terms);
}
