use Rattle.std.proofs.Common.{◌≡◌, length, drop}
use Rattle.stl_syntax.specs.Formula.{subformula}
use Rattle.stl_syntax.specs.SupInf.{Setting}
use Rattle.offline_eval.specs.Inputs.{atoms_before, IsOver, TellAtomsBelow}
use Rattle.offline_eval.specs.Making.{AreSound, TellAt}
use Rattle.offline_eval.specs.Places.{reach_before}
use Rattle.offline_eval.specs.Forms.{of_pieces}
use Rattle.offline_eval.proofs.chains.first_chains.Given as goal

abbrev pub invariant-loop-i : goal.invariant-loop-i
invariant-loop-i g l = record {
  count : length l.done.items ≡ l.i;
  rest : l.rest ≡ drop (atoms_before l.formula.nodes l.i) l.fn.atoms;
  sound : AreSound (of_pieces g.P.Shape) l.from l.to (reach_before l.formula.nodes l.i) l.done.items;
  told : (s : Setting) → IsOver g.P.Shape.lowest g.P.Shape.highest l.from l.to s → TellAtomsBelow g.P.Shape l.count l.formula.nodes l.fn.atoms s
      → TellAt (of_pieces g.P.Shape) s (subformula l.formula.nodes) l.done.items;
}
