-- The atoms read by their signals: each by the plain list of knots of its own.
use Rattle.std.specs.Prelude.{ℕ, pos, List, map}
use Rattle.rational.specs.Time.{whole}
use Rattle.value_laws.specs.Members.{ShapeOf}
use Rattle.pl_signal.specs.declared.knot.Knot.{Knot}
use Rattle.pl_signal.specs.Plain.{knots_of}
use Rattle.stl_syntax.specs.SupInf.{Setting, signals, placed}
use Rattle.stl_syntax.specs.declared.node.Node.{Node}

-- the setting of the atoms' signals over the domain from the one tick to the other
abbrev pub knots_setting : {P : Type 0} → ShapeOf P → List Node → ℕ → ℕ → List (List (Knot P)) → Setting
knots_setting shape nodes first last atoms = record {
  atoms = signals (placed nodes (map (knots_of shape) atoms));
  lowest = shape.lowest;
  highest = shape.highest;
  from = whole (pos first);
  to = whole (pos last);
}
