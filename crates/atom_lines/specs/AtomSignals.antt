-- The signal of an atom over a whole trace: its truth or its margin at each time.
use Rattle.std.specs.Prelude.{◌^◌, ℕ, pos, ◌≤ℤ◌, ◌<ℤ◌, List}
use Rattle.rational.specs.Time.{◌≈◌}
use Rattle.value_laws.specs.Members.{ShapeOf}
use Rattle.pl_signal.specs.declared.knot.Knot.{Knot}
use Rattle.pl_signal.specs.Knots.{HasShape, IsSignal}
use Rattle.pl_signal.specs.Knots as knots
use Rattle.pl_signal.specs.Limits.{IsLimited}
use Rattle.pl_signal.specs.Moves.{Tells}
use Rattle.stl_syntax.specs.Trace.{Trace, start, stop}
use Rattle.stl_syntax.specs.SupInf.{Reading, Gives}
use Rattle.stl_syntax.specs.declared.atom.Atom.{Atom}
use Rattle.atom_lines.specs.Binding.{Binding, IsFor}

module _ {P : Type 0} (shape : ShapeOf P) where
  -- it goes from the first row's time to the last one's, and is worth at each time between what the reading of the trace gives the
  -- atom, and nothing else; each base is a time of the trace or 0, and values are within their limits
  pub record IsAtomSignal (reading : Trace → Reading) (b : Binding) (i : ℕ) (tr : Trace) (s : List (Knot P)) : Type 0 where
    pub signal : IsSignal shape s
    pub begins : knots.start s ≈ start tr
    pub ends : knots.stop s ≈ stop tr
    pub tells : (a : Atom) → IsFor b i a tr → Tells shape (Gives (reading tr) i a) (start tr) (stop tr) s
    pub bases : (p : P) → HasShape s p → (pos 0 ≤ℤ shape.base p) × (shape.base p <ℤ pos (2 ^ 32))
    pub limited : IsLimited shape s
