-- The pieces of an atom over a whole trace: its truth or its margin at each time.
use Rattle.std.specs.Prelude.{◌^◌, ℕ, pos, ◌≤ℤ◌, ◌<ℤ◌}
use Rattle.rational.specs.Places.{Same}
use Rattle.value_laws.specs.Members.{ShapeOf}
use Rattle.stl_syntax.specs.Trace as trace
use Rattle.stl_syntax.specs.Trace.{Trace}
use Rattle.stl_syntax.specs.SupInf.{Reading, Gives}
use Rattle.stl_syntax.specs.declared.atom.Atom.{Atom}
use Rattle.atom_lines.specs.Binding.{Binding, IsFor}
use Rattle.pieces.specs.Chains.{Chain, HasShape, IsLimited, Tells, stop}
use Rattle.pieces.specs.Knots.{before, after}

module _ {P : Type 0} (shape : ShapeOf P) where
  -- the chain goes from just before the first row's time to just after the last one's, and is worth at each time between what the reading
  -- of the trace gives the atom, and nothing else; each base is a time of the trace or 0, and values are within their limits
  pub record IsAtomChain (reading : Trace → Reading) (b : Binding) (i : ℕ) (tr : Trace) (chain : Chain P) : Type 0 where
    pub begins : Same chain.from (before (trace.start tr))
    pub ends : Same (stop chain) (after (trace.stop tr))
    pub tells : (a : Atom) → IsFor b i a tr → Tells shape (Gives (reading tr) i a) (before (trace.start tr)) (after (trace.stop tr)) chain
    pub bases : (p : P) → HasShape chain p → (pos 0 ≤ℤ shape.base p) × (shape.base p <ℤ pos (2 ^ 32))
    pub limited : IsLimited shape chain
