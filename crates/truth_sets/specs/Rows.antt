-- The set of an atom over the rows so far.
use Rattle.std.specs.Prelude.{ℕ, List, [], ◌∷◌}
use Rattle.stl_syntax.specs.Trace.{Header, Row, Trace, first_time}
use Rattle.atom_lines.specs.Binding.{Binding}
use Rattle.atom_lines.specs.Growing.{IsReachAt}
use Rattle.truth_sets.specs.Growing.{IsTidy, TellsUpto}
use Rattle.truth_sets.specs.declared.atom.NodeSet.{NodeSet}

-- a row by itself
abbrev pub alone : Header → Row → Trace
alone header r = record { header = header; rows = r ∷ [] }

-- the set of the atom at node i tells it over the rows, up to this one
pub record HasGrown (b : Binding) (i : ℕ) (header : Header) (rows : List Row) (r : Row) (s : NodeSet) : Type 0 where
  pub sum : IsReachAt b i (alone header r) 0 s.sum
  pub tidy : IsTidy (first_time rows) r.time s.times
  pub tells : TellsUpto b i header rows (first_time rows) r.time s.times
