-- One gap of a trace, as an atom's sum takes it: words of private contracts.
use Rattle.std.specs.Prelude.{◌≡◌, ◌≤◌, ◌<◌, ◌^◌, ℕ, suc, ℤ, nat_abs, length, Some, slice_get}
use Rattle.rational.specs.Time.{Rational, ◌≤ʳ◌}
use Rattle.stl_syntax.specs.Trace.{Trace, row_time}
use Rattle.stl_syntax.specs.Truth.{holds_at}
use Rattle.stl_syntax.specs.declared.atom.Atom.{Atom}
use Rattle.atom_lines.specs.declared.gap.Gap.{Gap}
use Rattle.atom_lines.specs.declared.bound_atom.BoundAtom.{BoundAtom}
use Rattle.atom_lines.specs.Binding.{Binding, IsFor}
use Rattle.atom_lines.specs.Passages.{HasBlock}
use Rattle.atom_lines.specs.Rows.{row_of, values_at}
use Rattle.atom_lines.specs.Sums.{reach, sum_over}

-- the gap behind row r of the trace, on which the atom's sum goes from what it is there, and its sum at the next row
pub record IsStep (atom : BoundAtom) (tr : Trace) (r : ℕ) (g : Gap) (next : ℤ) : Type 0 where
  pub within : suc r < length tr.rows
  pub first : g.first ≡ (row_of tr r).time
  pub second : g.second ≡ (row_of tr (suc r)).time
  pub from : g.from ≡ reach atom (values_at tr r) (values_at tr r)
  pub to : g.to ≡ reach atom (values_at tr r) (values_at tr (suc r))
  pub at_next : next ≡ reach atom (values_at tr (suc r)) (values_at tr (suc r))
  pub small : nat_abs (sum_over atom.terms.items (values_at tr (suc r)) (values_at tr (suc r))) ≤ 2 ^ 30

-- the sum stays over the gap behind row r of the trace what it is at that row, and is `next` at the next one
pub record IsLevelStep (atom : BoundAtom) (tr : Trace) (r : ℕ) (next : ℤ) : Type 0 where
  pub gap : Gap
  pub step : IsStep atom tr r gap next
  pub level : gap.to ≡ gap.from

-- from row r of the block on the truth stays what it is up to row m, which comes before row `last`; behind row m comes this step
pub record StaysTo (atom : BoundAtom) (block : Trace) (r last m : ℕ) (g : Gap) (next : ℤ) : Type 0 where
  pub begins : r ≤ m
  pub within : m < last
  pub order : (row_of block r).time ≤ (row_of block m).time
  pub step : IsStep atom block m g next
  pub stays : (b : Binding) (i : ℕ) (a : Atom) (tr : Trace) → slice_get b.atoms i ≡ Some (Some atom) → IsFor b i a tr → HasBlock tr block
      → (t : Rational) → row_time (row_of block r) ≤ʳ t → t ≤ʳ row_time (row_of block m) → holds_at a tr t ≡ holds_at a tr (row_time (row_of block r))
