-- How an atom's margin goes over the rows of a trace, from one row up to a later one.
use Rattle.std.specs.Prelude.{◌≡◌, ◌<◌, ◌^◌, ℕ, pos, IsTrue, length}
use Rattle.rational.specs.Time.{Rational, ◌<ʳ◌, ◌≤ʳ◌}
use Rattle.rational.specs.Extended.{finite, value_at, ◌≈ᵉ◌}
use Rattle.rational.specs.Affine.{IsBounded}
use Rattle.value_laws.specs.Margins.{is_ramp, margin_base, margin_function}
use Rattle.stl_syntax.specs.Trace.{Trace, row_time}
use Rattle.stl_syntax.specs.Truth.{expression}
use Rattle.stl_syntax.specs.SupInf.{margin}
use Rattle.stl_syntax.specs.declared.atom.Atom.{Atom}
use Rattle.atom_lines.specs.declared.passage.MarginWay.{MarginWay}
use Rattle.atom_lines.specs.Binding.{Binding, IsFor}
use Rattle.atom_lines.specs.Growing.{IsReachAt}
use Rattle.atom_lines.specs.Passages.{HasBlock}
use Rattle.atom_lines.specs.Rows.{row_of}

-- the way goes from row r of the block to a later one, and has from there on, before the later one's time, the margin that the atom has
-- in each trace in which the block stands
pub record IsMarginWay (b : Binding) (i : ℕ) (block : Trace) (r : ℕ) (w : MarginWay) : Type 0 where
  pub later : r < w.row
  pub within : w.row < length block.rows
  pub order : (row_of block r).time < (row_of block w.row).time
  pub sum : IsReachAt b i block w.row w.sum
  pub base : IsTrue (is_ramp w.margin) → margin_base w.margin ≡ pos (row_of block r).time
  pub bounded : (t : Rational) → row_time (row_of block r) ≤ʳ t → t <ʳ row_time (row_of block w.row)
      → IsBounded (2 ^ 31) (value_at (margin_function w.margin) t)
  pub tells : (a : Atom) (tr : Trace) → IsFor b i a tr → HasBlock tr block → (t : Rational) → row_time (row_of block r) ≤ʳ t
      → t <ʳ row_time (row_of block w.row) → value_at (margin_function w.margin) t ≈ᵉ finite (margin a.rel (expression a tr t))
