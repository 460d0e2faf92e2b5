-- What the points and pieces of an atom say: its truth or its margin in each trace in which the rows stand.
use Rattle.std.specs.Prelude.{◌≡◌, ℕ, Bool}
use Rattle.rational.specs.Time.{Rational, ◌<ʳ◌, ◌≈◌}
use Rattle.rational.specs.Extended.{Affine, value_at, finite, ◌≈ᵉ◌}
use Rattle.stl_syntax.specs.Trace.{Row, Trace, row_time}
use Rattle.stl_syntax.specs.Truth.{expression, holds_at}
use Rattle.stl_syntax.specs.SupInf.{margin}
use Rattle.stl_syntax.specs.declared.atom.Atom.{Atom}
use Rattle.atom_lines.specs.declared.truth.TruthPiece.{TruthPiece}
use Rattle.atom_lines.specs.Binding.{Binding, IsFor, HasRow, AreNeighbours}
use Rattle.atom_lines.specs.Pieces.{TellsGap}

-- the atom's truth at the row
abbrev pub IsTruthAt : Binding → ℕ → Row → Bool → Type 0
IsTruthAt b i r holds = (a : Atom) (tr : Trace) (t : Rational) → IsFor b i a tr → HasRow tr r → t ≈ row_time r → holds_at a tr t ≡ holds

-- its truth on the open gap between the rows
abbrev pub IsTruthOn : Binding → ℕ → Row → Row → TruthPiece → Type 0
IsTruthOn b i r s piece = (a : Atom) (tr : Trace) → IsFor b i a tr → AreNeighbours tr r s → TellsGap (row_time r) (row_time s) (holds_at a tr) piece

-- its margin at the row
abbrev pub IsMarginAt : Binding → ℕ → Row → Affine → Type 0
IsMarginAt b i r f = (a : Atom) (tr : Trace) (t : Rational) → IsFor b i a tr → HasRow tr r → t ≈ row_time r
    → value_at f t ≈ᵉ finite (margin a.rel (expression a tr t))

-- its margin on the open gap between the rows
abbrev pub IsMarginOn : Binding → ℕ → Row → Row → Affine → Type 0
IsMarginOn b i r s f = (a : Atom) (tr : Trace) (t : Rational) → IsFor b i a tr → AreNeighbours tr r s → row_time r <ʳ t → t <ʳ row_time s
    → value_at f t ≈ᵉ finite (margin a.rel (expression a tr t))
