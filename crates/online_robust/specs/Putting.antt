-- What is put onto a node's edge: the lines of a signal, and those of a constant or an atom at a row.
use Rattle.std.specs.Prelude.{◌≡◌, ℕ, ◌^◌, pos, false, true, Bool, IsTrue, List, [], ◌∷◌, Option, Some, None}
use Rattle.rational.specs.Rational.{Rational, ◌≈◌}
use Rattle.rational.specs.Extended.{value_at}
use Rattle.rational.specs.Affine.{IsBounded}
use Rattle.frac128.specs.Value.{value}
use Rattle.frac128.specs.declared.frac.Frac.{Frac}
use Rattle.value_laws.specs.Margins.{is_ramp, margin_base, margin_function}
use Rattle.value_laws.specs.declared.margin.Margin.{Margin}
use Rattle.value_laws.specs.declared.margin.Margin.TheVariants as M
use Rattle.pl_signal.specs.declared.knot.Knot.{Knot}
use Rattle.stl_syntax.specs.Trace.{Row, row_time}
use Rattle.atom_lines.specs.Binding.{Binding}
use Rattle.atom_lines.specs.Points.{IsMarginAt, IsMarginOn}
use Rattle.online_robust.specs.Held.{Held, edge_at, with_edge, with_more}
use Rattle.online_robust.specs.declared.line.MarginLine.{MarginLine}
use Rattle.online_robust.specs.declared.line.MarginLine.TheVariants.{Point, Gap}

-- the lines after a knot: each gap with the point that ends it
abbrev pub lines_after : Knot Margin → List (Knot Margin) → List MarginLine
lines_after k [] = []
lines_after k (n ∷ knots) = Gap k.time n.time k.after ∷ Point n.time n.point ∷ lines_after n knots

-- the lines of a signal, with the point at which it begins or without
abbrev pub lines_of : Bool → List (Knot Margin) → List MarginLine
lines_of with_first [] = []
lines_of true (k ∷ knots) = Point k.time k.point ∷ lines_after k knots
lines_of false (k ∷ knots) = lines_after k knots

-- one edge got these lines, and nothing else changed
pub record HasPut (node : ℕ) (more : List MarginLine) (old new : Held) : Type 0 where
  pub edges : new.edges ≡ with_edge old node (with_more (edge_at old node) more)
  pub start : new.start ≡ old.start

-- the lines of a row, after the row before, if there is one: the gap since then with this margin, and the point with that value
abbrev pub AreRowLines : Option Row → Row → Margin → Margin → List MarginLine → Type 0
AreRowLines None r piece v more = (at : Frac) × (value at ≈ row_time r) × (more ≡ Point at v ∷ [])
AreRowLines (Some first) r piece v more =
    (from at : Frac) × (value from ≈ row_time first) × (value at ≈ row_time r) × (more ≡ Gap from at piece ∷ Point at v ∷ [])

-- an edge got the lines of a row
abbrev pub HasPutRow : ℕ → Option Row → Row → Margin → Margin → Held → Held → Type 0
HasPutRow node before r piece v old new = (more : List MarginLine) × AreRowLines before r piece v more × HasPut node more old new

-- the atom's margin since the row before
abbrev pub IsAtomPiece : Binding → ℕ → Option Row → Row → Margin → Type 0
IsAtomPiece b i None r p = Unit {0}
IsAtomPiece b i (Some first) r p =
    IsMarginOn b i first r (margin_function p) × (IsTrue (is_ramp p) → margin_base p ≡ pos first.time)
    × IsBounded (2 ^ 31) (value_at (margin_function p) (row_time first)) × IsBounded (2 ^ 31) (value_at (margin_function p) (row_time r))

-- its margin at the row
pub record IsAtomValue (b : Binding) (i : ℕ) (r : Row) (v : Margin) : Type 0 where
  pub margin : IsMarginAt b i r (margin_function v)
  pub level : is_ramp v ≡ false
  pub within : (t : Rational) → IsBounded (2 ^ 31) (value_at (margin_function v) t)

-- an edge got the lines of an atom at a row
abbrev pub HasPutAtom : Binding → ℕ → Option Row → Row → Held → Held → Type 0
HasPutAtom b i before r old new =
    (piece v : Margin) × IsAtomPiece b i before r piece × IsAtomValue b i r v × HasPutRow i before r piece v old new

-- the margin of a constant
abbrev pub constant_margin : Bool → Margin
constant_margin true = M.High
constant_margin false = M.Low
