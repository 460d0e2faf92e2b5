-- The sum that an atom compares with its constant, over the values of one row or of two. What is computed; the meaning stands in `stl_syntax`.
use Rattle.std.specs.Prelude.{ℕ, ◌<◌, ◌≤◌, nat_abs, ℤ, pos, ◌+ℤ◌, ◌-ℤ◌, ◌*ℤ◌, if◌then◌else◌, List, [], ◌∷◌, length, Option, Some, None, All, slice_index_or}
use Rattle.atom_lines.specs.declared.bound_atom.BoundTerm.{BoundTerm}
use Rattle.atom_lines.specs.declared.bound_atom.BoundAtom.{BoundAtom}

-- a step's value among the first values, and a ramp's among the second
abbrev pub cell : BoundTerm → List ℤ → List ℤ → ℤ
cell k first second = slice_index_or (if k.step then first else second) k.column (pos 0)

-- the sum of the terms, with steps from the first values and ramps from the second
abbrev pub sum_over : List BoundTerm → List ℤ → List ℤ → ℤ
sum_over [] first second = pos 0
sum_over (k ∷ terms) first second = k.coef *ℤ cell k first second +ℤ sum_over terms first second

-- less the constant
abbrev pub reach : BoundAtom → List ℤ → List ℤ → ℤ
reach a first second = sum_over a.terms.items first second -ℤ a.limit

-- a coefficient from -16 to 16, and one of the columns
pub record IsTermSound (width : ℕ) (k : BoundTerm) : Type 0 where
  pub coef : nat_abs k.coef ≤ 16
  pub column : k.column < width

-- at most four such terms, and a constant within its limit
pub record IsAtomSound (width : ℕ) (a : BoundAtom) : Type 0 where
  pub few : length a.terms.items ≤ 4
  pub terms : All (IsTermSound width) a.terms.items
  pub limit : nat_abs a.limit ≤ 1073741824

-- so is each atom of a binding
abbrev pub IsNodeSound : ℕ → Option BoundAtom → Type 0
IsNodeSound width None = Unit {0}
IsNodeSound width (Some a) = IsAtomSound width a
