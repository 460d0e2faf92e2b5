-- Atoms as plain data: a comparison of a sum of columns, each times a whole number, with a constant.
use Rattle.std.specs.Prelude.{ℕ, ℤ, List}
use Rattle.stl_syntax.specs.declared.rel.Rel.{Rel}

-- a column, by the bytes of its name, times a whole number
pub record LinearTerm : Type 0 where
  pub coef : ℤ
  pub name : List ℕ

-- the sum of the terms, compared with a constant
pub record LinearAtom : Type 0 where
  pub terms : List LinearTerm
  pub rel : Rel
  pub limit : ℤ
