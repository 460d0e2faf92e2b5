-- The columns of a trace, and the sums of an atom, are piecewise linear functions of time.
use Rattle.std.proofs.Common.{ℕ, ◌-◌, suc, ℤ, pos, negsuc, Bool, true, false, List, [], ◌∷◌, bytes_eq, arith}
use Rattle.rational.specs.Rational.{Rational, ◌≈◌, whole, negate, multiply}
use Rattle.rational.specs.Time.{times}
use Rattle.stl_syntax.specs.Trace.{Trace, Row, Column, value as cell, line_between, value_from, column_value, value_among, value_of, row_time}
use Rattle.stl_syntax.specs.Trace.{piece as between_rows}
use Rattle.stl_syntax.specs.Truth.{sum_at, expression}
use Rattle.stl_syntax.specs.SupInf.{margin}
use Rattle.stl_syntax.specs.declared.atom.Atom.{Atom}
use Rattle.stl_syntax.specs.declared.atom.Term.{Term}
use Rattle.stl_syntax.specs.declared.rel.Rel.{Rel}
use Rattle.stl_syntax.specs.declared.rel.Rel.TheVariants.{AtLeast, Above, AtMost, Below}
use Rattle.values_exist.proofs.Pieces.{IsPiecewise, piecewise_sum, piecewise_multiple, piecewise_same, piecewise_constant, piecewise_line}
use Rattle.values_exist.proofs.Pieces.{piecewise_split, piecewise_choice}

between_rows_piecewise : (step : Bool) (c : ℕ) (r s : Row) → IsPiecewise (between_rows step c r s)
between_rows_piecewise true c r s = piecewise_constant (whole (cell r c))
between_rows_piecewise false c r s = piecewise_line (line_between r.time (cell r c) (s.time - suc r.time) (cell s c))

from_piecewise : (step : Bool) (c : ℕ) (r : Row) (rows : List Row) → IsPiecewise (value_from step c r rows)
from_piecewise step c r [] = piecewise_constant (whole (cell r c))
from_piecewise step c r (s ∷ rows) =
    piecewise_split (row_time s) (between_rows step c r s) (value_from step c s rows) (between_rows_piecewise step c r s) (from_piecewise step c s rows)

column_piecewise : (step : Bool) (c : ℕ) (rows : List Row) → IsPiecewise (column_value step c rows)
column_piecewise step c [] = piecewise_constant (whole (pos 0))
column_piecewise step c (r ∷ rows) = from_piecewise step c r rows

among_piecewise : (columns : List Column) (c : ℕ) (rows : List Row) (name : List ℕ) → IsPiecewise (value_among columns c rows name)
among_piecewise [] c rows name = piecewise_constant (whole (pos 0))
among_piecewise (k ∷ columns) c rows name =
    piecewise_choice (bytes_eq k.name name) (column_value k.step c rows) (value_among columns (suc c) rows name)
    (column_piecewise k.step c rows) (among_piecewise columns (suc c) rows name)

-- a column
pub value_piecewise : (tr : Trace) (name : List ℕ) → IsPiecewise (value_of tr name)
unfolding value_of
value_piecewise tr name = among_piecewise tr.header.columns 0 tr.rows name

times_is : (k : ℤ) (x : Rational) → times k x ≈ multiply (whole k) x
times_is k x = omega arith

sum_piecewise : (terms : List Term) (tr : Trace) → IsPiecewise (sum_at terms tr)
sum_piecewise [] tr = piecewise_constant (whole (pos 0))
sum_piecewise (k ∷ terms) tr =
    piecewise_sum (λ t. times k.coef (value_of tr k.name t)) (sum_at terms tr)
    (piecewise_same (λ t. multiply (whole k.coef) (value_of tr k.name t)) (λ t. times k.coef (value_of tr k.name t))
    (λ t. times_is k.coef (value_of tr k.name t))
    (piecewise_multiple (whole k.coef) (value_of tr k.name) (value_piecewise tr k.name)))
    (sum_piecewise terms tr)

-- the sum of an atom, less its constant
pub expression_piecewise : (a : Atom) (tr : Trace) → IsPiecewise (expression a tr)
unfolding expression
expression_piecewise a tr =
    piecewise_sum (sum_at a.terms tr) (λ t. negate (whole a.limit)) (sum_piecewise a.terms tr) (piecewise_constant (negate (whole a.limit)))

negate_is : (x : Rational) → negate x ≈ multiply (whole (negsuc 0)) x
negate_is x = omega arith

-- and its margin
pub margin_piecewise : (rel : Rel) (f : Rational → Rational) → IsPiecewise f → IsPiecewise (λ t. margin rel (f t))
margin_piecewise AtLeast f p = p
margin_piecewise Above f p = p
margin_piecewise AtMost f p = piecewise_same (λ t. multiply (whole (negsuc 0)) (f t)) (λ t. negate (f t)) (λ t. negate_is (f t))
    (piecewise_multiple (whole (negsuc 0)) f p)
margin_piecewise Below f p = piecewise_same (λ t. multiply (whole (negsuc 0)) (f t)) (λ t. negate (f t)) (λ t. negate_is (f t))
    (piecewise_multiple (whole (negsuc 0)) f p)
