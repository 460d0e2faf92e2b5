-- An atom's sum, less its constant, at a row and on the gap between two rows.
use Rattle.std.proofs.Common.{◌≡◌, ℕ, ℤ, pos, ◌-◌, ◌<◌, ◌-ℤ◌, ◌*ℤ◌, Bool, true, false, List, []}
use Rattle.std.proofs.Common.{◌∷◌, length, Some, if◌then◌else◌, refl, sym, ap, subst, ◌∙◌, arith}
use Rattle.std.specs.Prelude.{slice_get}
use Rattle.std.proofs.lemmas.Option.{same_Some}
use Rattle.rational.specs.Time.{Rational, ◌<ʳ◌, ◌≈◌, whole, subtract, times}
use Rattle.rational.specs.Line.{at, ramp_line}
use Rattle.rational.proofs.Order.{le_of_lt, same_refl, same_sym, same_trans}
use Rattle.rational.proofs.Field.{same_add, same_subtract}
use Rattle.rational.proofs.TimeLemmas.{same_times}
use Rattle.rational.proofs.Ways.{on_way, passed, way_starts, way_sum, way_times, way_less, way_ramp}
use Rattle.stl_syntax.specs.Trace.{Column, Row, Trace, IsTrace, row_time, value, value_of, piece}
use Rattle.stl_syntax.specs.Truth.{sum_at, expression}
use Rattle.stl_syntax.specs.declared.atom.Atom.{Atom}
use Rattle.stl_syntax.specs.declared.atom.Term.{Term}
use Rattle.atom_lines.specs.declared.bound_atom.BoundTerm.{BoundTerm}
use Rattle.atom_lines.specs.declared.bound_atom.BoundAtom.{BoundAtom}
use Rattle.atom_lines.specs.Binding.{Binding, IsColumn, AreTermBindings, IsAtomBinding, IsFor, HasRow, AreNeighbours}
use Rattle.atom_lines.specs.Sums.{cell, sum_over, reach}
use Rattle.atom_lines.specs.declared.gap.Gap.{Gap}
use Rattle.atom_lines.specs.Gaps.{along}
use Rattle.rational.proofs.Lines.{same_ramp}
use Rattle.std.proofs.Math.Nat.{sub-pos_iff_lt}
use Rattle.atom_lines.proofs.Columns.{value_at_row, value_in_gap, piece_on_way, value_of_name}

-- each column is x of the way from its value among the first values to where it goes
abbrev AreOnWay : List Column → Trace → Rational → Rational → List ℤ → List ℤ → Type 0
AreOnWay columns tr t x first second =
    (k : BoundTerm) (name : List ℕ) → IsColumn columns name k.column k.step → value_of tr name t ≈ on_way (cell k first first) (cell k first second) x

sum_on_way : (columns : List Column) (ts : List Term) (ks : List BoundTerm) (tr : Trace) (t x : Rational) (first second : List ℤ)
    → AreTermBindings columns ts ks
    → AreOnWay columns tr t x first second → sum_at ts tr t ≈ on_way (sum_over ks first first) (sum_over ks first second) x
sum_on_way columns [] [] tr t x first second binding h = same_sym (way_starts (pos 0) x)
sum_on_way columns [] (k ∷ ks) tr t x first second binding h = absurd binding
sum_on_way columns (l ∷ ts) [] tr t x first second binding h = absurd binding
sum_on_way columns (l ∷ ts) (k ∷ ks) tr t x first second binding h =
    let one : times l.coef (value_of tr l.name t) ≈ on_way (k.coef *ℤ cell k first first) (k.coef *ℤ cell k first second) x =
    subst (λ n. times n (value_of tr l.name t) ≈ on_way (k.coef *ℤ cell k first first) (k.coef *ℤ cell k first second) x) binding.0.coef
    (same_trans (same_times k.coef (h k l.name binding.0.column)) (way_times k.coef (cell k first first) (cell k first second) x)) in
    same_trans (same_add one (sum_on_way columns ts ks tr t x first second binding.1 h))
    (way_sum (k.coef *ℤ cell k first first) (k.coef *ℤ cell k first second) (sum_over ks first first) (sum_over ks first second) x)

expression_on_way : (a : Atom) (k : BoundAtom) (tr : Trace) (t x : Rational) (first second : List ℤ) → IsAtomBinding tr.header.columns a k
    → AreOnWay tr.header.columns tr t x first second → expression a tr t ≈ on_way (reach k first first) (reach k first second) x
unfolding expression
expression_on_way a k tr t x first second binding h =
    subst (λ l. subtract (sum_at a.terms tr t) (whole l) ≈ on_way (reach k first first) (reach k first second) x) binding.limit
    (same_trans (same_subtract (sum_on_way tr.header.columns a.terms k.terms.items tr t x first second binding.terms h) (same_refl (whole k.limit)))
    (way_less (sum_over k.terms.items first first) (sum_over k.terms.items first second) k.limit x))

-- a cell of one row is the row's value
own_cell : (k : BoundTerm) (r : Row) → cell k r.values r.values ≡ value r k.column
own_cell k r = by_step k.step refl
  where
    by_step : (b : Bool) → k.step ≡ b → cell k r.values r.values ≡ value r k.column
    by_step true e = rw e refl
    by_step false e = rw e refl

-- a cell of two rows is the first row's value of a step and the second's of a ramp
two_cells : (k : BoundTerm) (r s : Row) → cell k r.values s.values ≡ (if k.step then value r k.column else value s k.column)
two_cells k r s = by_step k.step refl
  where
    by_step : (b : Bool) → k.step ≡ b → cell k r.values s.values ≡ (if k.step then value r k.column else value s k.column)
    by_step true e = rw e refl
    by_step false e = rw e refl

row_on_way : (tr : Trace) (r : Row) (t x : Rational) → IsTrace tr → HasRow tr r → t ≈ row_time r → AreOnWay tr.header.columns tr t x r.values r.values
row_on_way tr r t x ok has e = λ k name column.
    let there : value_of tr name t ≈ whole (value r k.column) =
    subst (λ v. v ≈ whole (value r k.column)) (sym (value_of_name tr name t k.column k.step column))
    (value_at_row (length tr.header.columns) k.step k.column tr.rows has.0 r t ok.rows has.1 e) in
    same_trans (subst (λ z. value_of tr name t ≈ whole z) (sym (own_cell k r)) there) (same_sym (way_starts (cell k r.values r.values) x))

gap_on_way : (tr : Trace) (r s : Row) (t : Rational) (p : 0 < s.time - r.time) → IsTrace tr → AreNeighbours tr r s → row_time r <ʳ t → t <ʳ row_time s
    → AreOnWay tr.header.columns tr t (passed (pos r.time) (s.time - r.time) p t) r.values s.values
gap_on_way tr r s t p ok has low high = λ k name column.
    let x = passed (pos r.time) (s.time - r.time) p t in
    let is : value_of tr name t ≡ piece k.step k.column r s t =
    value_of_name tr name t k.column k.step column
    ∙ value_in_gap (length tr.header.columns) k.step k.column tr.rows has.0 t ok.rows has.1 has.2 (le_of_lt low) high in
    subst (λ v. v ≈ on_way (cell k r.values r.values) (cell k r.values s.values) x) (sym is)
    (subst (λ z. piece k.step k.column r s t ≈ on_way (cell k r.values r.values) z x) (sym (two_cells k r s))
    (subst (λ z. piece k.step k.column r s t ≈ on_way z (if k.step then value r k.column else value s k.column) x) (sym (own_cell k r))
    (piece_on_way k.step k.column r s t p)))

module _ (b : Binding) (i : ℕ) (k : BoundAtom) (here : slice_get b.atoms i ≡ Some (Some k)) (a : Atom) (tr : Trace) (for : IsFor b i a tr) where
  -- the atom that is bound is the one of the formula
  pub atom_binding : IsAtomBinding tr.header.columns a k
  atom_binding =
      let x = for.bound.atoms i a for.node in
      let same : Some x.0 ≡ Some k = same_Some (Some x.0) (Some k) (sym x.1 ∙ here) in
      subst (λ l. IsAtomBinding tr.header.columns a l) (same_Some x.0 k same) x.2

  -- at a row the expression is what the row's values sum to
  pub expression_at_row : (r : Row) (t : Rational) → HasRow tr r → t ≈ row_time r → expression a tr t ≈ whole (reach k r.values r.values)
  expression_at_row r t has e =
      same_trans (expression_on_way a k tr t (whole (pos 0)) r.values r.values atom_binding (row_on_way tr r t (whole (pos 0)) for.rows has e))
      (way_starts (reach k r.values r.values) (whole (pos 0)))

  -- on a gap it is on the line from there to what steps of the first row and ramps of the second sum to
  pub expression_in_gap : (r s : Row) (p : 0 < s.time - r.time) (t : Rational) → AreNeighbours tr r s → row_time r <ʳ t → t <ʳ row_time s
      → expression a tr t
      ≈ at (ramp_line (pos r.time) (reach k r.values r.values) (reach k r.values s.values -ℤ reach k r.values r.values) (s.time - r.time) p) t
  expression_in_gap r s p t has low high =
      same_trans (expression_on_way a k tr t (passed (pos r.time) (s.time - r.time) p t) r.values s.values atom_binding
      (gap_on_way tr r s t p for.rows has low high))
      (same_sym (way_ramp (pos r.time) (reach k r.values r.values) (reach k r.values s.values) (s.time - r.time) p t))

  -- so it is on the line of the gap
  pub expression_along : (g : Gap) (r s : Row) (t : Rational) → g.first ≡ r.time → g.second ≡ s.time
      → g.from ≡ reach k r.values r.values → g.to ≡ reach k r.values s.values
      → AreNeighbours tr r s → row_time r <ʳ t → t <ʳ row_time s → expression a tr t ≈ at (along g) t
  expression_along g r s t e h f l has low high =
      same_trans (expression_in_gap r s later t has low high)
      (same_sym (same_ramp later (sub-pos_iff_lt.1 g.rising) t
      (ap (λ n. pos n) e) f (ap (λ z. z -ℤ g.from) l ∙ ap (λ z. reach k r.values s.values -ℤ z) f) (ap (λ n. n - g.first) h ∙ ap (λ n. s.time - n) e)))
    where
      later : 0 < s.time - r.time
      later = let x = g.rising in omega (arith, x, e, h)
