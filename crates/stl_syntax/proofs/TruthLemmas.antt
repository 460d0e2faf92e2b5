-- The truth at a time is that of the number, and not of its pair.
use Rattle.std.proofs.Common.{ℕ, suc, pos, ◌-◌, List, [], ◌∷◌, inl, inr, Bool, true, false, cond, arith, IsTrue, ◌≤◌, mul-le-mul_right, le_of_mul-le-mul_right}
use Rattle.std.specs.Prelude.{bytes_eq}
use Rattle.rational.proofs.Order.{same_refl, same_sym}
use Rattle.rational.proofs.Field.{same_add, same_subtract}
use Rattle.rational.proofs.Lines.{same_at}
use Rattle.rational.specs.Time.{Rational, ◌≈◌, whole, less}
use Rattle.rational.proofs.WindowLemmas.{ahead_same, behind_same, from_same, to_same}
use Rattle.stl_syntax.specs.Trace.{Column, Row, Trace, row_time, value, line_between, piece, value_from, value_among, value_of}
use Rattle.stl_syntax.specs.Formula.{Subformula, constant, atom, negation, conjunction, disjunction}
use Rattle.stl_syntax.specs.Formula.{implication, until, eventually, always, since, once, historically}
use Rattle.stl_syntax.specs.Truth.{sum_at, expression, compares, Truth}
use Rattle.stl_syntax.specs.declared.atom.Term.{Term}
use Rattle.stl_syntax.specs.declared.atom.Atom.{Atom}
use Rattle.stl_syntax.specs.declared.rel.Rel.{Rel}
use Rattle.stl_syntax.specs.declared.rel.Rel.TheVariants.{AtLeast, Above, AtMost, Below}
use Rattle.rational.proofs.TimeLemmas.{same_times, less_same}

same_piece : {t u : Rational} (step : Bool) (c : ℕ) (r s : Row) → t ≈ u → piece step c r s t ≈ piece step c r s u
same_piece true c r s h = same_refl (whole (value r c))
same_piece false c r s h = same_at (line_between r.time (value r c) (s.time - suc r.time) (value s c)) h

-- a choice between equal numbers
pub chosen : (b : Bool) (v w v' w' : Rational) → v ≈ v' → w ≈ w' → cond b v w ≈ cond b v' w'
chosen true v w v' w' h k = h
chosen false v w v' w' h k = k

same_value_from : {t u : Rational} (step : Bool) (c : ℕ) (r : Row) (rows : List Row) → t ≈ u → value_from step c r rows t ≈ value_from step c r rows u
same_value_from step c r [] h = same_refl (whole (value r c))
same_value_from {t} {u} step c r (s ∷ rows) h =
    rw (less_same (row_time s) h) (chosen (less u (row_time s)) _ _ _ _ (same_piece step c r s h) (same_value_from step c s rows h))

same_value_among : {t u : Rational} (columns : List Column) (c : ℕ) (rows : List Row) (name : List ℕ) → t ≈ u
    → value_among columns c rows name t ≈ value_among columns c rows name u
same_value_among [] c rows name h = same_refl (whole (pos 0))
same_value_among (k ∷ columns) c [] name h = chosen (bytes_eq k.name name) _ _ _ _ (same_refl (whole (pos 0))) (same_value_among columns (suc c) [] name h)
same_value_among (k ∷ columns) c (r ∷ rows) name h =
    chosen (bytes_eq k.name name) _ _ _ _ (same_value_from k.step c r rows h) (same_value_among columns (suc c) (r ∷ rows) name h)

-- a column's value does not depend on the pair of the time
pub same_value_of : {t u : Rational} (tr : Trace) (name : List ℕ) → t ≈ u → value_of tr name t ≈ value_of tr name u
unfolding value_of
same_value_of tr name h = same_value_among tr.header.columns 0 tr.rows name h

same_sum_at : {t u : Rational} (terms : List Term) (tr : Trace) → t ≈ u → sum_at terms tr t ≈ sum_at terms tr u
same_sum_at [] tr h = same_refl (whole (pos 0))
same_sum_at (k ∷ terms) tr h = same_add (same_times k.coef (same_value_of tr k.name h)) (same_sum_at terms tr h)

-- nor does an atom's expression
pub same_expression : {t u : Rational} (a : Atom) (tr : Trace) → t ≈ u → expression a tr t ≈ expression a tr u
unfolding expression
same_expression a tr h = same_subtract (same_sum_at a.terms tr h) (same_refl (whole a.limit))

not_negative : {x y : Rational} → x ≈ y → x.down ≤ x.up → y.down ≤ y.up
not_negative {x} {y} e h = le_of_mul-le-mul_right (omega (arith, e.same, mul-le-mul_right y.den h)) x.positive

negative : {x y : Rational} → x ≈ y → x.up ≤ x.down → y.up ≤ y.down
negative {x} {y} e h = le_of_mul-le-mul_right (omega (arith, e.same, mul-le-mul_right y.den h)) x.positive

-- equal numbers compare alike with 0
pub compares_same : (rel : Rel) (x y : Rational) → x ≈ y → IsTrue (compares rel x) → IsTrue (compares rel y)
compares_same AtLeast x y e h = let k : x.down ≤ x.up = grind arith in let l = not_negative e k in grind arith
compares_same Above x y e h = grind (arith, negative (same_sym e))
compares_same AtMost x y e h = let k : x.up ≤ x.down = grind arith in let l = negative e k in grind arith
compares_same Below x y e h = grind (arith, not_negative (same_sym e))

-- two pairs of one number are one time
pub Truth-same : {t u : Rational} (f : Subformula) (tr : Trace) → t ≈ u → Truth f tr t → Truth f tr u
Truth-same (constant b) tr e h = h
Truth-same {t} {u} (atom i a) tr e h = compares_same a.rel (expression a tr t) (expression a tr u) (same_expression a tr e) h
Truth-same (negation p) tr e h = λ k. h (Truth-same p tr (same_sym e) k)
Truth-same (conjunction p q) tr e h = (Truth-same p tr e h.0, Truth-same q tr e h.1)
Truth-same (disjunction p q) tr e (inl h) = inl (Truth-same p tr e h)
Truth-same (disjunction p q) tr e (inr h) = inr (Truth-same q tr e h)
Truth-same (implication p q) tr e h = λ k. Truth-same q tr e (h (Truth-same p tr (same_sym e) k))
Truth-same (until a b p q) tr e (v, h, k, l) = (v, ahead_same e h, k, λ x m. l x (from_same e m))
Truth-same (eventually a b a_in b_in p) tr e (v, h, k) = (v, ahead_same e h, k)
Truth-same (always a b a_in b_in p) tr e h = λ v k. h v (ahead_same (same_sym e) k)
Truth-same (since a b p q) tr e (v, h, k, l) = (v, behind_same e h, k, λ x m. l x (to_same e m))
Truth-same (once a b a_in b_in p) tr e (v, h, k) = (v, behind_same e h, k)
Truth-same (historically a b a_in b_in p) tr e h = λ v k. h v (behind_same (same_sym e) k)
