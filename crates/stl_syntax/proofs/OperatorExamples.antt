-- Each operator in both truths, with closed and open bounds, on a step column that is 1 on [4,6) and 0 elsewhere in [0,8].
use Rattle.std.proofs.Common.{ℕ, ℤ, pos, [], ◌∷◌, inl, inr, refl, true, false, IsTrue, arith, lit<}
use Rattle.std.specs.Prelude.{codes, Some, None}
use Rattle.rational.specs.Rational.{ratio}
use Rattle.rational.specs.Time.{Rational, ◌≤ʳ◌, ◌<ʳ◌}
use Rattle.rational.proofs.Order.{le_or_lt, le_trans}
use Rattle.rational.proofs.TimeLemmas.{less_in, less_no}
use Rattle.stl_syntax.specs.Trace.{Trace, IsTrace, value_of}
use Rattle.stl_syntax.specs.Formula.{Subformula, constant, atom, negation, conjunction, disjunction}
use Rattle.stl_syntax.specs.Formula.{implication, until, eventually, always, since, once, historically}
use Rattle.stl_syntax.specs.Truth.{Truth, expression}
use Rattle.stl_syntax.specs.declared.atom.Atom.{Atom}
use Rattle.stl_syntax.specs.declared.rel.Rel.{Rel}
use Rattle.stl_syntax.specs.declared.rel.Rel.TheVariants.{AtLeast, Above, AtMost, Below}
use Rattle.stl_syntax.proofs.Examples.{row, no_digits, at_time}

abbrev pub bump : Trace
bump = record {
  header = record { columns = record { name = codes "q"; step = true } ∷ []; scale = no_digits };
  rows = row 0 (pos 0) ∷ row 4 (pos 1) ∷ row 6 (pos 0) ∷ row 8 (pos 0) ∷ [];
}

bump_is_trace : IsTrace bump
bump_is_trace = record { rows = (refl, (lit< tt, refl, (lit< tt, refl, (lit< tt, refl, tt)))) }

abbrev pub compared : Rel → ℤ → Atom
compared rel limit = record { terms = record { coef = pos 1; name = codes "q" } ∷ []; rel = rel; limit = limit }

-- q >= 1
abbrev pub q : Subformula
q = atom 0 (compared AtLeast (pos 1))

-- a time between whole times, as 7/2
abbrev half : ℕ → Rational
half n = ratio (pos n) 2 (lit< tt)

q_holds : (u : Rational) → at_time 4 ≤ʳ u → u <ʳ at_time 6 → Truth q bump u
unfolding expression value_of
q_holds u h k = rw (less_no u (at_time 4) h, less_in u (at_time 6) k) refl

q_before : (u : Rational) → u <ʳ at_time 4 → ¬ Truth q bump u
unfolding expression value_of
q_before u h k = let g = rw (less_in u (at_time 4) h) at k in cc

q_after : (u : Rational) → at_time 6 ≤ʳ u → u <ʳ at_time 8 → ¬ Truth q bump u
unfolding expression value_of
q_after u h l k = let g = rw (less_no u (at_time 4) (le_trans (record { le = omega arith }) h), less_no u (at_time 6) h, less_in u (at_time 8) l) at k in cc

-- at the last row a step column has that row's value
q_at_end : (u : Rational) → at_time 8 ≤ʳ u → ¬ Truth q bump u
unfolding expression value_of
q_at_end u h k =
    let g = rw (
      less_no u (at_time 4) (le_trans (record { le = omega arith }) h),
      less_no u (at_time 6) (le_trans (record { le = omega arith }) h),
      less_no u (at_time 8) h,
    ) at k in
    cc

q_ends : (u : Rational) → at_time 6 ≤ʳ u → ¬ Truth q bump u
q_ends u h k = elim (le_or_lt (at_time 8) u) [ inl l ↦ q_at_end u l k | inr l ↦ q_after u h l k ]

-- constants, and the four comparisons at a time at which both sides are equal
always_true : Truth (constant true) bump (at_time 3)
always_true = refl

never_true : ¬ Truth (constant false) bump (at_time 3)
never_true h = cc

at_least_met : Truth (atom 0 (compared AtLeast (pos 1))) bump (at_time 5)
unfolding expression value_of
at_least_met = refl

above_not_met : ¬ Truth (atom 0 (compared Above (pos 1))) bump (at_time 5)
unfolding expression value_of
above_not_met h = cc

at_most_met : Truth (atom 0 (compared AtMost (pos 1))) bump (at_time 5)
unfolding expression value_of
at_most_met = refl

below_not_met : ¬ Truth (atom 0 (compared Below (pos 1))) bump (at_time 5)
unfolding expression value_of
below_not_met h = cc

above_met : Truth (atom 0 (compared Above (pos 0))) bump (at_time 5)
unfolding expression value_of
above_met = refl

at_least_not_met : ¬ Truth (atom 0 (compared AtLeast (pos 2))) bump (at_time 5)
unfolding expression value_of
at_least_not_met h = cc

at_most_not_met : ¬ Truth (atom 0 (compared AtMost (pos 0))) bump (at_time 5)
unfolding expression value_of
at_most_not_met h = cc

below_met : Truth (atom 0 (compared Below (pos 2))) bump (at_time 5)
unfolding expression value_of
below_met = refl

-- the connectives
at_4 : Truth q bump (at_time 4)
at_4 = q_holds (at_time 4) (record { le = omega arith }) (record { lt = omega arith })

at_6 : ¬ Truth q bump (at_time 6)
at_6 = q_ends (at_time 6) (record { le = omega arith })

negation_holds : Truth (negation q) bump (at_time 6)
negation_holds = at_6

negation_fails : ¬ Truth (negation q) bump (at_time 4)
negation_fails h = h at_4

conjunction_holds : Truth (conjunction q (constant true)) bump (at_time 4)
conjunction_holds = (at_4, refl)

conjunction_fails : ¬ Truth (conjunction (constant true) q) bump (at_time 6)
conjunction_fails h = at_6 h.1

disjunction_holds : Truth (disjunction (constant false) q) bump (at_time 4)
disjunction_holds = inr at_4

disjunction_fails : ¬ Truth (disjunction q (constant false)) bump (at_time 6)
disjunction_fails (inl h) = at_6 h
disjunction_fails (inr h) = cc

implication_holds : Truth (implication q (constant false)) bump (at_time 6)
implication_holds h = absurd (at_6 h)

implication_fails : ¬ Truth (implication q (constant false)) bump (at_time 4)
implication_fails h = let x : IsTrue false = h at_4 in cc

-- `eventually[1,2] q >= 1` holds at 2, where the window is [3,4], and fails at 3/2, where it ends before 4
eventually_holds : Truth (eventually 1 2 true true q) bump (at_time 2)
eventually_holds = (at_time 4, omega arith, at_4)

eventually_fails : ¬ Truth (eventually 1 2 true true q) bump (half 3)
eventually_fails (u, w, h) = q_before u (let e = w.ends in record { lt = omega (arith, e.le) }) h

-- with the upper end out it fails at 2 and holds at 9/4, where the window is [13/4,17/4)
open_eventually_fails : ¬ Truth (eventually 1 2 true false q) bump (at_time 2)
open_eventually_fails (u, w, h) = q_before u (let e = w.ends in record { lt = omega (arith, e.lt) }) h

open_eventually_holds : Truth (eventually 1 2 true false q) bump (ratio (pos 9) 4 (lit< tt))
open_eventually_holds = (at_time 4, omega arith, at_4)

-- `always[1,2] q >= 1` holds at 3, where the window is [4,5], and fails at 4, where it is [5,6]; with the upper end out it holds at 4
always_holds : Truth (always 1 2 true true q) bump (at_time 3)
always_holds u w = q_holds u (let a = w.begins in record { le = omega (arith, a.le) }) (let b = w.ends in record { lt = omega (arith, b.le) })

always_fails : ¬ Truth (always 1 2 true true q) bump (at_time 4)
always_fails h = at_6 (h (at_time 6) (omega arith))

open_always_holds : Truth (always 1 2 true false q) bump (at_time 4)
open_always_holds u w = q_holds u (let a = w.begins in record { le = omega (arith, a.le) }) (let b = w.ends in record { lt = omega (arith, b.lt) })

-- with the lower end out it fails at 5/2 all the same, by 15/4
open_always_fails : ¬ Truth (always 1 2 false true q) bump (half 5)
open_always_fails h = q_before (ratio (pos 15) 4 (lit< tt)) (record { lt = omega arith }) (h (ratio (pos 15) 4 (lit< tt)) (omega arith))

-- `once[1,2] q >= 1` holds at 5, where the window is [3,4], and fails at 8, where it is [6,7]
once_holds : Truth (once 1 (Some 2) true true q) bump (at_time 5)
once_holds = (at_time 4, omega arith, at_4)

once_fails : ¬ Truth (once 1 (Some 2) true true q) bump (at_time 8)
once_fails (u, w, h) = q_ends u (let a = w.begins in record { le = omega (arith, a.le) }) h

-- with the end near t out it fails at 5, where the window is [3,4), and holds at 6
open_once_fails : ¬ Truth (once 1 (Some 2) false true q) bump (at_time 5)
open_once_fails (u, w, h) = q_before u (let e = w.ends in record { lt = omega (arith, e.lt) }) h

open_once_holds : Truth (once 1 (Some 2) false true q) bump (at_time 6)
open_once_holds = (at_time 4, omega arith, at_4)

-- without an upper bound once holds from 4 on
ever_once_holds : Truth (once 0 None true true q) bump (at_time 8)
ever_once_holds = (at_time 4, omega arith, at_4)

ever_once_fails : ¬ Truth (once 0 None true true q) bump (half 7)
ever_once_fails (u, w, h) = q_before u (let e = w.ends in record { lt = omega (arith, e.le) }) h

-- `historically[0,1] q >= 1` holds at 5 and fails at 9/2; with the far end out it holds at 5 and fails at 19/4
historically_holds : Truth (historically 0 (Some 1) true true q) bump (at_time 5)
historically_holds u w = q_holds u (let a = w.begins in record { le = omega (arith, a.le) }) (let b = w.ends in record { lt = omega (arith, b.le) })

historically_fails : ¬ Truth (historically 0 (Some 1) true true q) bump (half 9)
historically_fails h = q_before (half 7) (record { lt = omega arith }) (h (half 7) (omega arith))

open_historically_holds : Truth (historically 0 (Some 1) true false q) bump (at_time 5)
open_historically_holds u w = q_holds u (let a = w.begins in record { le = omega (arith, a.lt) }) (let b = w.ends in record { lt = omega (arith, b.le) })

open_historically_fails : ¬ Truth (historically 0 (Some 1) true false q) bump (half 9)
open_historically_fails h = q_before (ratio (pos 15) 4 (lit< tt)) (record { lt = omega arith }) (h (ratio (pos 15) 4 (lit< tt)) (omega arith))

-- `not q >= 1 until[0,3] q >= 1` fails at 2: at 4 both would have to hold, since until asks its left side at that very instant
until_asks_the_instant : ¬ Truth (until 0 3 (negation q) q) bump (at_time 2)
until_asks_the_instant (u, w, h, k) = k u (let a = w.begins in record { above = omega (arith, a.le); below = record { le = omega arith } }) h

until_holds : Truth (until 0 3 (constant true) q) bump (at_time 2)
until_holds = (at_time 4, omega arith, at_4, λ v w. refl)

-- `q >= 1 since[1,2] q >= 1` holds at 5, by 4, and fails at 6
since_holds : Truth (since 1 (Some 2) q q) bump (at_time 5)
since_holds = (
  at_time 4,
  omega arith,
  at_4,
  λ v w. q_holds v w.above (let b = w.below in record { lt = omega (arith, b.le) }),
)

since_fails : ¬ Truth (since 1 (Some 2) q q) bump (at_time 6)
since_fails (u, w, h, k) = at_6 (k (at_time 6) (let e = w.ends in record { above = record { le = omega (arith, e.le) }; below = record { le = omega arith } }))

-- a trace of one row: its one instant is the whole domain, so a window that leaves it is empty
abbrev instant : Trace
instant = record { header = record { columns = record { name = codes "q"; step = true } ∷ []; scale = no_digits }; rows = row 7 (pos 1) ∷ [] }

instant_holds : Truth q instant (at_time 7)
unfolding expression value_of
instant_holds = refl

instant_window : Truth (always 0 5 true true (constant true)) instant (at_time 7)
instant_window u w = refl

left_window : ¬ Truth (eventually 1 5 true true (constant true)) instant (at_time 7)
left_window (u, w, h) = let a = w.begins in let b = w.inside.below in omega (arith, a.le, b.le)
