-- The definitions at small traces, where the answers are known by hand.
use Rattle.std.proofs.Common.{◌≡◌, ℕ, ℤ, pos, negsuc, List, [], ◌∷◌, refl, false, lit<, arith, true}
use Rattle.std.specs.Prelude.{codes, IsTrue}
use Rattle.rational.specs.Rational.{ratio}
use Rattle.rational.specs.Time.{Rational, ◌<ʳ◌, ◌≈◌, whole}
use Rattle.stl_syntax.specs.Trace.{Column, Row, Trace, IsTrace, value_of, Header}
use Rattle.stl_syntax.specs.Formula.{Subformula, constant, atom, eventually, always, subformula, horizon}
use Rattle.stl_syntax.specs.Truth.{Truth, expression}
use Rattle.stl_syntax.specs.declared.atom.Atom.{Atom}
use Rattle.stl_syntax.specs.declared.node.Node.{Node}
use Rattle.stl_syntax.specs.declared.node.Node.TheVariants.{Atom as Leaf, Eventually}
use Rattle.stl_syntax.specs.declared.rel.Rel.TheVariants.{AtLeast, Above}
use Rattle.rational.proofs.TimeLemmas.{less_in}
use Rattle.stl_syntax.specs.declared.scale.Scale.{Scale}

abbrev pub row : ℕ → ℤ → Row
row t v = record { time = t; values = v ∷ [] }

abbrev pub x_column : Column
x_column = record { name = codes "x"; step = false }

abbrev pub no_digits : Scale
no_digits = record { time = 0; value = 0 }

abbrev pub x_header : Header
x_header = record { columns = x_column ∷ []; scale = no_digits }

-- x rises from 0 at 0 to 10 at 10
abbrev pub rise : Trace
rise = record { header = x_header; rows = row 0 (pos 0) ∷ row 10 (pos 10) ∷ [] }

-- x rises from 0 at 0 to 5 at 5, and falls back to 0 at 10
abbrev pub triangle : Trace
triangle = record { header = x_header; rows = row 0 (pos 0) ∷ row 5 (pos 5) ∷ row 10 (pos 0) ∷ [] }

-- x >= 5, and x > 5
abbrev pub at_least_5 : Atom
at_least_5 = record { terms = record { coef = pos 1; name = codes "x" } ∷ []; rel = AtLeast; limit = pos 5 }

abbrev pub above_5 : Atom
above_5 = record { terms = record { coef = pos 1; name = codes "x" } ∷ []; rel = Above; limit = pos 5 }

abbrev pub x_at_least_5 : Subformula
x_at_least_5 = atom 0 at_least_5

abbrev pub at_time : ℕ → Rational
at_time n = whole (pos n)

rise_is_trace : IsTrace rise
rise_is_trace = record { rows = (refl, (lit< tt, refl, tt)) }

-- a trace without rows is none
no_rows : ¬ IsTrace (record { header = x_header; rows = [] })
no_rows h = h.rows

-- 10/2 and 5 are one time
same_time : ratio (pos 10) 2 (lit< tt) ≈ at_time 5
same_time = record { same = refl }

-- `x >= 5` on the rise: false at 0, true at 5 (by two pairs) and at 10; `x > 5` is false at 5
rise_at_0 : ¬ Truth x_at_least_5 rise (at_time 0)
unfolding expression value_of
rise_at_0 h = cc

rise_at_5 : Truth x_at_least_5 rise (at_time 5)
unfolding expression value_of
rise_at_5 = refl

rise_at_10_halves : Truth x_at_least_5 rise (ratio (pos 10) 2 (lit< tt))
unfolding expression value_of
rise_at_10_halves = refl

rise_at_10 : Truth x_at_least_5 rise (at_time 10)
unfolding expression value_of
rise_at_10 = refl

strict_at_5 : ¬ Truth (atom 0 above_5) rise (at_time 5)
unfolding expression value_of
strict_at_5 h = cc

-- the expression at 30/7 on the rise is -5/7
rise_expression : expression at_least_5 rise (ratio (pos 30) 7 (lit< tt)) ≈ ratio (negsuc 4) 7 (lit< tt)
unfolding expression value_of
rise_expression = record { same = refl }

-- `eventually[0,2] x >= 5` on the triangle: true at 3
triangle_at_3 : Truth (eventually 0 2 true true x_at_least_5) triangle (at_time 3)
unfolding expression value_of
triangle_at_3 = (at_time 5, omega arith, refl)

-- before 5 the triangle, and the rise, are below 5
pub below_5 : (u : Rational) → u <ʳ at_time 5 → ¬ Truth x_at_least_5 triangle u
unfolding expression value_of
below_5 u k h = let g = rw (less_in u (at_time 5) k) at h in let l = k.lt in grind arith

-- it is false at 2, since the triangle is below 5 on [2,4]
triangle_at_2 : ¬ Truth (eventually 0 2 true true x_at_least_5) triangle (at_time 2)
triangle_at_2 (u, w, h) = below_5 u (let e = w.ends in record { lt = omega arith }) h

-- `always[3,4] false` on the triangle: false at 7, and true at 8, where the window is empty
empty_window : Truth (always 3 4 true true (constant false)) triangle (at_time 8)
empty_window u w = absurd (let a = w.begins in let b = w.inside.below in omega arith)

last_window : ¬ Truth (always 3 4 true true (constant false)) triangle (at_time 7)
last_window h = let g : IsTrue false = h (at_time 10) (omega arith) in cc

-- the nodes of `eventually[0,2] x >= 5`
abbrev pub eventually_nodes : List Node
eventually_nodes = Leaf at_least_5 ∷ Eventually 0 0 2 true true ∷ []

root_tree : subformula eventually_nodes 1 ≡ eventually 0 2 true true x_at_least_5
unfolding subformula
root_tree = refl

root_horizon : horizon (subformula eventually_nodes 1) ≡ 2
unfolding subformula
root_horizon = refl
