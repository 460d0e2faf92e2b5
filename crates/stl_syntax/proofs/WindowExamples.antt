-- Windows with open ends on the triangle.
use Rattle.std.proofs.Common.{arith, refl, true, false}
use Rattle.std.specs.Prelude.{Some}
use Rattle.rational.specs.Time.{Rational}
use Rattle.stl_syntax.specs.Trace.{value_of}
use Rattle.stl_syntax.specs.Formula.{eventually, historically}
use Rattle.stl_syntax.specs.Truth.{Truth, expression}
use Rattle.stl_syntax.proofs.Examples.{x_at_least_5, triangle, at_time, below_5}

-- `eventually]0,2] x >= 5` holds at 3, by the end that is in
at_end : Truth (eventually 0 2 false true x_at_least_5) triangle (at_time 3)
unfolding expression value_of
at_end = (at_time 5, omega arith, refl)

-- `eventually[0,2[ x >= 5` fails at 3, since 5 is out
before_end : ¬ Truth (eventually 0 2 true false x_at_least_5) triangle (at_time 3)
before_end (u, w, h) = below_5 u (let e = w.ends in record { lt = omega arith }) h

-- the window of `eventually]2,2]` is empty
no_time : (t : Rational) → ¬ Truth (eventually 2 2 false true x_at_least_5) triangle t
no_time t (u, w, h) = let a = w.begins in let b = w.ends in omega arith

-- so is that of `historically]0,1[` at the start
nothing_before : Truth (historically 0 (Some 1) false false x_at_least_5) triangle (at_time 0)
nothing_before u w = absurd (let a = w.ends in let b = w.inside.above in omega arith)
