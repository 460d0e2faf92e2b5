-- Changes of truth at both ends of the domain, on the rise of x from 0 at 0 to 10 at 10.
use Rattle.std.proofs.Common.{pos, [], ◌∷◌, ◌⊎◌, inl, inr, arith}
use Rattle.std.specs.Prelude.{codes}
use Rattle.rational.specs.Time.{Rational, ◌≤ʳ◌, ◌<ʳ◌, add, subtract, Within}
use Rattle.rational.specs.Rational.{middle}
use Rattle.rational.proofs.Order.{le_or_lt, lt_of_lt_of_le, lt_of_le_of_lt, lt_trans, le_of_lt, le_of_same}
use Rattle.rational.proofs.Order.{le_refl, same_sym, same_trans, left_of_middle, right_of_middle}
use Rattle.rational.proofs.Field.{lt_add_left, add_zero, add_comm}
use Rattle.rational.proofs.TimeLemmas.{less_in}
use Rattle.stl_syntax.specs.Trace.{value_of}
use Rattle.stl_syntax.specs.Formula.{Subformula, atom}
use Rattle.stl_syntax.specs.Truth.{Truth, expression}
use Rattle.stl_syntax.specs.Cells.{IsNear, IsChange}
use Rattle.stl_syntax.specs.declared.rel.Rel.TheVariants.{Above, Below}
use Rattle.stl_syntax.proofs.Examples.{rise, at_time}

-- x > 0, and x < 10
abbrev pub above_0 : Subformula
above_0 = atom 0 (record { terms = record { coef = pos 1; name = codes "x" } ∷ []; rel = Above; limit = pos 0 })

abbrev pub below_10 : Subformula
below_10 = atom 0 (record { terms = record { coef = pos 1; name = codes "x" } ∷ []; rel = Below; limit = pos 10 })

above_after : (u : Rational) → at_time 0 <ʳ u → u <ʳ at_time 10 → Truth above_0 rise u
unfolding expression value_of
above_after u h k = rw (less_in u (at_time 10) k) (let l = h.lt in grind arith)

not_above_at_0 : ¬ Truth above_0 rise (at_time 0)
unfolding expression value_of
not_above_at_0 h = cc

below_before : (u : Rational) → u <ʳ at_time 10 → Truth below_10 rise u
unfolding expression value_of
below_before u k = rw (less_in u (at_time 10) k) (let l = k.lt in grind arith)

not_below_at_10 : ¬ Truth below_10 rise (at_time 10)
unfolding expression value_of
not_below_at_10 h = cc

-- a time just after 0, and one just before 10
just_after : (e : Rational) → at_time 0 <ʳ e → (u : Rational) × (at_time 0 <ʳ u) × (u <ʳ e) × (u <ʳ at_time 10)
just_after e h = by_order (le_or_lt e (at_time 10))
  where
    by_order : (e ≤ʳ at_time 10) ⊎ (at_time 10 <ʳ e) → (u : Rational) × (at_time 0 <ʳ u) × (u <ʳ e) × (u <ʳ at_time 10)
    by_order (inl l) = (middle (at_time 0) e, left_of_middle h, right_of_middle h, lt_of_lt_of_le (right_of_middle h) l)
    by_order (inr l) =
        let ten : at_time 0 <ʳ at_time 10 = record { lt = omega arith } in
        (middle (at_time 0) (at_time 10), left_of_middle ten, lt_trans (right_of_middle ten) l, right_of_middle ten)

near_0 : (e u : Rational) → at_time 0 <ʳ e → at_time 0 <ʳ u → u <ʳ e → IsNear e (at_time 0) u
near_0 e u h k l = record {
  above = lt_of_le_of_lt (record { le = omega arith }) (lt_add_left k (le_of_lt h));
  below = lt_of_lt_of_le l (record { le = omega arith });
}

itself_near : (e t : Rational) → at_time 0 <ʳ e → IsNear e t t
itself_near e t h = record { above = more; below = more }
  where
    more : t <ʳ add t e
    more = lt_of_le_of_lt (le_of_same (same_trans (same_sym (add_zero t)) (add_comm t (at_time 0))))
        (lt_of_lt_of_le (lt_add_left h (le_refl t)) (le_of_same (add_comm e t)))

-- `x > 0` changes at the start
change_at_start : IsChange above_0 rise (at_time 0)
change_at_start = record {
  inside = omega arith;
  differ = λ e h. let u = just_after e h in (
    u.0,
    at_time 0,
    near_0 e u.0 h u.1 u.2,
    itself_near e (at_time 0) h,
    record { above = le_of_lt u.1; below = le_of_lt u.3 },
    record { above = le_refl (at_time 0); below = record { le = omega arith } },
    above_after u.0 u.1 u.3,
    not_above_at_0,
  );
}

-- as far before 10 as d is after 0
before_10 : Rational → Rational
before_10 d = subtract (at_time 10) d

near_10 : (e d : Rational) → at_time 0 <ʳ e → at_time 0 <ʳ d → d <ʳ e → IsNear e (at_time 10) (before_10 d)
unfolding before_10
near_10 e d h k l = record {
  above = (let m = l.lt in record { lt = omega (arith, m) });
  below = lt_of_lt_of_le (let m = k.lt in let ten : subtract (at_time 10) d <ʳ at_time 10 = record { lt = omega (arith, m) } in ten)
      (le_of_lt (itself_near e (at_time 10) h).above);
}

within_10 : (d : Rational) → at_time 0 <ʳ d → d <ʳ at_time 10 → Within (at_time 0) (at_time 10) (before_10 d)
unfolding before_10
within_10 d k l = record { above = (let m = l.lt in record { le = omega (arith, m) }); below = (let m = k.lt in record { le = omega (arith, m) }) }

earlier_10 : (d : Rational) → at_time 0 <ʳ d → before_10 d <ʳ at_time 10
unfolding before_10
earlier_10 d k = let m = k.lt in record { lt = omega (arith, m) }

-- `x < 10` changes at the end
change_at_stop : IsChange below_10 rise (at_time 10)
change_at_stop = record {
  inside = omega arith;
  differ = λ e h. let d = just_after e h in (
    before_10 d.0,
    at_time 10,
    near_10 e d.0 h d.1 d.2,
    itself_near e (at_time 10) h,
    within_10 d.0 d.1 d.3,
    record { above = record { le = omega arith }; below = le_refl (at_time 10) },
    below_before (before_10 d.0) (earlier_10 d.0 d.1),
    not_below_at_10,
  );
}
