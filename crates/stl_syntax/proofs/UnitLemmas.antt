-- Where a formula has no form in smaller ticks.
use Rattle.std.proofs.Common.{◌≡◌, ℕ, ◌*◌, ◌-◌, ◌^◌, ◌<◌, ◌≤◌, refl, sym, ◌∙◌, ap, arith, inl, inr}
use Rattle.std.specs.Prelude.{Some, None, position}
use Rattle.stl_syntax.specs.Binding.{IsUnitFault}
use Rattle.stl_syntax.specs.Formula.{Formula, IsFirst}
use Rattle.stl_syntax.specs.Limits.{HasLargeConstant, reach}
use Rattle.stl_syntax.specs.Scaling.{scaled, has_large_constant}
use Rattle.stl_syntax.proofs.ScalingLemmas.{first_large, none_large, no_first_large, one_first, scaled_reach}
use Rattle.stl_syntax.specs.declared.scale.Scale.{Scale}
use Rattle.stl_syntax.specs.declared.scale.UnitFault.{UnitFault}
use Rattle.stl_syntax.specs.declared.scale.UnitFault.TheVariants.{Constant, Reach}

-- by how much bounds, and constants, grow
abbrev pub time_factor : Formula → Scale → ℕ
time_factor f to = 10 ^ (to.time - f.scale.time)

abbrev pub value_factor : Formula → Scale → ℕ
value_factor f to = 10 ^ (to.value - f.scale.value)

-- the first large constant is the fault
pub constant_fault : (f : Formula) (to : Scale) (i : ℕ) → position (has_large_constant (value_factor f to)) f.nodes ≡ Some i → IsUnitFault f to (Constant i)
constant_fault f to i e = inl (i, first_large (time_factor f to) (value_factor f to) i f.nodes e, refl)

-- the first large constant is the one fault
pub constant_fault_only : (f : Formula) (to : Scale) (i : ℕ) → position (has_large_constant (value_factor f to)) f.nodes ≡ Some i
    → (r : UnitFault) → IsUnitFault f to r → Constant i ≡ r
constant_fault_only f to i e r (inl (j, first, is)) =
    ap Constant (one_first HasLargeConstant (scaled f to).nodes i j (first_large (time_factor f to) (value_factor f to) i f.nodes e) first) ∙ sym is
constant_fault_only f to i e r (inr (none, late)) = absurd (none (Constant i) (i, first_large (time_factor f to) (value_factor f to) i f.nodes e, refl))

-- where no constant is large
none_first : (f : Formula) (to : Scale) → position (has_large_constant (value_factor f to)) f.nodes ≡ None → (i : ℕ)
    → IsFirst HasLargeConstant (scaled f to).nodes i → ⊥
none_first f to e i first = no_first_large (time_factor f to) (value_factor f to) f.nodes (none_large (value_factor f to) f.nodes e) i first

new_reach : (f : Formula) (to : Scale) → reach (scaled f to).nodes ≡ reach f.nodes * time_factor f to
new_reach f to = omega (arith, scaled_reach (time_factor f to) (value_factor f to) f.nodes)

-- the reach is the fault where it is large
pub reach_fault : (f : Formula) (to : Scale) → position (has_large_constant (value_factor f to)) f.nodes ≡ None → 4294967295 < reach f.nodes * time_factor f to
    → IsUnitFault f to (Reach (reach f.nodes * time_factor f to))
reach_fault f to e large = inr ((λ r h. none_first f to e h.0 h.1), (omega (arith, new_reach f to, large), ap Reach (sym (new_reach f to))))

-- and without one the reach is
pub reach_fault_only : (f : Formula) (to : Scale) → position (has_large_constant (value_factor f to)) f.nodes ≡ None → (r : UnitFault) → IsUnitFault f to r
    → Reach (reach f.nodes * time_factor f to) ≡ r
reach_fault_only f to e r (inl (i, first, is)) = absurd (none_first f to e i first)
reach_fault_only f to e r (inr (none, (large, is))) = ap Reach (sym (new_reach f to)) ∙ sym is

-- and there is none where it is not
pub no_fault : (f : Formula) (to : Scale) → position (has_large_constant (value_factor f to)) f.nodes ≡ None → reach f.nodes * time_factor f to ≤ 4294967295
    → (r : UnitFault) → ¬ IsUnitFault f to r
no_fault f to e small r (inl (i, first, is)) = none_first f to e i first
no_fault f to e small r (inr (none, (large, is))) = omega (arith, new_reach f to, large, small)
