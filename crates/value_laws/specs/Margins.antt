-- What a margin stands for: a constantly infinite function, a constant or a ramp.
use Rattle.std.specs.Prelude.{◌≡◌, ℤ, pos, ◌≤◌, ◌^◌, Bool, true, false, refl}
use Rattle.std.specs.Int.RustNames.{unsigned_abs}
use Rattle.std.proofs.Common.{lit≤, subst}
use Rattle.rational.specs.Line.{constant}
use Rattle.rational.specs.Extended.{Affine, always_low, affine, always_high}
use Rattle.frac128.specs.Value.{value}
use Rattle.frac128.specs.Line.{line, base}
use Rattle.value_laws.specs.declared.margin.Margin.{Margin}
use Rattle.value_laws.specs.declared.margin.Margin.TheVariants.{Low, High, Fixed, Ramp}

-- its value at every time
abbrev pub margin_function : Margin → Affine
margin_function Low = always_low
margin_function High = always_high
margin_function (Fixed c) = affine (constant (value c))
margin_function (Ramp f) = affine (line f)

-- the time from which a ramp is measured, and 0 for the others
abbrev pub margin_base : Margin → ℤ
margin_base (Ramp f) = base f
margin_base m = pos 0

-- whether it is a ramp
abbrev pub is_ramp : Margin → Bool
is_ramp (Ramp f) = true
is_ramp m = false

-- a base is a time within 2^34
pub margin_base_within : (m : Margin) → unsigned_abs (margin_base m) ≤ 2 ^ 34
margin_base_within Low = lit≤ tt
margin_base_within High = lit≤ tt
margin_base_within (Fixed c) = lit≤ tt
margin_base_within (Ramp f) = f.small_t0

bool_apart : true ≡ false → ⊥
bool_apart e = subst IsTrue' e tt
  where
    IsTrue' : Bool → Type 0
    IsTrue' true = Unit {0}
    IsTrue' false = ⊥

-- what is no ramp has the base 0
pub others_base : (m : Margin) → is_ramp m ≡ false → margin_base m ≡ pos 0
others_base Low e = refl
others_base High e = refl
others_base (Fixed c) e = refl
others_base (Ramp f) e = absurd (bool_apart e)
