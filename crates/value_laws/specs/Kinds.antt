-- The three kinds of value, each as one record: truth, three-valued truth and margins.
use Rattle.std.specs.Prelude.{pos, negsuc, true, false}
use Rattle.rational.specs.Rational.{whole}
use Rattle.rational.specs.Extended.{minus_infinity, finite, infinity}
use Rattle.rational.specs.Affine.{level}
use Rattle.value_laws.specs.Members.{ShapeOf}
use Rattle.value_laws.specs.Values.{truth_value, kleene_value}
use Rattle.value_laws.specs.Margins.{margin_function, margin_base, is_ramp}
use Rattle.value_laws.specs.declared.truth.Truth.{Truth}
use Rattle.value_laws.specs.declared.kleene.Kleene.{Kleene}
use Rattle.value_laws.specs.declared.margin.Margin.{Margin}

-- 1 where it holds and -1 where it fails, at every time
abbrev pub truth_shape : ShapeOf Truth
truth_shape = record {
  function = λ p. level (truth_value p.holds);
  base = λ p. pos 0;
  moves = λ p. false;
  lowest = finite (whole (negsuc 0));
  highest = finite (whole (pos 1));
  may_be_wide = false;
}

-- 1 where it certainly holds, -1 where it certainly fails, and 0 where neither is known
abbrev pub kleene_shape : ShapeOf Kleene
kleene_shape = record {
  function = λ p. level (kleene_value p.known);
  base = λ p. pos 0;
  moves = λ p. false;
  lowest = finite (whole (negsuc 0));
  highest = finite (whole (pos 1));
  may_be_wide = false;
}

-- a constantly infinite function, a constant or a ramp
abbrev pub margin_shape : ShapeOf Margin
margin_shape = record {
  function = margin_function;
  base = margin_base;
  moves = is_ramp;
  lowest = minus_infinity;
  highest = infinity;
  may_be_wide = true;
}
