-- What a set is once times were added to it.
use Rattle.std.specs.Prelude.{◌≡◌}
use Rattle.rational.specs.Time.{Rational}
use Rattle.growing_sets.specs.Spans.{AreTidy, Grows}
use Rattle.growing_sets.specs.declared.grown.Grown.{Grown}

-- a set got the times of P, as far as these lie within its bounds, and noted what is new: its list rises still, and the bounds stay
pub record Adds (old new : Grown) (P : Rational → Type 0) : Type 0 where
  pub tidy : AreTidy new.spans.items
  pub bounds : new.bounds ≡ old.bounds
  pub grows : Grows old.bounds old.spans.items new.spans.items old.fresh.items new.fresh.items P
