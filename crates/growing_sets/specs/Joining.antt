-- What is noted of a part that is new: words of private contracts.
use Rattle.std.specs.Prelude.{◌≡◌, ◌↔◌, List, ◌++◌}
use Rattle.rational.specs.Time.{Rational}
use Rattle.rational.specs.Places.{Place, After, Upto}
use Rattle.growing_sets.specs.Spans.{Lies, IsOn}
use Rattle.growing_sets.specs.declared.stretch.Stretch.{Stretch}

-- what was told grew by the times of the part between the two places
pub record Notes (from to : Place) (part : Stretch) (told fresh : List Stretch) : Type 0 where
  pub more : List Stretch
  pub noted : fresh ≡ told ++ more
  pub on : (t : Rational) → IsOn more t ↔ (After from t × Upto to t × Lies part t)
