-- Sets of times as lists of stretches that rise and do not touch.
use Rattle.std.specs.Prelude.{◌≡◌, ◌⊎◌, List, [], ◌∷◌, ◌++◌}
use Rattle.rational.specs.Time.{Rational}
use Rattle.rational.specs.Places.{Place, After, Upto, Before}
use Rattle.frac128.specs.Cuts.{place}
use Rattle.growing_sets.specs.declared.stretch.Stretch.{Stretch}

-- the time lies between the two ends
abbrev pub Lies : Stretch → Rational → Type 0
Lies s t = After (place s.from) t × Upto (place s.to) t

-- some stretch of the list holds the time
abbrev pub IsOn : List Stretch → Rational → Type 0
IsOn [] t = ⊥
IsOn (s ∷ rest) t = Lies s t ⊎ IsOn rest t

-- s is one of the list
abbrev pub IsAmong : Stretch → List Stretch → Type 0
IsAmong s [] = ⊥
IsAmong s (r ∷ rest) = (s ≡ r) ⊎ IsAmong s rest

-- the first of the list, if there is one, begins after the place
abbrev pub BeginsAfter : Place → List Stretch → Type 0
BeginsAfter c [] = Unit {0}
BeginsAfter c (s ∷ rest) = Before c (place s.from)

-- the stretches rise, with a time between each two
abbrev pub AreTidy : List Stretch → Type 0
AreTidy [] = Unit {0}
AreTidy (s ∷ rest) = BeginsAfter (place s.to) rest × AreTidy rest

-- each of the list ends before the place; none does
abbrev pub EndBefore : Place → List Stretch → Type 0
EndBefore c [] = Unit {0}
EndBefore c (s ∷ rest) = Before (place s.to) c × EndBefore c rest

abbrev pub NoneEndsBefore : Place → List Stretch → Type 0
NoneEndsBefore c [] = Unit {0}
NoneEndsBefore c (s ∷ rest) = ¬ (Before (place s.to) c) × NoneEndsBefore c rest

-- how a list of stretches within the bounds grew by the times of P, as far as these lie within the bounds: `fresh` got exactly the
-- times that are new, and `fresh` before that was `told`
pub record Grows (bounds : Stretch) (old new told fresh : List Stretch) (P : Rational → Type 0) : Type 0 where
  pub more : List Stretch
  pub noted : fresh ≡ told ++ more
  pub keeps : (t : Rational) → IsOn old t → IsOn new t
  pub adds : (t : Rational) → Lies bounds t → P t → IsOn new t
  pub only : (t : Rational) → IsOn new t → IsOn old t ⊎ (Lies bounds t × P t)
  pub gained : (t : Rational) → IsOn new t → IsOn old t ⊎ IsOn more t
  pub news : (t : Rational) → IsOn more t → IsOn new t × ¬ (IsOn old t)

-- a part was put into a list, which rises still: the list grew by the part, and what is new of it was noted
pub record IsPutIn (part : Stretch) (old new told fresh : List Stretch) : Type 0 where
  pub tidy : AreTidy new
  pub grows : Grows part old new told fresh (Lies part)
