-- What a set takes in of what another one gained, and what it lets go of.
use Rattle.std.specs.Prelude.{◌⊎◌, List, [], ◌∷◌}
use Rattle.rational.specs.Time.{Rational, ◌≤ʳ◌}
use Rattle.rational.specs.Places.{Place, Before}
use Rattle.frac128.specs.Cuts.{place}
use Rattle.growing_sets.specs.Spans.{AreTidy, IsOn, Lies}
use Rattle.growing_sets.specs.declared.stretch.Stretch.{Stretch}
use Rattle.growing_sets.specs.declared.grown.Grown.{Grown}

-- the list got the times of `fresh` that lie in the bounds, and no others
pub record TakesIn (bounds : Stretch) (old new fresh : List Stretch) : Type 0 where
  pub has : (t : Rational) → Lies bounds t → IsOn fresh t → IsOn new t
  pub only : (t : Rational) → IsOn new t → IsOn old t ⊎ (Lies bounds t × IsOn fresh t)

-- the first of the list, if there is one, ends after the place
abbrev pub EndsAfter : Place → List Stretch → Type 0
EndsAfter c [] = Unit {0}
EndsAfter c (s ∷ rest) = Before c (place s.to)

-- a set goes on from that time on, where some of its times are left
pub record IsCutAt (from : Rational) (old new : Grown) : Type 0 where
  pub tidy : AreTidy new.spans.items
  pub less : (t : Rational) → Lies new.bounds t → Lies old.bounds t
  pub left : (t : Rational) → Lies old.bounds t → from ≤ʳ t → Lies new.bounds t
  pub after : (t : Rational) → Lies old.bounds t → from ≤ʳ t → (u : Rational) → Lies new.bounds u → from ≤ʳ u
  pub has : (t : Rational) → Lies new.bounds t → IsOn old.spans.items t → IsOn new.spans.items t
  pub only : (t : Rational) → IsOn new.spans.items t → IsOn old.spans.items t × Lies new.bounds t

-- the times of a set lie within its bounds
abbrev pub IsGrownInside : Grown → Type 0
IsGrownInside x = (t : Rational) → IsOn x.spans.items t → Lies x.bounds t
