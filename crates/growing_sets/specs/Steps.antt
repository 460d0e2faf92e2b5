-- What one entry adds to a set of each kind, and what sets of each kind tell.
use Rattle.std.specs.Prelude.{◌⊎◌, List, [], ◌∷◌}
use Rattle.rational.specs.Time.{Rational}
use Rattle.rational.specs.Places.{Place, After, Before}
use Rattle.frac128.specs.Cuts.{place}
use Rattle.growing_sets.specs.Spans.{Lies, IsOn, IsAmong}
use Rattle.growing_sets.specs.Windows.{Sees, IsHeld}
use Rattle.growing_sets.specs.declared.stretch.Stretch.{Stretch}
use Rattle.growing_sets.specs.declared.window.Window.{Window}

-- Q relates the time to some stretch of the list
abbrev pub BySome : (Stretch → Rational → Type 0) → List Stretch → Rational → Type 0
BySome Q [] t = ⊥
BySome Q (s ∷ rest) t = Q s t ⊎ BySome Q rest t

-- the stretch holds the times just after the place
abbrev pub HoldsFrom : Stretch → Place → Type 0
HoldsFrom s c = ¬ (Before c (place s.from)) × Before c (place s.to)

-- a time of the stretch that is one of the list too
abbrev pub Common : List Stretch → Stretch → Rational → Type 0
Common spans part t = Lies part t × IsOn spans t

-- a time of the part behind the place
abbrev pub IsPast : Place → Stretch → Rational → Type 0
IsPast c part t = Lies part t × After c t

-- the stretch of the list that holds the part's first times holds the window from the time, as far as that lies from the start on
abbrev pub HeldAt : Window → Place → List Stretch → Stretch → Rational → Type 0
HeldAt w start spans part t = (p : Stretch) × IsAmong p spans × HoldsFrom p (place part.from) × IsHeld w start p t

-- each time of the window from t, from the start on, is one of the list; some time of the window is
abbrev pub SeesOnly : Window → Place → List Stretch → Rational → Type 0
SeesOnly w start spans t = (u : Rational) → After start u → Sees w t u → IsOn spans u

abbrev pub SeesOne : Window → List Stretch → Rational → Type 0
SeesOne w spans t = (u : Rational) × IsOn spans u × Sees w t u

-- the list has exactly the times of P within the bounds
pub record Tells (bounds : Stretch) (spans : List Stretch) (P : Rational → Type 0) : Type 0 where
  pub has : (t : Rational) → Lies bounds t → P t → IsOn spans t
  pub only : (t : Rational) → IsOn spans t → Lies bounds t × P t

-- what a list gained in one entry
pub record Gains (before after more : List Stretch) : Type 0 where
  pub kept : (t : Rational) → IsOn before t → IsOn after t
  pub gained : (t : Rational) → IsOn after t → IsOn before t ⊎ IsOn more t
  pub own : (t : Rational) → IsOn more t → IsOn after t
