-- Times that an entry makes sure, and what they add.
use Rattle.std.specs.Prelude.{◌⊎◌, List}
use Rattle.rational.specs.Time.{Rational}
use Rattle.rational.specs.Places.{Place, After, Upto}
use Rattle.frac128.specs.Cuts.{place}
use Rattle.growing_sets.specs.Spans.{Lies, IsOn}
use Rattle.growing_sets.specs.Windows.{Sees}
use Rattle.growing_sets.specs.Steps.{BySome, IsPast}
use Rattle.growing_sets.specs.declared.stretch.Stretch.{Stretch}
use Rattle.growing_sets.specs.declared.window.Window.{Window}

-- from t some time of the part between the two places lies in the window
abbrev pub SeesWithin : Window → Place → Place → Stretch → Rational → Type 0
SeesWithin w from to part t = (u : Rational) × (Lies part u × After from u × Upto to u) × Sees w t u

-- some time of the part, as far as it is sure
abbrev pub SeesUpto : Window → Place → Stretch → Rational → Type 0
SeesUpto w sure part t = SeesWithin w (place part.from) sure part t

-- a time of the parts behind the place that its own window sees
abbrev pub SeesItself : Window → Place → List Stretch → Rational → Type 0
SeesItself w c parts t = BySome (IsPast c) parts t × Sees w t t

-- from t some time of the list that is sure lies in the window, or t itself does, which is sure at t
abbrev pub SeesSure : Window → Place → List Stretch → Rational → Type 0
SeesSure w sure spans t = ((u : Rational) × (IsOn spans u × Upto sure u) × Sees w t u) ⊎ (IsOn spans t × Sees w t t)
