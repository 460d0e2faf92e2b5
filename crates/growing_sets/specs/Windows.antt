-- Windows of time: what they see from a time, and the times that see something.
use Rattle.std.specs.Prelude.{◌⊎◌, MatchOption, IfSome}
use Rattle.rational.specs.Time.{Rational}
use Rattle.rational.specs.Places.{Place, After, Upto, Before}
use Rattle.frac128.specs.Cuts.{place}
use Rattle.time_sets.specs.Parts.{low_place, high_place}
use Rattle.growing_sets.specs.Spans.{Lies}
use Rattle.growing_sets.specs.declared.stretch.Stretch.{Stretch}
use Rattle.growing_sets.specs.declared.window.Window.{Window}

-- u lies in the window from t
pub record Sees (w : Window) (t u : Rational) : Type 0 where
  pub begins : IfSome w.low (λ k. After (low_place k w.low_in t) u)
  pub ends : Upto (high_place w.high w.high_in t) u

-- from t some time of the stretch lies in the window
abbrev pub SeesPart : Window → Stretch → Rational → Type 0
SeesPart w part t = (u : Rational) × Lies part u × Sees w t u

-- from t the window, as far as it lies from the start on, does not reach beyond the ends of the stretch
abbrev pub IsHeld : Window → Place → Stretch → Rational → Type 0
IsHeld w start span t =
    (¬ (Before start (place span.from)) ⊎ MatchOption w.low ⊥ (λ k. ¬ (Before (low_place k w.low_in t) (place span.from))))
    × ¬ (Before (place span.to) (high_place w.high w.high_in t))
