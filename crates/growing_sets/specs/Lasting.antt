-- Windows that are met with the times from the start on, and with those up to the last.
use Rattle.std.specs.Prelude.{◌⊎◌, List, MatchOption}
use Rattle.rational.specs.Time.{Rational}
use Rattle.rational.specs.Places.{Place, After, Upto, Before, AtMost}
use Rattle.growing_sets.specs.Spans.{IsOn}
use Rattle.growing_sets.specs.Windows.{Sees}
use Rattle.time_sets.specs.Parts.{low_place}
use Rattle.growing_sets.specs.declared.stretch.Stretch.{Stretch}
use Rattle.growing_sets.specs.declared.window.Window.{Window}

-- no time from the start on lies in the window from t
abbrev pub SeesNone : Window → Place → Rational → Type 0
SeesNone w start t = (u : Rational) → After start u → ¬ (Sees w t u)

-- each time of the window from t, from the start on up to the last, is one of the list
abbrev pub SeesOnlyBy : Window → Place → Place → List Stretch → Rational → Type 0
SeesOnlyBy w start last spans t = (u : Rational) → After start u → Upto last u → Sees w t u → IsOn spans u

-- from t the window, as far as it lies from the start on, does not begin before the place
abbrev pub BeginsFrom : Window → Place → Place → Rational → Type 0
BeginsFrom w start from t = ¬ (Before start from) ⊎ MatchOption w.low ⊥ (λ k. ¬ (Before (low_place k w.low_in t) from))

-- from the first place up to the last the list has each time, and just before the first it has not
pub record IsRunTo (spans : List Stretch) (last from : Place) : Type 0 where
  pub at_most : AtMost from last
  pub holds : (t : Rational) → After from t → Upto last t → IsOn spans t
  pub gap : (c : Place) → Before c from → (v : Rational) × After c v × Upto from v × ¬ (IsOn spans v)
