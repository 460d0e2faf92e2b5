-- Times from which one set goes on without a break to a time of another, or back from which it does.
use Rattle.std.specs.Prelude.{◌⊎◌, Bool, IsTrue, List}
use Rattle.rational.specs.Time.{Rational, Within, ◌≤ʳ◌}
use Rattle.rational.specs.Places.{Place, After, Upto}
use Rattle.frac128.specs.Cuts.{place}
use Rattle.growing_sets.specs.Spans.{Lies, IsOn, IsAmong}
use Rattle.growing_sets.specs.Steps.{HoldsFrom}
use Rattle.growing_sets.specs.declared.stretch.Stretch.{Stretch}

-- from t on the stretch has a time of the list that is sure; back from t it has one of the list
abbrev pub ReachesIn : List Stretch → Place → Stretch → Rational → Type 0
ReachesIn spans sure p t = Lies p t × ((u : Rational) × (t ≤ʳ u) × (Lies p u × IsOn spans u × Upto sure u))

abbrev pub ReachedIn : List Stretch → Stretch → Rational → Type 0
ReachedIn spans p t = Lies p t × ((u : Rational) × (u ≤ʳ t) × (Lies p u × IsOn spans u))

-- so does the run that holds the part's first times
abbrev pub ReachesAt : List Stretch → List Stretch → Place → Stretch → Rational → Type 0
ReachesAt runs spans sure part t = (p : Stretch) × IsAmong p runs × HoldsFrom p (place part.from) × ReachesIn spans sure p t

abbrev pub ReachedAt : List Stretch → List Stretch → Stretch → Rational → Type 0
ReachedAt runs spans part t = (p : Stretch) × IsAmong p runs × HoldsFrom p (place part.from) × ReachedIn spans p t

-- the time lies in the stretch, between the two places
abbrev pub IsNew : Place → Place → Stretch → Rational → Type 0
IsNew before sure s u = Lies s u × After before u × Upto sure u

-- so does a run that holds the first times of the stretch between the two places
abbrev pub ReachesBy : List Stretch → List Stretch → Place → Place → Stretch → Rational → Type 0
ReachesBy runs spans before sure s t =
    (p : Stretch) × IsAmong p runs × ReachesIn spans sure p t
    × ((w : Rational) × IsNew before sure s w × Lies p w × ((v : Rational) → IsNew before sure s v → v ≤ʳ w → Lies p v))

-- from t the runs go on without a break to a sure time of the list, or t itself is one of the list
abbrev pub GoesOn : List Stretch → List Stretch → Place → Rational → Type 0
GoesOn runs spans sure t =
    ((u : Rational) × (t ≤ʳ u) × (IsOn spans u × Upto sure u) × ((v : Rational) → Within t u v → IsOn runs v)) ⊎ IsOn spans t

-- from t they do to a time of the list
abbrev pub GoesTo : List Stretch → List Stretch → Rational → Type 0
GoesTo runs spans t = (u : Rational) × (t ≤ʳ u) × IsOn spans u × ((v : Rational) → Within t u v → IsOn runs v)

-- back from t they do to a time of the list
abbrev pub GoesBack : List Stretch → List Stretch → Rational → Type 0
GoesBack runs spans t = (u : Rational) × (u ≤ʳ t) × IsOn spans u × ((v : Rational) → Within u t v → IsOn runs v)

-- from the place on up to t the runs have each time, and they are carried on from before it
pub record IsCarried (carried : Bool) (c : Place) (runs : List Stretch) (t : Rational) : Type 0 where
  pub on : IsTrue carried
  pub after : After c t
  pub all : (v : Rational) → After c v → v ≤ʳ t → IsOn runs v

-- back from t they go on to a time of the list, or to the place, where they are carried on from before it
abbrev pub GoesBackBy : Bool → Place → List Stretch → List Stretch → Rational → Type 0
GoesBackBy carried c runs spans t = GoesBack runs spans t ⊎ IsCarried carried c runs t

-- the place is where what the list has within the part ends
pub record IsLastEnd (spans : List Stretch) (part : Stretch) (c : Place) : Type 0 where
  pub bounds : (u : Rational) → Lies part u → IsOn spans u → Upto c u
  pub reached : (t : Rational) → Upto c t → (u : Rational) × (t ≤ʳ u) × (Lies part u × IsOn spans u)

-- the place is where what the list has within the part begins
pub record IsFirstBegin (spans : List Stretch) (part : Stretch) (c : Place) : Type 0 where
  pub bounds : (u : Rational) → Lies part u → IsOn spans u → After c u
  pub reached : (t : Rational) → After c t → (u : Rational) × (u ≤ʳ t) × (Lies part u × IsOn spans u)
