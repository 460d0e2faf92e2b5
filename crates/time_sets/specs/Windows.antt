-- What windows see of sets of times.
use Rattle.std.specs.Prelude.{◌⊎◌, ◌≤◌, ◌^◌, IfSome, IsTrue, unsigned_abs}
use Rattle.rational.specs.Time.{Rational, Precedes, Within, add, whole}
use Rattle.rational.specs.Places.{After, Upto, Before}
use Rattle.time_sets.specs.Twice.{floor_of}
use Rattle.time_sets.specs.Turns.{place}
use Rattle.time_sets.specs.Sets.{has, Rise, BeginAfter, EndBefore}
use Rattle.time_sets.specs.declared.turn.Turn.{Turn}
use Rattle.time_sets.specs.declared.times.Times.{Times}
use Rattle.time_sets.specs.declared.window.Window.{Window}
use Rattle.time_sets.specs.declared.domain.Domain.{Domain}

-- the time lies in the domain
abbrev pub Lies : Domain → Rational → Type 0
Lies on t = After (place on.from) t × Upto (place on.to) t

-- the place is near enough to be moved by a window
abbrev pub IsNear : Turn → Type 0
IsNear p = unsigned_abs (floor_of p.twice) ≤ 2 ^ 36

pub record IsDomain (on : Domain) : Type 0 where
  pub order : Before (place on.from) (place on.to)
  pub near_from : IsNear on.from
  pub near_to : IsNear on.to

-- the set turns within the domain alone, and at places that rise
pub record IsOf (on : Domain) (s : Times) : Type 0 where
  pub rise : Rise s.turns.items
  pub begins : BeginAfter (place on.from) s.turns.items
  pub ends : EndBefore (place on.to) s.turns.items

-- u lies in the window from t
pub record Sees (w : Window) (t u : Rational) : Type 0 where
  pub begins : IfSome w.low (λ k. Precedes w.low_in (add t (whole k)) u)
  pub ends : Precedes w.high_in u (add t (whole w.high))

-- from t some time of the domain that is one of the set lies in the window
abbrev pub SeesOne : Domain → Window → Times → Rational → Type 0
SeesOne on w s t = (u : Rational) × Lies on u × Sees w t u × IsTrue (has s u)

-- from t each time of the domain that lies in the window is one of the set
abbrev pub SeesOnly : Domain → Window → Times → Rational → Type 0
SeesOnly on w s t = (u : Rational) → Lies on u → Sees w t u → IsTrue (has s u)

-- from t some time that is one of q lies in the window, and each time from t to it, or from it to t, is one of p
abbrev pub Reaches : Domain → Window → Times → Times → Rational → Type 0
Reaches on w p q t =
    (u : Rational) × Lies on u × Sees w t u × IsTrue (has q u) × ((v : Rational) → Within t u v ⊎ Within u t v → IsTrue (has p v))
