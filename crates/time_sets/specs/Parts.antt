-- The stretches of a set in a domain, one after the other: words of private contracts.
use Rattle.std.specs.Prelude.{◌≡◌, ◌⊎◌, ◌↔◌, ◌<ℤ◌, ℕ, zero, suc, Bool, true, false, not, ℤ, List, drop, IsTrue, IfSome}
use Rattle.rational.specs.Time.{Rational, ◌≤ʳ◌, Within, add, whole}
use Rattle.rational.specs.Places.{Place, Before, After, Upto}
use Rattle.time_sets.specs.Turns.{place}
use Rattle.time_sets.specs.Sets.{turned}
use Rattle.time_sets.specs.Windows.{Lies, IsNear, Sees}
use Rattle.time_sets.specs.declared.seeing.Stretch.{Stretch}
use Rattle.time_sets.specs.declared.turn.Turn.{Turn}
use Rattle.time_sets.specs.declared.window.Window.{Window}
use Rattle.time_sets.specs.declared.domain.Domain.{Domain}

-- the times of a stretch
abbrev pub over : Stretch → Domain
over s = record { from = s.from.now; to = s.to.now }

-- the turns tell, at the time, what is left of a set from the stretch on that ends at the turn n: that one is true
abbrev pub left_from : ℕ → List Turn → Rational → Bool
left_from zero ps t = turned true ps t
left_from (suc n) ps t = turned false (drop n ps) t

-- the part has times, all in the domain, and ends that a window can move
pub record IsInside (on part : Domain) : Type 0 where
  pub order : Before (place part.from) (place part.to)
  pub within : (t : Rational) → After (place part.from) t → Upto (place part.to) t → Lies on t
  pub near_from : IsNear part.from
  pub near_to : IsNear part.to

-- the part is the first stretch of what the test `now` has in the domain, and `later` has what comes after it
pub record IsPart (on part : Domain) (now later : Rational → Bool) : Type 0 where
  pub inside : IsInside on part
  pub splits : (t : Rational) → Lies on t → IsTrue (now t) ↔ ((After (place part.from) t × Upto (place part.to) t) ⊎ IsTrue (later t))
  pub behind : (t : Rational) → Lies on t → IsTrue (later t) → After (place part.to) t
  pub apart : (t u : Rational) → Upto (place part.to) t → Lies on u → IsTrue (later u) → (v : Rational) × (t ≤ʳ v) × (v ≤ʳ u) × (now v ≡ false)

-- some time lies in the window
abbrev pub HasRoom : Window → Type 0
HasRoom w = IfSome w.low (λ k. (k <ℤ w.high) ⊎ ((k ≡ w.high) × IsTrue w.low_in × IsTrue w.high_in))

-- where a window that begins k after the time, and one that ends k after it, has that end, in or out
abbrev pub low_place : ℤ → Bool → Rational → Place
low_place k inside t = record { at = add t (whole k); after = not inside }

abbrev pub high_place : ℤ → Bool → Rational → Place
high_place k inside t = record { at = add t (whole k); after = inside }

-- from t some time of the domain that passes the test lies in the window
abbrev pub SeesSome : Domain → Window → (Rational → Bool) → Rational → Type 0
SeesSome on w test t = (u : Rational) × Lies on u × Sees w t u × IsTrue (test u)

-- so, and each time between passes another
abbrev pub ReachesSome : Domain → Window → (Rational → Bool) → (Rational → Bool) → Rational → Type 0
ReachesSome on w p q t =
    (u : Rational) × Lies on u × Sees w t u × IsTrue (q u) × ((v : Rational) → Within t u v ⊎ Within u t v → IsTrue (p v))

-- t lies in the run, and from it some time of the run and of the part lies in the window
pub record Meets (w : Window) (run part : Domain) (t : Rational) : Type 0 where
  pub after : After (place run.from) t
  pub upto : Upto (place run.to) t
  pub sees : (u : Rational) × Sees w t u × After (place run.from) u × Upto (place run.to) u × After (place part.from) u × Upto (place part.to) u

-- t is no earlier than each time from which a later run and part may meet
pub record IsPast (w : Window) (run part : Domain) (t : Rational) : Type 0 where
  pub after : After (place run.from) t
  pub run_begins : Before (place run.from) (high_place w.high w.high_in t)
  pub part_begins : Before (place part.from) (high_place w.high w.high_in t)
