-- The set of an atom, as it grows by rows.
use Rattle.std.specs.Prelude.{◌≡◌, ◌≤◌, ◌++◌, ℕ, pos, Bool, true, false, not, List, Option, None, Some}
use Rattle.rational.specs.Time.{Rational, ◌≤ʳ◌, whole}
use Rattle.rational.specs.Places.{Place, Same, Before, After, Upto}
use Rattle.time_sets.specs.Turns.{place}
use Rattle.time_sets.specs.Sets.{has, EndBefore, Rise}
use Rattle.time_sets.specs.Windows.{IsOf}
use Rattle.time_sets.specs.declared.domain.Domain.{Domain}
use Rattle.time_sets.specs.declared.times.Times.{Times}
use Rattle.stl_syntax.specs.Trace.{Header, Row, Trace, Continues}
use Rattle.stl_syntax.specs.Truth.{holds_at}
use Rattle.stl_syntax.specs.declared.atom.Atom.{Atom}
use Rattle.atom_lines.specs.Binding.{Binding, IsFor}
use Rattle.atom_lines.specs.Legs.{turning_place}
use Rattle.atom_lines.specs.declared.passage.Leg.{Leg}
use Rattle.atom_lines.specs.declared.passage.Turning.{Turning}

-- just before a row, and just after it
abbrev pub before_row : ℕ → Place
before_row n = record { at = whole (pos n); after = false }

abbrev pub after_row : ℕ → Place
after_row n = record { at = whole (pos n); after = true }

-- the set turns behind the place before the first row, and no later than at the last one
pub record IsTidy (first last : ℕ) (s : Times) : Type 0 where
  pub order : first ≤ last
  pub rise : Rise s.turns.items
  pub ends : EndBefore (after_row last) s.turns.items
  pub steady : (t : Rational) → whole (pos last) ≤ʳ t → has s t ≡ has s (whole (pos last))
  pub of : (on : Domain) (end : ℕ) → last ≤ end → Same (place on.from) (before_row first) → Same (place on.to) (after_row end) → IsOf on s

-- from the one time to the other the set has the times at which the atom holds, in each trace that goes on from the rows
abbrev pub TellsUpto : Binding → ℕ → Header → List Row → ℕ → ℕ → Times → Type 0
TellsUpto b i header rows first last s =
    (a : Atom) (tr : Trace) → IsFor b i a tr → Continues tr header rows false → (t : Rational) → whole (pos first) ≤ʳ t → t ≤ʳ whole (pos last)
    → has s t ≡ holds_at a tr t

-- the block has the last of the rows
pub record IsTail (block : Trace) (header : Header) (rows : List Row) : Type 0 where
  pub same_header : block.header ≡ header
  pub earlier : List Row
  pub parts : rows ≡ earlier ++ block.rows

-- the set stays as it was up to the place, and behind it has the times that it did not have
pub record TurnsAt (c : Place) (old new : Times) : Type 0 where
  pub before : (t : Rational) → Upto c t → has new t ≡ has old t
  pub behind : (t : Rational) → After c t → has new t ≡ not (has old t)
  pub rise : Rise new.turns.items
  pub last : (d : Place) → Before c d → EndBefore d new.turns.items
  pub of : (on : Domain) → IsOf on old → Before (place on.from) c → Before c (place on.to) → IsOf on new

-- it does so at a turning, if there is one
abbrev pub BendsAt : Option Turning → Times → Times → Type 0
BendsAt None old new = new ≡ old
BendsAt (Some x) old new = TurnsAt (turning_place x) old new

-- and at a row, if the truth jumps there
abbrev pub JumpsAt : ℕ → Bool → Times → Times → Type 0
JumpsAt second false old new = new ≡ old
JumpsAt second true old new = TurnsAt (before_row second) old new

-- the set goes on over the leg, to the row at which it ends
pub record GoesAlong (second : ℕ) (leg : Leg) (old new : Times) : Type 0 where
  pub mid : Times
  pub bends : BendsAt leg.turn old mid
  pub jumps : JumpsAt second leg.jumps mid new
