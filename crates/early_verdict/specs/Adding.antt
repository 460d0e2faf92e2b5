-- What a row adds to the two sets of an atom.
use Rattle.std.specs.Prelude.{◌≡◌, ◌<◌, ◌⊎◌, Bool, true, false, Option, Some, None, [], MatchOption}
use Rattle.rational.specs.Time.{Rational, ◌≤ʳ◌, ◌<ʳ◌}
use Rattle.stl_syntax.specs.Trace.{Row, Trace, row_time, start, stop}
use Rattle.stl_syntax.specs.Truth.{holds_at}
use Rattle.stl_syntax.specs.declared.atom.Atom.{Atom}
use Rattle.atom_lines.specs.Binding.{HasRow, AreNeighbours}
use Rattle.rational.specs.Places.{Place, After, Upto, AtMost}
use Rattle.frac128.specs.Cuts.{place}
use Rattle.growing_sets.specs.Spans.{IsOn}
use Rattle.growing_sets.specs.Growing.{Adds}
use Rattle.early_verdict.specs.Fitting.{AreSetsTidy}
use Rattle.early_verdict.specs.declared.atoms.Pending.{Pending}
use Rattle.early_verdict.specs.declared.sets.Sets.{Sets}
use Rattle.growing_sets.specs.declared.grown.Grown.{Grown}

-- the two sets grew by the times at which the atom has the truth true, and by those at which it has the truth false
pub record HasAdded (old new : Sets) (Q : Bool → Rational → Type 0) : Type 0 where
  pub tidy : AreSetsTidy new
  pub parts : new.parts ≡ old.parts
  pub yes : Adds old.yes new.yes (Q true)
  pub no : Adds old.no new.no (Q false)

-- both sets grew by whatever times they have now
pub record HasGrown (old new : Sets) : Type 0 where
  pub tidy : AreSetsTidy new
  pub parts : new.parts ≡ old.parts
  pub yes : Adds old.yes new.yes (IsOn new.yes.spans.items)
  pub no : Adds old.no new.no (IsOn new.no.spans.items)

-- between two places it has the truth b
abbrev pub Piece : Bool → Place → Place → Bool → Rational → Type 0
Piece b c d v t = (b ≡ v) × After c t × Upto d t

-- from the place on the truth is `holds`: it goes on as it was, or its times up to there were added
abbrev pub Turns : Pending → Bool → Place → Sets → Sets → Pending → Type 0
Turns was holds at old new next = (next.holds ≡ holds)
    × (((was.holds ≡ holds) × (next.from ≡ was.from) × (new ≡ old)) ⊎ ((place next.from ≡ at) × HasAdded old new (Piece was.holds (place was.from) at)))

-- once the times of the pending truth are added too, up to any place from `at` on, the sets have grown by Q and by its times from there on
pub record AddsOnce (pending : Pending) (at : Place) (Q : Bool → Rational → Type 0) (old new : Sets) : Type 0 where
  pub once : (then : Sets) (to : Place) → AtMost at to → HasAdded new then (Piece pending.holds (place pending.from) to)
      → HasAdded old then (λ v t. Q v t ⊎ Piece pending.holds at to v t)

-- it has the truth v at a time between the rows
abbrev pub BetweenRows : Atom → Trace → Row → Row → Bool → Rational → Type 0
BetweenRows a tr q r v t = (row_time q <ʳ t) × (t <ʳ row_time r) × (holds_at a tr t ≡ v)

abbrev pub AfterRow : Atom → Trace → Option Row → Row → Bool → Rational → Type 0
AfterRow a tr None r v t = ⊥
AfterRow a tr (Some q) r v t = BetweenRows a tr q r v t

-- what was new in a set is so no more, and else it is as it was
pub record Rests (old new : Grown) : Type 0 where
  pub bounds : new.bounds ≡ old.bounds
  pub spans : new.spans.items ≡ old.spans.items
  pub fresh : new.fresh.items ≡ []

-- so it is with both sets
pub record HasRested (old new : Sets) : Type 0 where
  pub tidy : AreSetsTidy new
  pub parts : new.parts ≡ old.parts
  pub yes : Rests old.yes new.yes
  pub no : Rests old.no new.no

abbrev pub before_row : Row → Place
before_row r = record { at = row_time r; after = false }

abbrev pub after_row : Row → Place
after_row r = record { at = row_time r; after = true }

-- the row is the last of the trace, and the first or right after the last of the trace before; up to that the atom is as it was
pub record IsNextRow (a : Atom) (old : Option Trace) (tr : Trace) (before : Option Row) (r : Row) : Type 0 where
  pub stops : stop tr ≡ row_time r
  pub stands : HasRow tr r
  pub first : MatchOption old ((before ≡ None) × (start tr ≡ row_time r))
      (λ o. (q : Row) × (before ≡ Some q) × (stop o ≡ row_time q) × (q.time < r.time) × AreNeighbours tr q r
      × ((t : Rational) → start tr ≤ʳ t → t ≤ʳ stop o → holds_at a tr t ≡ holds_at a o t))
