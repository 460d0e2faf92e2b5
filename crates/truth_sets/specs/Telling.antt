-- What a set of times tells of a formula over a trace.
use Rattle.std.specs.Prelude.{◌↔◌, true, false, IsTrue}
use Rattle.rational.specs.Time.{Rational}
use Rattle.rational.specs.Places.{Same}
use Rattle.time_sets.specs.Turns.{place}
use Rattle.time_sets.specs.Sets.{has}
use Rattle.time_sets.specs.Windows.{IsOf, Lies}
use Rattle.time_sets.specs.declared.domain.Domain.{Domain}
use Rattle.time_sets.specs.declared.times.Times.{Times}
use Rattle.stl_syntax.specs.Trace.{Trace, start, stop}
use Rattle.stl_syntax.specs.Formula.{Subformula}
use Rattle.stl_syntax.specs.Truth.{Truth}

-- the domain has the times from the first row of the trace to the last, both with it
pub record IsOver (on : Domain) (tr : Trace) : Type 0 where
  pub begins : Same (place on.from) (record { at = start tr; after = false })
  pub ends : Same (place on.to) (record { at = stop tr; after = true })

-- the set turns within the domain, and has each time of it exactly where the formula is true there
pub record TellsTruth (on : Domain) (tr : Trace) (p : Subformula) (s : Times) : Type 0 where
  pub of : IsOf on s
  pub times : (t : Rational) → Lies on t → IsTrue (has s t) ↔ Truth p tr t
