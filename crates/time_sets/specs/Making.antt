-- How a set is made turn by turn: words of private contracts.
use Rattle.std.specs.Prelude.{◌≡◌, ◌↔◌, ◌⊎◌, Bool, true, false, not, cond, [], Option, Some, None, MatchOption, IfSome, IsTrue}
use Rattle.rational.specs.Time.{Rational}
use Rattle.rational.specs.Places.{Place, Before}
use Rattle.time_sets.specs.Turns.{place}
use Rattle.time_sets.specs.Sets.{behind, has, Rise, BeginAfter, EndBefore}
use Rattle.time_sets.specs.Windows.{Lies}
use Rattle.time_sets.specs.declared.turn.Turn.{Turn}
use Rattle.time_sets.specs.declared.times.Times.{Times}
use Rattle.time_sets.specs.declared.domain.Domain.{Domain}

-- the truth, turned behind a place
abbrev pub turned_at : Turn → Rational → Bool → Bool
turned_at at t holds = cond (behind (place at) t) (not holds) holds

-- the set turns at the place too, as far as that lies in the domain
pub record Turns (on : Domain) (at : Turn) (old new : Times) : Type 0 where
  pub times : (t : Rational) → Lies on t → has new t ≡ turned_at at t (has old t)
  pub rise : Rise new.turns.items
  pub begins : BeginAfter (place on.from) new.turns.items
  pub ends : EndBefore (place on.to) new.turns.items
  pub last : (c : Place) → EndBefore c old.turns.items → Before (place at) c → EndBefore c new.turns.items

-- the set turns within the domain, at places that rise up to one before `at`
pub record CanTurn (on : Domain) (at : Turn) (s : Times) : Type 0 where
  pub rise : Rise s.turns.items
  pub begins : BeginAfter (place on.from) s.turns.items
  pub ends : EndBefore (place on.to) s.turns.items
  pub last : EndBefore (place at) s.turns.items

-- the set is none yet
pub record IsBare (s : Times) : Type 0 where
  pub starts : s.starts ≡ false
  pub turns : s.turns.items ≡ []

-- the truth of what is made so far, where its last stretch ends at `last` if there is one
abbrev pub closed : Option Turn → Times → Rational → Bool
closed None s t = has s t
closed (Some e) s t = turned_at e t (has s t)

-- what is made so far turns within the domain and before its last end; with no last end it is none
pub record Grown (on : Domain) (last : Option Turn) (s : Times) : Type 0 where
  pub rise : Rise s.turns.items
  pub begins : BeginAfter (place on.from) s.turns.items
  pub ends : EndBefore (place on.to) s.turns.items
  pub before : MatchOption last (IsBare s) (λ e. EndBefore (place e) s.turns.items)

-- behind what passes the test, its truth is that of its last stretch, which goes on
abbrev pub GoesOn : Domain → Option Turn → (Rational → Type 0) → Times → Type 0
GoesOn on last Past s = (t : Rational) → Lies on t → Past t → IfSome last (λ e. has s t ≡ true)

-- a stretch can be added
pub record CanAdd (on : Domain) (last : Option Turn) (Past : Rational → Type 0) (s : Times) : Type 0 where
  pub grown : Grown on last s
  pub goes_on : GoesOn on last Past s

-- the set grew by the times that are More, and ends at `end` now
pub record Adds (on : Domain) (last end : Option Turn) (Past More : Rational → Type 0) (old new : Times) : Type 0 where
  pub grown : Grown on end new
  pub goes_on : GoesOn on end Past new
  pub tells : (t : Rational) → Lies on t → IsTrue (closed end new t) ↔ (IsTrue (closed last old t) ⊎ More t)

-- its last stretch was ended
pub record Ends (on : Domain) (last : Option Turn) (old new : Times) : Type 0 where
  pub rise : Rise new.turns.items
  pub begins : BeginAfter (place on.from) new.turns.items
  pub ends : EndBefore (place on.to) new.turns.items
  pub times : (t : Rational) → Lies on t → has new t ≡ closed last old t
