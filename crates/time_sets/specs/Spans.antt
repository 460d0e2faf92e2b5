-- The longest stretches of one truth of a set in a domain.
use Rattle.std.specs.Prelude.{◌≡◌, ◌==◌, ◌%◌, ◌+◌, ◌≤◌, ℕ, zero, suc, Bool, not, length, get_or}
use Rattle.rational.specs.Time.{Rational, ◌≤ʳ◌}
use Rattle.rational.specs.Places.{Before, After, Upto}
use Rattle.time_sets.specs.Turns.{place}
use Rattle.time_sets.specs.Sets.{has}
use Rattle.time_sets.specs.Windows.{Lies, IsOf}
use Rattle.time_sets.specs.declared.turn.Turn.{Turn}
use Rattle.time_sets.specs.declared.times.Times.{Times}
use Rattle.time_sets.specs.declared.domain.Domain.{Domain}
use Rattle.time_sets.specs.declared.spans.Span.{Span}

-- the number is odd
abbrev pub odd : ℕ → Bool
odd n = n % 2 == 1

-- the borders of the stretches in order: the begin of the domain, each turn, and the end of the domain
abbrev pub border : Domain → Times → ℕ → Turn
border on s zero = on.from
border on s (suc n) = get_or s.turns.items n on.to

-- the span is a stretch of one truth that no other time of the domain makes longer
pub record IsLongest (on : Domain) (s : Times) (d : Span) : Type 0 where
  pub order : Before (place d.from) (place d.to)
  pub within : (t : Rational) → After (place d.from) t → Upto (place d.to) t → Lies on t
  pub holds : (t : Rational) → After (place d.from) t → Upto (place d.to) t → has s t ≡ d.holds
  pub begins : (t : Rational) → Lies on t → Upto (place d.from) t → (v : Rational) × (t ≤ʳ v) × Upto (place d.from) v × (has s v ≡ not d.holds)
  pub ends : (t : Rational) → Lies on t → After (place d.to) t → (v : Rational) × (v ≤ʳ t) × After (place d.to) v × (has s v ≡ not d.holds)

-- each time of a domain lies between two borders of a set of it, one after the other
abbrev pub SpansCover : Type 0
SpansCover =
    (on : Domain) (s : Times) (t : Rational) → IsOf on s → Lies on t
    → (n : ℕ) × (n ≤ length s.turns.items) × After (place (border on s n)) t × Upto (place (border on s (n + 1))) t
