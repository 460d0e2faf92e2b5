-- Sets of times as the places at which they turn.
use Rattle.std.specs.Prelude.{Bool, not, cond, List, [], ◌∷◌}
use Rattle.rational.specs.Time.{Rational, less}
use Rattle.rational.specs.Places.{Place, Before}
use Rattle.time_sets.specs.Turns.{place}
use Rattle.time_sets.specs.declared.turn.Turn.{Turn}
use Rattle.time_sets.specs.declared.times.Times.{Times}

-- the time lies behind the place, as a test
abbrev pub behind : Place → Rational → Bool
behind c t = cond c.after (less c.at t) (not (less t c.at))

-- what is `holds` before the first of the turns, and turns at each, as it is at the time
abbrev pub turned : Bool → List Turn → Rational → Bool
turned holds [] t = holds
turned holds (p ∷ rest) t = cond (behind (place p) t) (turned (not holds) rest t) holds

-- the time is one of the set, as a test
abbrev pub has : Times → Rational → Bool
has s t = turned s.starts s.turns.items t

-- the first of the turns, if there is one, comes after the place
abbrev pub BeginAfter : Place → List Turn → Type 0
BeginAfter c [] = Unit {0}
BeginAfter c (p ∷ rest) = Before c (place p)

-- each turn comes after the one before it
abbrev pub Rise : List Turn → Type 0
Rise [] = Unit {0}
Rise (p ∷ rest) = BeginAfter (place p) rest × Rise rest

-- each turn comes before the place
abbrev pub EndBefore : Place → List Turn → Type 0
EndBefore c [] = Unit {0}
EndBefore c (p ∷ rest) = Before (place p) c × EndBefore c rest
