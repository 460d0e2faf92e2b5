-- Time running back.
use Rattle.std.specs.Prelude.{not}
use Rattle.rational.specs.Rational.{negate}
use Rattle.rational.specs.Places.{Place}
use Rattle.rational.specs.Windows.{Function}

-- the place at minus the time, on the other side of it
abbrev pub turned : Place → Place
turned c = record { at = negate c.at; after = not c.after }

-- at each time what is at minus the time
abbrev pub RunBack : Function → Function
RunBack A t v = A (negate t) v
