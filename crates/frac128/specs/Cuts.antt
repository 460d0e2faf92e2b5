-- The places that the program keeps.
use Rattle.std.specs.Prelude.{Bool, true, false, ℕ, zero, suc}
use Rattle.rational.specs.Places.{Place}
use Rattle.frac128.specs.Value.{value}
use Rattle.frac128.specs.declared.cut.Cut.{Cut}

-- the side of a time on which a cut lies, and the place that it stands for
abbrev pub is_after : ℕ → Bool
is_after zero = false
is_after (suc n) = true

abbrev pub place : Cut → Place
place c = record { at = value c.time; after = is_after c.side }
