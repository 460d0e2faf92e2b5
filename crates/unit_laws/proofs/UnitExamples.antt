-- A row in smaller ticks, and a later one.
use Rattle.std.proofs.Common.{◌≡◌, [], ◌∷◌, refl, pos}
use Rattle.stl_syntax.specs.Trace.{Row}
use Rattle.unit_laws.specs.Units.{finer_row}
use Rattle.unit_laws.specs.Origins.{delayed_row}

-- 0.5 s and 3 V in tenths of a second and volts
abbrev pub tenth : Row
tenth = record { time = 5; values = pos 3 ∷ [] }

-- in hundredths of a second and in 10 mV it is at 50, with the value 300
pub smaller_ticks : finer_row 1 2 tenth ≡ record { time = 50; values = pos 300 ∷ [] }
smaller_ticks = refl

-- seven tenths later it is at 12, with the same value
pub seven_later : delayed_row 7 tenth ≡ record { time = 12; values = pos 3 ∷ [] }
seven_later = refl
