-- The generated trace: its rows, and its bytes.
use Rattle.std.specs.Prelude.{ℕ, zero, suc, ◌+◌, ◌*◌, ◌/◌, ◌%◌, ◌^◌, true, false, List, [], ◌∷◌, ◌++◌, flat_map, ℤ, pos, ◌-ℤ◌, codes, decimal}
use Rattle.std.specs.Fmt.{signed_decimal}
use Rattle.stl_syntax.specs.Trace.{Row, Trace, Column}
use Rattle.stl_syntax.specs.Texts.{newline}
use Rattle.stl_syntax.specs.declared.scale.Scale.{Scale}

-- the state after s
abbrev pub next_state : ℕ → ℕ
next_state s = (s * 6364136223846793005 + 1442695040888963407) % 2 ^ 64

-- the top 21 bits, about 0
abbrev pub state_value : ℕ → ℤ
state_value s = pos (s / 2 ^ 43) -ℤ pos 1048576

-- so many rows from a time on, after the state s
abbrev pub rows_after : ℕ → ℕ → ℕ → List Row
rows_after s t zero = []
rows_after s t (suc n) = record { time = t; values = state_value (next_state s) ∷ state_value (next_state s) ∷ [] } ∷ rows_after (next_state s) (t + 4) n

-- whole numbers of units
abbrev pub ticks : Scale
ticks = record { time = 0; value = 0 }

-- a ramp and a step
abbrev pub columns : List Column
columns = record { name = codes "x"; step = false } ∷ record { name = codes "s"; step = true } ∷ []

-- the trace of a number, with so many rows
abbrev pub generated : ℕ → ℕ → Trace
generated number rows = record { header = record { columns = columns; scale = ticks }; rows = rows_after number 0 rows }

-- the bytes that stand for it
abbrev pub row_line : Row → List ℕ
row_line r = decimal r.time ++ flat_map (λ v. codes "," ++ signed_decimal v) r.values ++ newline

-- the bytes of the trace
abbrev pub generated_bytes : ℕ → ℕ → List ℕ
generated_bytes number rows = codes "time,x,s:step" ++ newline ++ flat_map row_line (generated number rows).rows
