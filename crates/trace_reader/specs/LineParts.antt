-- The parts of a line as they are read from its front.
use Rattle.std.specs.Prelude.{ℕ, ℤ, pos, neg_ℤ, true, false, Bool, List, [], map, Option, Some, None}
use Rattle.trace_reader.specs.TraceText.{Line, split, trim}

-- a line with these bytes that is whole
abbrev pub whole_line : List ℕ → Line
whole_line bytes = record { bytes = bytes; whole = true }

-- the fields of what is left of a line, where something is left
abbrev pub fields_of : Option (List ℕ) → List (List ℕ)
fields_of None = []
fields_of (Some text) = map trim (split 44 text)

-- a size with its sign
abbrev pub signed : Bool → ℕ → ℤ
signed true n = neg_ℤ (pos n)
signed false n = pos n
