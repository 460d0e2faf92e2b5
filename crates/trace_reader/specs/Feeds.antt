-- The LF in bytes that come piece by piece, and the rows after an event.
use Rattle.std.specs.Prelude.{◌≢◌, ℕ, List, [], ◌∷◌, ◌++◌, All}
use Rattle.std.specs.Io.BufRead.{take_through}
use Rattle.stl_syntax.specs.Trace.{Row}
use Rattle.trace_reader.specs.declared.event.Event.{Event}
use Rattle.trace_reader.specs.declared.event.Event.TheVariants.{Row as IsARow}

-- no LF among the bytes
abbrev pub HasNoFeed : List ℕ → Type 0
HasNoFeed bytes = All (λ c. c ≢ 10) bytes

-- the bytes after the last LF, or all where there is none
pub data IsOpenLine : List ℕ → List ℕ → Type 0 where
  first : {line : List ℕ} → HasNoFeed line → IsOpenLine line line
  later : (before : List ℕ) {line : List ℕ} → HasNoFeed line → IsOpenLine (before ++ 10 ∷ line) line

-- the bytes up to and with the first LF, or all where there is none
abbrev pub through_feed : List ℕ → List ℕ
through_feed = take_through 10

-- the rows after an event, where `last` is the reader's row
abbrev pub rows_after : Event → List Row → Row → List Row
rows_after IsARow rows last = rows ++ last ∷ []
rows_after _ rows last = rows
