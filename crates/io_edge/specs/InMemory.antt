-- Sources and sinks over bytes in memory, with the calls that are to fail.
use Rattle.std.specs.Prelude.{ℕ, ◌-◌, min, Bool, List, length}

-- the bytes that are left, at most how many a call gives, the numbers of the calls that fail, how many calls there were, how many
-- of them failed, whether the last one said the end, how many did, how many bytes the last one gave, and the longest buffer of one
pub record SourceInMemory : Type 0 where
  pub left : List ℕ
  pub most : ℕ
  pub fails : List ℕ
  pub calls : ℕ
  pub faults : ℕ
  pub ended : Bool
  pub ends : ℕ
  pub gave : ℕ
  pub asked : ℕ

-- how many bytes a call gives for a buffer of this length, where it doesn't fail
abbrev pub given : SourceInMemory → ℕ → ℕ
given s len = min (min len (length s.left)) s.most

-- the bytes that were written, for how many there is room, at most how many a call takes, the numbers of the calls that fail, how
-- many calls there were, and how many of them failed
pub record SinkInMemory : Type 0 where
  pub written : List ℕ
  pub room : ℕ
  pub most : ℕ
  pub fails : List ℕ
  pub calls : ℕ
  pub faults : ℕ

-- how many bytes of a piece of this length a call takes, where it doesn't fail
abbrev pub taken : SinkInMemory → ℕ → ℕ
taken s len = min (min len s.most) (s.room - length s.written)

-- the bytes that are left, whether the last call said the end, how many did, how many bytes the last one gave, and the longest buffer of one
pub record CleanBytes : Type 0 where
  pub left : List ℕ
  pub ended : Bool
  pub ends : ℕ
  pub gave : ℕ
  pub asked : ℕ
