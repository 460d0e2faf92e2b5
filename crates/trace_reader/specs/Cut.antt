-- Bytes that are cut into lines as they come.
use Rattle.std.specs.Prelude.{ℕ, suc, ◌<◌, ◌≤◌, List, []}
use Rattle.trace_reader.specs.declared.line.LineFault.{LineFault}
use Rattle.trace_reader.specs.declared.line.LineFault.TheVariants.{TooMany, TooLong}
use Rattle.trace_reader.specs.declared.refusal.Limits.{Limits}
use Rattle.trace_reader.specs.declared.refusal.TraceKind.{TraceKind}
use Rattle.trace_reader.specs.declared.refusal.TraceKind.TheVariants.{TooManyLines, LineTooLong}

-- how many lines were begun, and the bytes of the last one, where it is not whole
pub record Cut : Type 0 where
  pub begun : ℕ
  pub line : List ℕ

-- the lines begun once so many bytes more came: a byte begins a line where the line before it is whole
abbrev pub begun_after : ℕ → List ℕ → ℕ → ℕ
begun_after begun [] (suc more) = suc begun
begun_after begun _ _ = begun

-- a line of `size` bytes, the last of `begun`, breaks a limit
abbrev pub IsLineFault : ℕ → ℕ → ℕ → LineFault → Type 0
IsLineFault most begun size TooMany = most < begun
IsLineFault most begun size TooLong = (begun ≤ most) × (4096 < size)

-- the kind of refusal
abbrev pub kind_of : LineFault → TraceKind
kind_of TooMany = TooManyLines
kind_of TooLong = LineTooLong

-- a line of `size` bytes, the last of `begun`, is within the limits
pub record Fits (limits : Limits) (begun size : ℕ) : Type 0 where
  pub count : begun ≤ limits.lines
  pub short : size ≤ 4096
