-- What a `Ramp` stands for.
use Rattle.std.specs.Prelude.{ℕ, ℤ, pos, ◌+ℤ◌, ◌⊎◌}
use Rattle.rational.specs.Line.{Line, ramp_line}
use Rattle.rational.specs.Rational.{Rational, whole, ◌≈◌}
use Rattle.frac128.specs.declared.ramp.Ramp.{Ramp}

-- the line of a ramp
abbrev pub line : Ramp → Line
line f = ramp_line f.t0 f.v0 f.rise f.run f.positive

-- the time t0 at which the ramp has the value v0
abbrev pub base : Ramp → ℤ
base f = f.t0

-- v0
abbrev pub base_value : Ramp → ℤ
base_value f = f.v0

-- how far the value rises in the run
abbrev pub rise_in_run : Ramp → ℤ
rise_in_run f = f.rise

-- the run, a length of time
abbrev pub run_time : Ramp → ℕ
run_time f = f.run

-- a time is the base, or the end of the run
abbrev pub IsEnd : Ramp → Rational → Type 0
IsEnd f t = (t ≈ whole f.t0) ⊎ (t ≈ whole (f.t0 +ℤ pos f.run))
