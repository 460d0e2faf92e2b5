-- A line times its run, as a whole number at 0 and its climb in each unit of time.
use Rattle.std.specs.Prelude.{◌≡◌, ℤ, pos, ◌-ℤ◌}
use Rattle.rational.specs.Line.{Line}

pub record IsAbove (d : Line) (base climb : ℤ) : Type 0 where
  pub base_is : base ≡ pos d.base_up -ℤ pos d.base_down
  pub climb_is : climb ≡ pos d.rise_up -ℤ pos d.rise_down
