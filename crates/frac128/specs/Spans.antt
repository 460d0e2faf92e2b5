-- The times of a span.
use Rattle.std.specs.Prelude.{Bool}
use Rattle.rational.specs.Time.{Interval}
use Rattle.frac128.specs.Value.{value}
use Rattle.frac128.specs.declared.frac.Frac.{Frac}
use Rattle.frac128.specs.declared.span.Span.{Span}

-- from one end to the other, each in or out
abbrev pub interval_between : Frac → Bool → Frac → Bool → Interval
interval_between from from_in to to_in = record { from = value from; from_in = from_in; to = value to; to_in = to_in }

-- the interval that a span stands for
abbrev pub interval : Span → Interval
interval on = interval_between on.from on.from_in on.to on.to_in
