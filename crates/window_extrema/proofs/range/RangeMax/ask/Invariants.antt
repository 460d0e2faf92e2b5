use Rattle.std.proofs.Common.{◌≡◌, ◌≤◌, ◌-◌}
use Rattle.window_extrema.specs.Range.{IsPaid}
use Rattle.window_extrema.proofs.range.RangeMax.ask.Given as goal

abbrev pub invariant-loop-self : goal.invariant-loop-self
invariant-loop-self g l =
    (l.self.items ≡ l.initial.self.items)
    × (l.self.low ≡ l.initial.self.low)
    × (l.self.high ≤ l.hi)
    × IsPaid l.initial.self.spent l.self.spent l.initial.steps l.steps

abbrev pub decreases-loop-self : goal.decreases-loop-self
decreases-loop-self g l = l.hi - l.self.high
