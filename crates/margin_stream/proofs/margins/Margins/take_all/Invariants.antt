use Rattle.std.proofs.Common.{◌≡◌}
use Rattle.online_robust.specs.Nets.{left_of}
use Rattle.margin_stream.specs.Margining.{Given, IsStanding, HasTaken}
use Rattle.margin_stream.proofs.margins.Margins.take_all.Given as goal

abbrev pub invariant-loop-line : goal.invariant-loop-line
invariant-loop-line l = record {
  formula : l.self.formula ≡ l.initial.self.formula;
  taken : (g : Given) → IsStanding g l.initial.self → HasTaken g l.self l.initial.text l.text;
}

abbrev pub decreases-loop-line : goal.decreases-loop-line
decreases-loop-line l = left_of l.self.net
