use Rattle.std.proofs.Common.{◌≡◌, ◌+◌, ◌-◌, ◌∙◌, length, ap, arith}
use Rattle.pl_signal.specs.Knots.{stop}
use Rattle.pl_signal.proofs.KnotLemmas.{stop_read}
use Rattle.pl_signal.proofs.builder.Builder.stop.Goals as goal

pub returns-clause-value : goal.returns-clause-value
returns-clause-value g c =
    let place : length c.self.inside.knots.items ≡ (c.len.result - 1) + 1 = let some = c.self.invariant.some in omega arith in
    stop_read c.self.inside.knots.items (c.len.result - 1) c.index.result.now place c.index.ensures ∙ ap (λ ks. stop ks) c.self.view_is
