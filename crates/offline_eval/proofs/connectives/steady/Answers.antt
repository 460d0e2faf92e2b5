use Rattle.std.proofs.Common.{◌^◌, sym, subst, arith}
use Rattle.rational.specs.Rational.{IsWithin}
use Rattle.rational.specs.Places.{Before}
use Rattle.rational.proofs.Mixed.{tick_within}
use Rattle.frac128.specs.Value.{value}
use Rattle.pieces.specs.Chains.{stop}
use Rattle.pieces.specs.Knots.{after}
use Rattle.offline_eval.proofs.Steady.{tick_places, steady_chain, steady_chain_shapes}
use Rattle.offline_eval.proofs.connectives.steady.Goals as goal

pub put-requires-clause-limited : goal.put-requires-clause-limited
put-requires-clause-limited g c = subst (λ x. IsWithin (2 ^ 34) (stop x).at) (sym c.in_ok-built.ensures)
    (tick_within c.args.from (omega arith) c.tick_time.ensures)

pub put-requires-clause-later : goal.put-requires-clause-later
put-requires-clause-later g c = subst (λ x. Before (stop x) (after (value c.tick_time-2.result))) (sym c.in_ok-built.ensures)
    (tick_places c.args.from c.args.to c.requires c.tick_time.ensures c.tick_time-2.ensures)

pub returns-clause-worth : goal.returns-clause-worth
returns-clause-worth g c = steady_chain g.P.Shape c.in_ok-built.built c.put.new.self c.tick_time.result c.tick_time-2.result c.args.shape _ _
    c.in_ok-built.ensures c.in_ok-put.ensures.ok c.tick_time.ensures c.tick_time-2.ensures

pub returns-clause-shapes : goal.returns-clause-shapes
returns-clause-shapes g c = steady_chain_shapes g.P.Shape c.in_ok-built.built c.put.new.self c.tick_time.result c.tick_time-2.result c.args.shape
    c.in_ok-built.ensures c.in_ok-put.ensures.ok
