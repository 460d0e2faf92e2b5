use Rattle.std.proofs.Common.{◌≡◌, ◌<◌, ◌+◌, ◌∙◌, Some, suc, length, ap, arith, refl, sym, subst}
use Rattle.std.specs.Prelude.{slice_get, slice_set}
use Rattle.std.proofs.lemmas.Option.{slice_get-get_or}
use Rattle.std.proofs.lemmas.List.{length-set}
use Rattle.online_robust.specs.Moving.{CanMoveByRow, IsFaultOf}
use Rattle.online_robust.specs.Nets.{CanGoByRow, Going, Passing, move_of}
use Rattle.online_robust.proofs.Loops.{can_move_by_row, going_first, going_next, gone_last, go_fault}
use Rattle.online_robust.proofs.net.take_row_all.Goals.{After-index_mut}
use Rattle.online_robust.proofs.net.take_row_all.Goals as goal

pub loop-i-init : goal.loop-i-init
loop-i-init c = (refl, (λ p g. going_first p c.args.edges.now c.args.stations.now.items g.0), refl)

module _ (c : After-index_mut) (p : Passing)
    (g : CanGoByRow p c.args.edges.now c.args.stations.now.items c.args.bound.now c.args.before.now c.args.row.now) where
  within : c.loop-i.i < length p.nodes
  within =
      let all = g.0.shows.stations in
      let same = c.loop-i.invariant.0 in
      let test = c.loop-i-test.true in
      let end = c.len-i-end.ensures in omega (arith, all, same, test, end)

  here : slice_get c.loop-i.stations.items c.loop-i.i ≡ Some c.index_mut.result.now
  here =
      let same = c.loop-i.invariant.0 in
      let test = c.loop-i-test.true in
      let end = c.len-i-end.ensures in
      slice_get-get_or c.loop-i.stations.items c.loop-i.i c.index_mut.result.now (omega (arith, same, test, end)) ∙ ap Some (sym c.index_mut.ensures.value)

  -- the node at hand may move
  may : CanMoveByRow (move_of p c.loop-i.i) c.loop-i.i c.index_mut.result.now c.loop-i.edges c.args.bound.now c.args.before.now c.args.row.now
  may = can_move_by_row p c.args.edges.now c.args.stations.now.items g.0 c.loop-i.i c.loop-i.edges c.loop-i.stations.items c.index_mut.result.now within here
      (c.loop-i.invariant.1 p g) c.args.bound.now c.args.before.now c.args.row.now c.loop-i.i refl g.1

pub take_row-requires-clause-can : goal.take_row-requires-clause-can
take_row-requires-clause-can c =
    let (p, g) = c.requires in (move_of p c.loop-i.i, may (goal.at.take_row-requires-clause-can c).After-index_mut p g)

pub returns-in-Err-clause-fault : goal.returns-in-Err-clause-fault
returns-in-Err-clause-fault c = λ p g.
    let a = (goal.at.returns-in-Err-clause-fault c).After-index_mut in
    go_fault p c.args.edges.now c.args.stations.now.items g.0 c.loop-i.i c.loop-i.edges c.loop-i.stations.items c.index_mut.result.now (within a p g)
    (here a p g) (c.loop-i.invariant.1 p g) c.loop-i.i refl c.refused.result c.fault_at.result
    (subst (IsFaultOf (move_of p c.loop-i.i)) (sym c.refused.ensures) (c.in-Err.ensures.fault (move_of p c.loop-i.i) (may a p g))) c.fault_at.ensures

pub loop-i-preserved : goal.loop-i-preserved
loop-i-preserved c = (
  length-set c.loop-i.stations.items c.loop-i.i c.take_row.new.self ∙ c.loop-i.invariant.0,
  (λ p g.
      let a = (goal.at.loop-i-preserved c).After-index_mut in
      let up : suc c.loop-i.i ≡ c.loop-i.i + 1 = omega arith in
      subst (λ k. Going p k c.take_row.new.edges (slice_set c.loop-i.stations.items c.loop-i.i c.take_row.new.self)) up
      (going_next p c.args.edges.now c.args.stations.now.items g.0 c.loop-i.i c.loop-i.edges c.loop-i.stations.items c.index_mut.result.now (within a p g)
      (here a p g) (c.loop-i.invariant.1 p g) c.take_row.new.edges c.take_row.new.self c.take_row.ensures.ahead
      (c.in-Ok.ensures.moved (move_of p c.loop-i.i) (may a p g)))),
  c.in-Ok.ensures.still,
)

pub returns-clause-gone : goal.returns-clause-gone
returns-clause-gone c = λ p g.
    gone_last p c.args.edges.now c.args.stations.now.items g.0 c.loop-i.i c.loop-i.edges c.loop-i.stations.items
    (let all = g.0.shows.stations in let same = c.loop-i.invariant.0 in let end = c.len-i-end.ensures in omega (arith, all, same, end))
    (c.loop-i.invariant.1 p g)

pub returns-in-Err-clause-nodes : goal.returns-in-Err-clause-nodes
returns-in-Err-clause-nodes c = length-set c.loop-i.stations.items c.loop-i.i c.take_row.new.self ∙ c.loop-i.invariant.0

pub returns-clause-nodes : goal.returns-clause-nodes
returns-clause-nodes c = c.loop-i.invariant.0

pub take_row-requires-clause-unset : goal.take_row-requires-clause-unset
take_row-requires-clause-unset c = c.loop-i.invariant.2
