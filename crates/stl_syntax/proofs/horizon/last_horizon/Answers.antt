use Rattle.std.proofs.Common.{◌≡◌, ◌≤◌, ◌-◌, length, arith, sym, ◌∙◌, refl, length-set}
use Rattle.std.specs.Prelude.{Some, slice_get, slice_index}
use Rattle.std.proofs.lemmas.Option.{slice_get_read}
use Rattle.stl_syntax.specs.Formula.{subformula, horizon, root, HasChildrenBelow}
use Rattle.stl_syntax.specs.Horizons.{horizon_above}
use Rattle.stl_syntax.proofs.FormulaLemmas.{below_later}
use Rattle.stl_syntax.proofs.PostOrderLemmas.{placed}
use Rattle.stl_syntax.proofs.HorizonLemmas.{horizon-above, horizons-set, horizon_within}
use Rattle.stl_syntax.proofs.horizon.last_horizon.Goals as goal
use Rattle.stl_syntax.proofs.horizon.last_horizon.Goals.{After-table-1, After-loop-i}

at : (c : goal.After-table-1) → slice_get c.args.nodes.now c.loop-i.i ≡ Some c.index-nodes-i.result
at c = slice_get_read _ _ _ _ refl c.loop-i-test.true c.index-nodes-i.is

below : (c : goal.After-table-1) → HasChildrenBelow c.loop-i.i c.index-nodes-i.result
below c = placed c.args.nodes.now c.loop-i.i c.index-nodes-i.result c.requires.nodes.post_order (at c)

above : (c : goal.After-table-1) → horizon (subformula c.args.nodes.now c.loop-i.i) ≡ horizon_above c.loop-i.table c.index-nodes-i.result
above c = horizon-above c.args.nodes.now c.loop-i.table c.loop-i.i c.index-nodes-i.result (below c) (at c) c.loop-i.invariant.1

pub horizon_of-requires-clause-below : goal.horizon_of-requires-clause-below
horizon_of-requires-clause-below c =
    below_later c.loop-i.i (length c.loop-i.table) c.index-nodes-i.result
    (omega (arith, c.loop-i-test.true, c.requires.nodes.few, c.loop-i.invariant.0)) (below c)

pub horizon_of-requires-clause-small : goal.horizon_of-requires-clause-small
horizon_of-requires-clause-small c =
    omega (arith, sym (above c), horizon_within c.args.nodes.now c.loop-i.i c.requires.nodes.post_order c.loop-i-test.true, c.requires.nodes.reach)

pub loop-i-preserved : goal.loop-i-preserved
loop-i-preserved c = (
  length-set c.loop-i.table c.loop-i.i c.horizon_of.result ∙ c.loop-i.invariant.0,
  horizons-set c.args.nodes.now c.loop-i.i c.horizon_of.result c.loop-i.table (omega (arith, c.loop-i.invariant.0, c.requires.nodes.few)) c.loop-i.invariant.1
      (c.horizon_of.ensures ∙ sym (above (goal.at.loop-i-preserved c).After-table-1)),
)

last : (c : goal.After-loop-i) → length c.args.nodes.now ≤ c.loop-i.i
    → slice_index c.loop-i.table (length c.args.nodes.now - 1) ≡ horizon (root c.args.nodes.now)
last c past = c.loop-i.invariant.1 (length c.args.nodes.now - 1) (omega (arith, c.requires.some, past))

pub returns-clause-horizon : goal.returns-clause-horizon
returns-clause-horizon c = last c c.loop-i-test.false

pub returns-clause-small : goal.returns-clause-small
returns-clause-small c =
    omega (
      arith,
      last c c.loop-i-test.false,
      c.requires.nodes.reach,
      horizon_within c.args.nodes.now (length c.args.nodes.now - 1) c.requires.nodes.post_order (omega (arith, c.requires.some)),
    )
