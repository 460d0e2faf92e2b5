use Rattle.std.proofs.Common.{◌≡◌, ◌∙◌, ◌+◌, sym, subst, ap, length}
use Rattle.stl_syntax.specs.Formula.{subformula, horizon}
use Rattle.stl_syntax.specs.Horizons.{horizon_above, AreHorizonsBelow}
use Rattle.stl_syntax.proofs.HorizonLemmas.{horizon-above}
use Rattle.online_robust.specs.Firsts.{AreFirstStations}
use Rattle.online_robust.specs.declared.station.Station.{Station}
use Rattle.online_robust.proofs.NodesAtStart.{firsts_more, horizons_more}
use Rattle.online_robust.proofs.net.stations_of.Goals as goal

pub loop-i-preserved : goal.loop-i-preserved
loop-i-preserved c =
    let nodes = c.args.formula.now.nodes in
    let i = c.loop-i.i in
    let n = c.node-node.result.now in
    let hs = c.loop-i.horizons.items in
    let h = c.horizon_of-horizon.result in
    let st : Station = record { ahead = h; work = c.work_of.result } in
    let is : h ≡ horizon (subformula nodes i) =
    c.horizon_of-horizon.ensures ∙ ap (λ l. horizon_above l n) c.deref.ensures.value
    ∙ sym (horizon-above nodes hs i n c.node-node.ensures.below c.node-node.ensures.node c.loop-i.invariant.2) in
    let stations = firsts_more nodes i c.loop-i.stations.items st n c.loop-i.invariant.0 c.node-node.ensures.node is c.work_of.ensures in
    let horizons = horizons_more nodes i hs h c.loop-i.invariant.1 c.loop-i.invariant.2 is in (
      subst (AreFirstStations nodes (i + 1)) (sym c.in-Ok-push.ensures.items) stations,
      subst (λ l. length l ≡ i + 1) (sym c.in-Ok.ensures.items) horizons.0,
      subst (AreHorizonsBelow (i + 1) nodes) (sym c.in-Ok.ensures.items) horizons.1,
    )
