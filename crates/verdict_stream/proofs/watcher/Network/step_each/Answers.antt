use Rattle.std.proofs.Common.{◌<◌, ◌++◌, length, refl, sym, subst, ◌∙◌, arith, append-nil, take, take_all}
use Rattle.online_nodes.specs.Driven.{steps_of}
use Rattle.online_net.specs.Nets.{Stands}
use Rattle.verdict_stream.proofs.TakenVerdicts.{steps_on}
use Rattle.verdict_stream.proofs.watcher.Network.step_each.Goals as goal

pub loop-node-init : goal.loop-node-init
loop-node-init c = record {
  formula = refl;
  start = refl;
  places = c.requires;
  stands = λ header events st. subst (λ l. Stands c.args.self.now.formula.nodes header c.args.self.now.net l) (sym (append-nil events)) st;
}

pub loop-node-preserved : goal.loop-node-preserved
loop-node-preserved c =
    let nodes = c.args.self.now.formula.nodes in
    let within : c.loop-node.node < length c.args.self.now.formula.nodes = omega (arith, c.len-node-end.ensures.count) in
    record {
      formula = c.loop-node.invariant.formula;
      start = c.loop-node.invariant.start;
      places = c.step.ensures.nodes ∙ c.loop-node.invariant.places;
      stands = λ header events st.
          let before = c.loop-node.invariant.stands header events st in
          steps_on nodes header events c.loop-node.node c.loop-node.self.net c.step.new.self c.in-Ok.field-0 within before c.in-Ok.ensures.answer
          (c.in-Ok.ensures.moved nodes header (events ++ steps_of 0 (take c.loop-node.node nodes)) before)
          (λ other. c.in-Ok.ensures.stands nodes header (events ++ steps_of 0 (take c.loop-node.node nodes)) before other);
    }

pub returns-clause-stands : goal.returns-clause-stands
returns-clause-stands c = λ header events st.
    subst (λ l. Stands c.args.self.now.formula.nodes header c.loop-node.self.net (events ++ steps_of 0 l))
    (take_all c.loop-node.node c.args.self.now.formula.nodes (omega (arith, c.len-node-end.ensures.count))) (c.loop-node.invariant.stands header events st)
