use Rattle.std.proofs.Common.{◌≡◌, List, ◌++◌, length, take}
use Rattle.stl_syntax.specs.Trace.{Header}
use Rattle.online_nodes.specs.Network.{Event}
use Rattle.online_nodes.specs.Driven.{steps_of}
use Rattle.online_net.specs.Nets.{Stands}
use Rattle.verdict_stream.proofs.watcher.Network.step_each.Given as goal

abbrev pub invariant-loop-node : goal.invariant-loop-node
invariant-loop-node l = record {
  formula : l.self.formula ≡ l.initial.self.formula;
  start : l.self.start ≡ l.initial.self.start;
  places : length l.self.net.operators ≡ length l.initial.self.formula.nodes;
  stands : (header : Header) (events : List Event) → Stands l.initial.self.formula.nodes header l.initial.self.net events
      → Stands l.initial.self.formula.nodes header l.self.net (events ++ steps_of 0 (take l.node l.initial.self.formula.nodes));
}
