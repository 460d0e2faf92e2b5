use Rattle.std.proofs.Common.{arith, not, sym, ap, ◌∙◌}
use Rattle.online_nodes.specs.Network.{state}
use Rattle.online_nodes.proofs.BelongLemmas.{kind_inputs, kind_near, own_edge, ready_by_edges, ready_is}
use Rattle.online_nodes.proofs.operator.Operator.ready.Goals as goal

pub allowed-allowed-requires-clause-inputs : goal.allowed-allowed-requires-clause-inputs
allowed-allowed-requires-clause-inputs c = kind_inputs c.requires.3

pub allowed-allowed-requires-clause-near : goal.allowed-allowed-requires-clause-near
allowed-allowed-requires-clause-near c = kind_near c.requires.3 (omega (arith, c.ranges.now))

pub number-requires : goal.number-requires
number-requires c = own_edge c.requires.3

pub returns : goal.returns
returns c = record {
  is = λ nodes header events b. ap not c.is_same.ensures ∙ ready_by_edges b _ _ c.allowed-allowed.ensures c.number.ensures;
  ready = λ nodes header events b.
      let is = ap not c.is_same.ensures ∙ ready_by_edges b _ _ c.allowed-allowed.ensures c.number.ensures in
      let iff = ready_is nodes (state nodes events) c.args.self.now.node in
      ((λ h. iff.0 (sym is ∙ h)), (λ h. is ∙ iff.1 h));
}
