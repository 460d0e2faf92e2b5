use Rattle.std.proofs.Common.{arith, ◌≡◌, ◌∙◌, sym, ap, refl, not, true, false, List, Some, None}
use Rattle.std.specs.Prelude.{MatchOption}
use Rattle.stl_syntax.specs.Trace.{Header}
use Rattle.stl_syntax.specs.declared.node.Node.{Node as ANode}
use Rattle.online_nodes.specs.Network.{Event, Front, allowed_at, state}
use Rattle.online_nodes.specs.Belonging.{Belongs, is_ready}
use Rattle.online_nodes.proofs.BelongLemmas.{allowed_number, kind_inputs, kind_near, own_edge, own_within, ready_by_edges, ready_is}
use Rattle.online_nodes.proofs.ReadLemmas.{run_sound}
use Rattle.online_nodes.proofs.RunLaw.{none_is_none}
use Rattle.online_nodes.proofs.operator.Operator.due.Goals as goal

pub allowed-allowed-requires-clause-inputs : goal.allowed-allowed-requires-clause-inputs
allowed-allowed-requires-clause-inputs c = kind_inputs c.requires.3

pub allowed-allowed-requires-clause-near : goal.allowed-allowed-requires-clause-near
allowed-allowed-requires-clause-near c = kind_near c.requires.3 (omega (arith, c.ranges.now))

pub number-requires : goal.number-requires
number-requires c = own_edge c.requires.3

pub returns-then-is_same : goal.returns-then-is_same
returns-then-is_same c = λ nodes header events b.
    sym (ready_by_edges b _ _ c.allowed-allowed.ensures c.number.ensures) ∙ sym (ap not c.if-is_same.ensures)

pub returns : goal.returns
returns c = λ nodes header events b.
    let ready : is_ready nodes (state nodes events) c.args.self.now.node ≡ true =
    sym (ready_by_edges b _ _ c.allowed-allowed.ensures c.number.ensures) ∙ sym (ap not c.if-is_same.ensures) in
    by_number nodes header events b ready c.allowed-allowed.result (sym (c.allowed-allowed.ensures ∙ allowed_number b))
  where
    by_number : (nodes : List ANode) (header : Header) (events : List Event)
        → Belongs nodes header events c.args.self.now c.args.edges.now c.args.now c.args.ended
        → is_ready nodes (state nodes events) c.args.self.now.node ≡ true → (o : Front)
        → allowed_at nodes (state nodes events) c.args.self.now.node ≡ o
        → MatchOption o (is_ready nodes (state nodes events) c.args.self.now.node ≡ false)
        (λ f. (is_ready nodes (state nodes events) c.args.self.now.node ≡ true)
        × (allowed_at nodes (state nodes events) c.args.self.now.node ≡ Some f))
    by_number nodes header events b ready (Some f) is = (ready, is)
    by_number nodes header events b ready None is = absurd (by_front ((state nodes events).fronts c.args.self.now.node) refl)
      where
        by_front : (o : Front) → (state nodes events).fronts c.args.self.now.node ≡ o → ⊥
        by_front None at = ((ready_is nodes (state nodes events) c.args.self.now.node).0 ready).1 (is ∙ sym at)
        by_front (Some g) at =
            let up = (run_sound b).rising c.args.self.now.node (own_within b) g at in
            none_is_none up.0 (sym is ∙ up.1)
