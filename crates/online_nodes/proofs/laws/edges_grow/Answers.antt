use Rattle.std.proofs.Common.{◌≡◌, subst}
use Rattle.std.proofs.lemmas.Option.{slice_get_within}
use Rattle.online_nodes.specs.Network.{state, EmittedAt}
use Rattle.online_nodes.proofs.EdgeLaw.{edge_grows, after_one, run_parts}
use Rattle.online_nodes.proofs.laws.edges_grow.Goals as goal

pub returns : goal.returns
returns c nodes header formed events e run j within held here edge same given =
    let parts = run_parts nodes header formed events e run in
    edge_grows nodes header formed events e parts.0 parts.1 j within held here edge (slice_get_within nodes edge.reader edge.reading edge.at_reader)
    (subst (λ s. s.fronts edge.reader ≡ (state nodes events).fronts edge.reader) (after_one nodes header formed events e) same)
    (subst (λ s. EmittedAt nodes header j (state nodes events) s here) (after_one nodes header formed events e) given)
