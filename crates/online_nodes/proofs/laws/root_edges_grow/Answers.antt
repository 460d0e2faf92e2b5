use Rattle.std.proofs.Common.{subst, length}
use Rattle.std.specs.Prelude.{◌-◌}
use Rattle.online_nodes.specs.Network.{state, EmittedAt}
use Rattle.online_nodes.proofs.EdgeLaw.{root_grows, root_taken, after_one}
use Rattle.online_nodes.proofs.laws.root_edges_grow.Goals as goal

pub returns : goal.returns
returns c nodes header formed events held here edge = (
  (λ e other given. root_grows nodes header formed events e other held here edge
      (subst (λ s. EmittedAt nodes header (length nodes - 1) (state nodes events) s here) (after_one nodes header formed events e) given)),
  root_taken nodes header formed events held edge,
)
