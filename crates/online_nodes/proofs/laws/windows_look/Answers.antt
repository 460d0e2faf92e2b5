use Rattle.online_nodes.proofs.LooksLaw.{eventually_looks, always_looks, once_looks, historically_looks}
use Rattle.online_nodes.proofs.laws.windows_look.Goals as goal

pub returns : goal.returns
returns c p tr a b bound a_in b_in = (
  eventually_looks p tr a a_in b_in b,
  always_looks p tr a a_in b_in b,
  once_looks p tr a a_in b_in bound,
  historically_looks p tr a a_in b_in bound,
)
