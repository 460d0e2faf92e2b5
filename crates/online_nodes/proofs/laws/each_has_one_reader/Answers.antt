use Rattle.online_nodes.proofs.ReadersLaw.{has_reader, one_reader, root_unread}
use Rattle.online_nodes.proofs.laws.each_has_one_reader.Goals as goal

pub returns : goal.returns
returns c nodes order root j l = (
  (λ other. let r = has_reader nodes root j l other in (r.reader, r.node, r.left, r.at, r.reads)),
  (λ r s n m left side at there reads read. (
    one_reader nodes order r s left side j at there reads read,
    root_unread nodes root r n left j at reads,
  )),
)
