use Rattle.online_nodes.proofs.SettledLaw.{open_settled}
use Rattle.online_nodes.proofs.laws.open_numbers_settle.Goals as goal

pub returns : goal.returns
returns c at s last i n row below settled = open_settled at s last i n row below settled
