use Rattle.online_nodes.proofs.FrameLaw.{other_step, no_more_by_take, no_more_by_close}
use Rattle.online_nodes.proofs.laws.others_give_nothing.Goals as goal

pub returns : goal.returns
returns c nodes header events i j verdicts emitted = (
  (λ other. other_step nodes header events i j verdicts other emitted),
  no_more_by_take nodes header events j verdicts emitted,
  no_more_by_close nodes header events j verdicts emitted,
)
