use Rattle.online_nodes.proofs.SinceLaw.{remembers_of}
use Rattle.online_nodes.proofs.laws.since_remembers_what_it_knows.Goals as goal

pub returns : goal.returns
returns c n p q tr low high begin at run reach left right left_stop right_stop looks in_trace answered knows =
    remembers_of knows looks in_trace (λ t a. knows.order t (answered t a)) (λ t a b. answered t a)
