use Rattle.online_robust.proofs.TailLemmas.{gone_along, gone_apart}
use Rattle.online_robust.proofs.tail.Tail.go_on.Goals as goal

pub returns-then-is_of : goal.returns-then-is_of
returns-then-is_of c =
    gone_along c.args.self.now c.args.node c.args.edges.now c.args.piece.now c.args.point.now c.args.to.now c.requires.later
    (c.is_of.ensures.0 c.if-is_of.true)

pub returns : goal.returns
returns c =
    gone_apart c.args.self.now c.args.node c.args.edges.now c.args.piece.now c.args.point.now c.args.to.now c.requires.later c.put.new.edges
    (λ one. let yes = c.is_of.ensures.1 one in let no = c.if-is_of.false in absurd (cc)) c.in_ok-put.ensures
