use Rattle.offline_eval.proofs.ChildrenKept.{stack_empty, stack_none}
use Rattle.offline_eval.specs.Forms.{of_pieces}
use Rattle.offline_eval.proofs.root.Stack.new.Goals as goal

pub returns-clause-stands : goal.returns-clause-stands
returns-clause-stands g c from to nodes = stack_empty (of_pieces g.P.Shape) from to nodes c.new.result.items c.new.ensures.items

pub returns-clause-told : goal.returns-clause-told
returns-clause-told g c nodes s = stack_none (of_pieces g.P.Shape) nodes s c.new.result.items c.new.ensures.items
