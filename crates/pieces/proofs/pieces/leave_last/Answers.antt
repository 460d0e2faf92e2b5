use Rattle.std.proofs.Common.{◌<◌, arith}
use Rattle.std.specs.Prelude.{vec_len}
use Rattle.pieces.proofs.Lasts.{last_taken}
use Rattle.pieces.proofs.pieces.leave_last.Goals as goal

pub returns-clause-left : goal.returns-clause-left
returns-clause-left g c front p q e =
    let some : 0 < vec_len c.args.items.now = let two = c.requires in omega arith in
    last_taken c.args.items.now.items c.pop.new.self.items front p q c.pop.result c.pop.ensures.items (c.pop.ensures.variant.1 some) e
