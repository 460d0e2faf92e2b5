use Rattle.std.proofs.Common.{rules, ◌≡◌, ◌<◌, subst}
use Rattle.std.specs.Prelude.{OnSome, remove}
use Rattle.std.specs.VecDeque.{deque_len}
use Rattle.rational.proofs.Lists.{slice_get_there}
use Rattle.growing_sets.proofs.stretches.Block.remove.Goals as goal

pub returns : goal.returns
returns c =
    let xs = c.args.self.now.ring.items in
    let in_it : c.args.at < deque_len c.args.self.now.ring = search rules in
    let got = c.remove.ensures.succeeds (slice_get_there xs c.args.at c.requires).0 in_it in
    subst (λ r. OnSome r (c.remove.new.self.items ≡ remove xs c.args.at)) got c.remove.ensures.items
