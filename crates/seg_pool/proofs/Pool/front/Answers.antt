use Rattle.std.proofs.Common.{sym}
use Rattle.seg_pool.proofs.ListsLemmas.{HasEnds, ends_read}
use Rattle.seg_pool.proofs.SoundLemmas.{front_present, front_is}
use Rattle.seg_pool.proofs.Pool.front.Goals as goal
use Rattle.seg_pool.proofs.Pool.front.Given.{Over}
use Rattle.seg_pool.proofs.Pool.front.Goals.{After-index-ends}

-- the list's ends, as they were read
has_ends : (g : Over) (c : After-index-ends g) → HasEnds c.self.inside.lists.items c.args.list c.index-ends.result.now
has_ends g c = ends_read c.self.inside.cells _ _ _ (rw (← c.self.view_is) at c.requires) c.index-ends.ensures

pub index-requires : goal.index-requires
index-requires g c = front_present c.self.invariant (has_ends g (goal.at.index-requires g c).After-index-ends) c.if-ends-eq0.false

pub returns : goal.returns
returns g c =
    rw (← c.self.view_is)
    (sym (front_is c.self.invariant (has_ends g (goal.at.returns g c).After-index-ends) c.if-ends-eq0.false c.index.ensures))
