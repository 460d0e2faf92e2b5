use Rattle.std.proofs.Common.{◌-◌, arith, set}
use Rattle.seg_pool.proofs.ListsLemmas.{HasEnds, ends_read}
use Rattle.seg_pool.proofs.PassLemmas.{back_of_target, ends_read_after, lists_moved, sound-moved, target_fits}
use Rattle.seg_pool.proofs.SoundLemmas.{front_present}
use Rattle.seg_pool.proofs.Pool.pass.Given.{Over}
use Rattle.seg_pool.proofs.Pool.pass.Goals as goal
use Rattle.seg_pool.proofs.Pool.pass.Goals.{After-index-source, After-index-target}

-- the ends of the list that gives, as they were read
has_from : (g : Over) (c : After-index-source g) → HasEnds c.self.inside.lists.items c.args.from c.index-source.result.now
has_from g c = ends_read c.self.inside.cells _ _ _ (rw (← c.self.view_is) at c.requires.lists.0) c.index-source.ensures

-- those of the list that takes
has_to : (g : Over) (c : After-index-target g) → HasEnds (set c.self.inside.lists.items c.args.from (record {
  first = c.index.result.now.next;
  last = c.index-source.result.now.last;
  len = c.index-source.result.now.len - 1;
})) c.args.to c.index-target.result.now
has_to g c =
    ends_read_after c.self.inside.cells _ c.args.from _ _ _ (rw (← c.self.view_is) at c.requires.lists.1) c.index-target.ensures

pub index-requires : goal.index-requires
index-requires g c =
    front_present c.self.invariant (has_from g (goal.at.index-requires g c).After-index-source) c.if-source-eq0.false

pub extend-requires-clause-last : goal.extend-requires-clause-last
extend-requires-clause-last g c =
    let here = goal.at.extend-requires-clause-last g c in
    back_of_target c.self.invariant (has_from g here.After-index-source) c.if-source-eq0.false c.index.ensures
    (has_to g here.After-index-target)

pub extend-requires-clause-fits : goal.extend-requires-clause-fits
extend-requires-clause-fits g c =
    let here = goal.at.extend-requires-clause-fits g c in
    let fits = target_fits c.self.invariant (has_from g here.After-index-source) c.if-source-eq0.false c.index.ensures
    (has_to g here.After-index-target) in
    omega (arith, fits, c.len-all.ensures)

pub invariant_of-self : goal.invariant_of-self
invariant_of-self g c =
    let here = goal.at.invariant_of-self g c in
    rw c.extend.ensures.ends (
    sound-moved c.self.invariant (has_from g here.After-index-source) c.if-source-eq0.false c.index.ensures
    (has_to g here.After-index-target) c.extend.ensures.cells
    )

pub returns-clause-passed : goal.returns-clause-passed
returns-clause-passed g c =
    let here = goal.at.returns-clause-passed g c in
    rw (← c.self.view_is, c.extend.ensures.ends) (
    lists_moved c.self.invariant (has_from g here.After-index-source) c.if-source-eq0.false c.index.ensures
    (has_to g here.After-index-target) c.extend.ensures.cells c.requires.apart
    )
