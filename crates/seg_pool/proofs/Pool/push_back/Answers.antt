use Rattle.std.proofs.Common.{refl, sym, ap, ◌∙◌, ◌≡◌, ◌+◌, ◌++◌, ◌∷◌, [], arith, set}
use Rattle.slab.specs.Slab.{slab_len}
use Rattle.seg_pool.specs.Chain.{extended, lists_of}
use Rattle.seg_pool.proofs.ListsLemmas.{HasEnds, ChangesList, ends_read, lists_changed, items_of}
use Rattle.seg_pool.proofs.PushLemmas.{inserted_keeps, pushed}
use Rattle.seg_pool.proofs.SoundLemmas.{back_of, items_at, pointing_keeps, sound-same_slots, sound-changed}
use Rattle.seg_pool.proofs.Pool.push_back.Given.{Over}
use Rattle.seg_pool.proofs.Pool.push_back.Goals as goal
use Rattle.seg_pool.proofs.Pool.push_back.Goals.{After-index-ends, After-extend}

-- the list's ends, as they were read
has_ends : (g : Over) (c : After-index-ends g) → HasEnds c.self.inside.lists.items c.args.list c.index-ends.result.now
has_ends g c = ends_read c.self.inside.cells _ _ _ (rw (← c.self.view_is) at c.requires) c.index-ends.ensures

-- what the insertion and the link to it change
changes : (g : Over) (c : After-extend g) → HasEnds c.self.inside.lists.items c.args.list c.index-ends.result.now → ChangesList
    c.self.inside.cells c.extend.new.cells c.self.inside.lists.items c.args.list (extended c.index-ends.result.now c.in-Ok.key)
    (items_of c.self.inside.cells c.index-ends.result.now ++ c.args.item ∷ [])
changes g c has = pushed c.args.list c.self.invariant c.in-Ok.ensures.was_vacant c.in-Ok.ensures.updates has
    c.extend.ensures.cells

pub invariant_of-self : goal.invariant_of-self
invariant_of-self g c =
    let same = ap (λ s. s.slots) c.in-Err.ensures.err in
    sound-same_slots c.self.invariant c.insert.new.self _ same
    (rw same (omega (arith, c.self.invariant.room, c.in-Err.ensures.capacity)))

pub extend-requires-clause-last : goal.extend-requires-clause-last
extend-requires-clause-last g c some =
    let back = back_of c.self.invariant (has_ends g (goal.at.extend-requires-clause-last g c).After-index-ends) some in
    rw (inserted_keeps c.in-Ok.ensures.was_vacant c.in-Ok.ensures.updates _ back.cell back.found, back.found) refl

pub invariant_of-self-2 : goal.invariant_of-self-2
invariant_of-self-2 g c =
    let here = goal.at.invariant_of-self-2 g c in
    let has = has_ends g here.After-index-ends in
    let ends = c.index-ends.result.now in
    let kept = pointing_keeps c.insert.new.self ends.len ends.last c.in-Ok.key in
    let count : slab_len c.extend.new.cells ≡ slab_len c.insert.new.self = ap slab_len c.extend.ensures.cells ∙ kept.0 in
    let capacity : c.extend.new.cells.capacity ≡ c.insert.new.self.capacity = ap (λ s. s.capacity) c.extend.ensures.cells
    ∙ kept.1 in
    let counts : slab_len c.extend.new.cells + ends.len ≡ slab_len c.self.inside.cells + (ends.len + 1) = omega
    (arith, c.in-Ok.ensures.len) in
    rw c.extend.ensures.ends (
    sound-changed c.self.invariant has _ (changes g here.After-extend has) counts
    (omega (arith, c.capacity.ensures.value, c.capacity.ensures.holds_all, c.len.ensures))
    )

pub returns-clause-pushed : goal.returns-clause-pushed
returns-clause-pushed g c =
    let here = goal.at.returns-clause-pushed g c in
    let has = has_ends g here.After-index-ends in
    let items = items_at c.self.invariant has in
    rw (← c.self.view_is, c.extend.ensures.ends) (
    lists_changed (changes g here.After-extend has)
    ∙ ap (λ xs. set (lists_of c.self.inside.cells c.self.inside.lists.items) c.args.list (xs ++ c.args.item ∷ [])) (sym items)
    )
