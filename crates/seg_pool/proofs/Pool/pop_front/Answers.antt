use Rattle.std.proofs.Common.{sym, ap, ◌∙◌, ◌≡◌, ◌+◌, ◌-◌, arith, drop, set}
use Rattle.slab.specs.Slab.{slab_len}
use Rattle.seg_pool.specs.Chain.{lists_of}
use Rattle.seg_pool.proofs.ListsLemmas.{HasEnds, ChangesList, ends_read, lists_changed, items_of}
use Rattle.seg_pool.proofs.PopLemmas.{nothing_popped, popped}
use Rattle.seg_pool.proofs.SoundLemmas.{empty_at, front_present, front_is, items_at, sound-changed}
use Rattle.seg_pool.proofs.Pool.pop_front.Given.{Over}
use Rattle.seg_pool.proofs.Pool.pop_front.Goals as goal
use Rattle.seg_pool.proofs.Pool.pop_front.Goals.{After-index-ends, After-remove-item}

-- the list's ends, as they were read
has_ends : (g : Over) (c : After-index-ends g) → HasEnds c.self.inside.lists.items c.args.list c.index-ends.result.now
has_ends g c = ends_read c.self.inside.cells _ _ _ (rw (← c.self.view_is) at c.requires) c.index-ends.ensures

-- what the removal of the first item changes
changes : (g : Over) (c : After-remove-item g) → HasEnds c.self.inside.lists.items c.args.list c.index-ends.result.now →
    ChangesList c.self.inside.cells c.remove-item.new.self c.self.inside.lists.items c.args.list
    (record { first = c.remove-item.result.next; last = c.index-ends.result.now.last; len = c.index-ends.result.now.len - 1 })
    (drop 1 (items_of c.self.inside.cells c.index-ends.result.now))
changes g c has = popped c.self.invariant has c.if-ends-eq0.false c.remove-item.ensures.value c.remove-item.ensures.updates

pub remove-item-requires : goal.remove-item-requires
remove-item-requires g c =
    front_present c.self.invariant (has_ends g (goal.at.remove-item-requires g c).After-index-ends) c.if-ends-eq0.false

pub invariant_of-self : goal.invariant_of-self
invariant_of-self g c =
    let here = goal.at.invariant_of-self g c in
    let has = has_ends g here.After-index-ends in
    let counts : slab_len c.remove-item.new.self + c.index-ends.result.now.len ≡ slab_len c.self.inside.cells +
    (c.index-ends.result.now.len - 1) = omega (arith, c.remove-item.ensures.len, c.if-ends-eq0.false) in
    sound-changed c.self.invariant has _ (changes g here.After-remove-item has) counts
    (omega (arith, c.self.invariant.room, c.remove-item.ensures.len, c.remove-item.ensures.capacity))

pub overflow_add-self : goal.overflow_add-self
overflow_add-self g c =
    omega (arith, c.self.invariant.room, c.remove-item.ensures.len, c.remove-item.ensures.capacity, c.capacity-all.ensures.value)

pub returns-clause-first : goal.returns-clause-first
returns-clause-first g c =
    let has = has_ends g (goal.at.returns-clause-first g c).After-index-ends in
    rw (← c.self.view_is) (sym (front_is c.self.invariant has c.if-ends-eq0.false c.remove-item.ensures.value))

pub returns-clause-popped : goal.returns-clause-popped
returns-clause-popped g c =
    let here = goal.at.returns-clause-popped g c in
    let has = has_ends g here.After-index-ends in
    let items = items_at c.self.invariant has in
    rw (← c.self.view_is) (
    lists_changed (changes g here.After-remove-item has)
    ∙ ap (λ xs. set (lists_of c.self.inside.cells c.self.inside.lists.items) c.args.list (drop 1 xs)) (sym items)
    )

pub returns-then-ends-eq0-clause-popped : goal.returns-then-ends-eq0-clause-popped
returns-then-ends-eq0-clause-popped g c =
    let has = has_ends g (goal.at.returns-then-ends-eq0-clause-popped g c).After-index-ends in
    rw (← c.self.view_is) (sym (nothing_popped _ c.args.list (empty_at c.self.invariant has c.if-ends-eq0.true)))
