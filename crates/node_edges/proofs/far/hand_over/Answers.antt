use Rattle.std.proofs.Common.{◌≡◌, ◌+◌, ◌-◌, ◌<◌, ◌≤◌, [], ap, length, sym, subst, ◌∙◌, arith}
use Rattle.node_edges.specs.Queues.{Block, HasKept}
use Rattle.node_edges.proofs.TrackLemmas.{handed_seen, handed_waiting, of_ok}
use Rattle.node_edges.proofs.far.hand_over.Given.{Over}
use Rattle.node_edges.proofs.far.hand_over.Goals as goal
use Rattle.node_edges.proofs.far.hand_over.Goals.{After-exchange-block}

-- until now only idle blocks moved
kept : (g : Over) (c : After-exchange-block g) → HasKept c.args.pool.now.all c.new_ring.new.pool.all
kept g c = subst (λ l. HasKept l c.new_ring.new.pool.all) c.in_ok-reserve.ensures.lists c.in_ok-ring.ensures.kept

-- the block
block_is : (g : Over) (c : After-exchange-block g) → c.args.track.now.near.items ≡ c.exchange-block.result
block_is g c = sym c.exchange-block.ensures.ring

count_is : (g : Over) (c : After-exchange-block g) → c.len-count.result ≡ length c.exchange-block.result.items
count_is g c = c.len-count.ensures.items ∙ ap (λ (q : Block _). length q.items) (block_is g c)

some : (g : Over) (c : After-exchange-block g) → 0 < length c.exchange-block.result.items
some g c = omega (arith, count_is g c, c.len-count.ensures.items, c.requires.some)

few : (g : Over) (c : After-exchange-block g)
    → c.args.track.now.far.seen + c.args.track.now.far.waits + length c.exchange-block.result.items ≤ 4611686018427387904
few g c = omega (arith, count_is g c, c.if-len-count-gt-MOST.false, c.len.ensures)

nothing : (g : Over) (c : After-exchange-block g) → c.exchange-block.new.self.items.items ≡ []
nothing g c = ap (λ (q : Block _). q.items) c.exchange-block.ensures.items ∙ c.in_ok-ring.ensures.ring

pub returns-then-read-count-clause-same : goal.returns-then-read-count-clause-same
returns-then-read-count-clause-same g c =
    let e = (goal.at.returns-then-read-count-clause-same g c).After-exchange-block in
    (handed_seen c.args.pool.now.all c.new_ring.new.pool.all c.push_back.new.self.all c.args.edge c.seen_of.result c.args.track.now
    c.exchange-block.new.self c.exchange-block.result c.requires.track (kept g e) (block_is g e) (some g e)
    (of_ok c.push_back.result (c.push_back.ensures.had_room (omega (arith, c.in_ok-reserve.ensures.room, c.in_ok-ring.ensures.spare)))
    c.push_back.ensures.pushed)
    (nothing g e) c.exchange-block.ensures.read c.exchange-block.ensures.number c.exchange-block.ensures.joins
    c.read-read.result c.seen_of.ensures c.read-read.ensures (c.if-read-count.true ∙ count_is g e) (few g e)).0

pub returns-then-read-count-clause-far : goal.returns-then-read-count-clause-far
returns-then-read-count-clause-far g c =
    let e = (goal.at.returns-then-read-count-clause-far g c).After-exchange-block in
    (handed_seen c.args.pool.now.all c.new_ring.new.pool.all c.push_back.new.self.all c.args.edge c.seen_of.result c.args.track.now
    c.exchange-block.new.self c.exchange-block.result c.requires.track (kept g e) (block_is g e) (some g e)
    (of_ok c.push_back.result (c.push_back.ensures.had_room (omega (arith, c.in_ok-reserve.ensures.room, c.in_ok-ring.ensures.spare)))
    c.push_back.ensures.pushed)
    (nothing g e) c.exchange-block.ensures.read c.exchange-block.ensures.number c.exchange-block.ensures.joins
    c.read-read.result c.seen_of.ensures c.read-read.ensures (c.if-read-count.true ∙ count_is g e) (few g e)).1

pub returns-clause-same : goal.returns-clause-same
returns-clause-same g c =
    let e = (goal.at.returns-clause-same g c).After-exchange-block in
    (handed_waiting c.args.pool.now.all c.new_ring.new.pool.all c.push_back-2.new.self.all c.args.edge c.waiting_of.result c.args.track.now
    c.exchange-block.new.self c.exchange-block.result c.requires.track (kept g e) (block_is g e) (some g e)
    (of_ok c.push_back-2.result (c.push_back-2.ensures.had_room (omega (arith, c.in_ok-reserve.ensures.room, c.in_ok-ring.ensures.spare)))
    c.push_back-2.ensures.pushed)
    (nothing g e) c.exchange-block.ensures.read c.exchange-block.ensures.number c.exchange-block.ensures.joins
    c.read-read.result (c.len-count.result - c.read-read.result) c.waiting_of.ensures c.read-read.ensures
    (omega (arith, count_is g e, c.if-read-count.false, c.read-read.ensures, c.requires.track.near.read, c.len-count.ensures.items))
    (ap (λ n. n - c.read-read.result) (count_is g e)) (few g e)).0

pub returns-clause-far : goal.returns-clause-far
returns-clause-far g c =
    let e = (goal.at.returns-clause-far g c).After-exchange-block in
    (handed_waiting c.args.pool.now.all c.new_ring.new.pool.all c.push_back-2.new.self.all c.args.edge c.waiting_of.result c.args.track.now
    c.exchange-block.new.self c.exchange-block.result c.requires.track (kept g e) (block_is g e) (some g e)
    (of_ok c.push_back-2.result (c.push_back-2.ensures.had_room (omega (arith, c.in_ok-reserve.ensures.room, c.in_ok-ring.ensures.spare)))
    c.push_back-2.ensures.pushed)
    (nothing g e) c.exchange-block.ensures.read c.exchange-block.ensures.number c.exchange-block.ensures.joins
    c.read-read.result (c.len-count.result - c.read-read.result) c.waiting_of.ensures c.read-read.ensures
    (omega (arith, count_is g e, c.if-read-count.false, c.read-read.ensures, c.requires.track.near.read, c.len-count.ensures.items))
    (ap (λ n. n - c.read-read.result) (count_is g e)) (few g e)).1
