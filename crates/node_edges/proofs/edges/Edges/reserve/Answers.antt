use Rattle.std.proofs.Common.{◌≡◌, ap}
use Rattle.rational.proofs.Lists.{on_err_anyway}
use Rattle.node_edges.specs.Held.{Held}
use Rattle.node_edges.specs.Queues.{edges_from}
use Rattle.node_edges.proofs.edges.Edges.reserve.Goals as goal

pub make_room-requires : goal.make_room-requires
make_room-requires g c = (c.self.inside.pool.all, c.self.inside.spare, c.self.invariant)

pub invariant_of-self : goal.invariant_of-self
invariant_of-self g c = c.make_room.ensures.kept c.self.inside.pool.all c.self.inside.spare c.self.invariant

pub invariant_of-self-2 : goal.invariant_of-self-2
invariant_of-self-2 g c = c.in_ok-make_room.ensures.room c.self.inside.pool.all c.self.inside.spare c.self.invariant

pub returns-in_err-make_room-clause-edges : goal.returns-in_err-make_room-clause-edges
returns-in_err-make_room-clause-edges g c = rw (← c.self.view_is) (c.make_room.ensures.same c.self.inside.pool.all)

pub returns-in_err-make_room-clause-memory : goal.returns-in_err-make_room-clause-memory
returns-in_err-make_room-clause-memory g c =
    let same : ◌≡◌ {A = Held _}
    (record { edges = edges_from c.self.inside.pool.all 0 c.make_room.new.tracks.items; start = c.self.inside.start; spare = c.self.inside.spare })
    (record { edges = edges_from c.self.inside.pool.all 0 c.self.inside.tracks.items; start = c.self.inside.start; spare = c.self.inside.spare }) =
    ap (λ es. record { edges = es; start = c.self.inside.start; spare = c.self.inside.spare }) (c.make_room.ensures.same c.self.inside.pool.all) in
    on_err_anyway c.from_residual.result (rw (← c.self.view_is) same)

pub returns-clause-edges : goal.returns-clause-edges
returns-clause-edges g c = rw (← c.self.view_is) (c.make_room.ensures.same c.self.inside.pool.all)
