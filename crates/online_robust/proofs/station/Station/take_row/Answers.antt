use Rattle.std.proofs.Common.{rules, ◌≡◌, ◌∙◌, ap, subst, sym, pos, ◌-ℤ◌, to_z, of_z}
use Rattle.std.specs.Int.{w64}
use Rattle.std.proofs.lemmas.Int.{to_z-of_z}
use Rattle.rational.proofs.Lists.{on_err_anyway}
use Rattle.online_robust.specs.Held.{edge_at, with_edge, with_number}
use Rattle.online_robust.specs.Moving.{CanGoTo, HasMoved, IsFaultOf}
use Rattle.online_robust.proofs.RefusalsBeside.{memory_told}
use Rattle.online_robust.proofs.LinesPut.{put_within}
use Rattle.online_robust.proofs.StationCalls.{row_atom, row_bound, row_const, row_edge, row_go, row_last}
use Rattle.online_robust.proofs.station.Station.take_row.Goals as goal

pub put_atom-requires-clause-atom : goal.put_atom-requires-clause-atom
put_atom-requires-clause-atom c =
    let (m, g) = c.requires.can in
    row_bound m c.args.node c.args.self.now c.args.edges.now c.args.bound.now c.args.before.now c.args.row.now g c.in-Atom.is

pub put_atom-requires-clause-first : goal.put_atom-requires-clause-first
put_atom-requires-clause-first c =
    let (m, g) = c.requires.can in
    (row_last m c.args.node c.args.self.now c.args.edges.now c.args.bound.now c.args.before.now c.args.row.now g).first

pub put_atom-requires-clause-second : goal.put_atom-requires-clause-second
put_atom-requires-clause-second c =
    let (m, g) = c.requires.can in
    (row_last m c.args.node c.args.self.now c.args.edges.now c.args.bound.now c.args.before.now c.args.row.now g).second

pub put_atom-requires-clause-later : goal.put_atom-requires-clause-later
put_atom-requires-clause-later c =
    let (m, g) = c.requires.can in
    (row_last m c.args.node c.args.self.now c.args.edges.now c.args.bound.now c.args.before.now c.args.row.now g).later

pub reach-requires-in-Atom : goal.reach-requires-in-Atom
reach-requires-in-Atom c =
    let (m, g) = c.requires.can in
    let (piece, v, is_piece, is_value, (more, lines, put)) = c.in_ok-put_atom-in-Atom.ensures in
    put_within c.args.node more c.args.edges.now c.put_atom.new.edges put
    (row_edge m c.args.node c.args.self.now c.args.edges.now c.args.bound.now c.args.before.now c.args.row.now g)

pub go_on-requires-clause-can : goal.go_on-requires-clause-can
go_on-requires-clause-can c =
    let (m, g) = c.requires.can in
    let n : to_z w64 (of_z w64 (to_z w64 (of_z w64 c.from-now.result) -ℤ to_z w64 (of_z w64 c.from.result)))
    ≡ pos c.args.row.now.time -ℤ pos c.args.self.now.ahead =
    search (rules, to_z-of_z) in (
      m,
      subst (CanGoTo m c.args.node c.in-Operator.operator c.args.edges.now) (sym n)
          (row_go m c.args.node c.args.self.now c.args.edges.now c.args.bound.now c.args.before.now c.args.row.now g c.in-Operator.operator c.in-Operator.is),
    )

pub returns-in_ok-put_const-in-Const-clause-moved : goal.returns-in_ok-put_const-in-Const-clause-moved
returns-in_ok-put_const-in-Const-clause-moved c = λ m g.
    let now : to_z w64 (of_z w64 c.from-now.result) ≡ pos c.args.row.now.time = search (rules, to_z-of_z) in
    let e = c.put_const.new.edges in
    row_const m c.args.node c.args.self.now c.args.edges.now c.args.bound.now c.args.before.now c.args.row.now g c.in-Const.holds
    e c.reach.new.self c.in-Const.is
    c.in_ok-put_const-in-Const.ensures
    (c.reach.ensures ∙ ap (λ n. record e { edges = with_edge e c.args.node (with_number (edge_at e c.args.node) n) }) now)

pub returns-in_ok-put_atom-in-Atom-clause-moved : goal.returns-in_ok-put_atom-in-Atom-clause-moved
returns-in_ok-put_atom-in-Atom-clause-moved c = λ m g.
    let now : to_z w64 (of_z w64 c.from-now.result) ≡ pos c.args.row.now.time = search (rules, to_z-of_z) in
    let e = c.put_atom.new.edges in
    subst (λ w. HasMoved m w c.args.edges.now c.reach-in-Atom.new.self) (sym c.in-Atom.is)
    (row_atom m c.args.node c.args.self.now c.args.edges.now c.args.bound.now c.args.before.now c.args.row.now g e c.reach-in-Atom.new.self c.in-Atom.is
    c.in_ok-put_atom-in-Atom.ensures
    (c.reach-in-Atom.ensures ∙ ap (λ n. record e { edges = with_edge e c.args.node (with_number (edge_at e c.args.node) n) }) now))

pub returns-in_err-put_const-in-Const-clause-fault : goal.returns-in_err-put_const-in-Const-clause-fault
returns-in_err-put_const-in-Const-clause-fault c = λ m g.
    on_err_anyway c.from_residual.result (memory_told (IsFaultOf m) c.args.fault.now c.requires.unset tt)

pub returns-in_err-put_atom-in-Atom-clause-fault : goal.returns-in_err-put_atom-in-Atom-clause-fault
returns-in_err-put_atom-in-Atom-clause-fault c = λ m g.
    on_err_anyway c.from_residual-in_err-put_atom-in-Atom.result (memory_told (IsFaultOf m) c.args.fault.now c.requires.unset tt)

pub returns-in-Operator-clause-moved : goal.returns-in-Operator-clause-moved
returns-in-Operator-clause-moved c = λ m g.
    let n : to_z w64 (of_z w64 (to_z w64 (of_z w64 c.from-now.result) -ℤ to_z w64 (of_z w64 c.from.result)))
    ≡ pos c.args.row.now.time -ℤ pos c.args.self.now.ahead =
    search (rules, to_z-of_z) in
    c.go_on.ensures.moved m (subst (CanGoTo m c.args.node c.in-Operator.operator c.args.edges.now) (sym n)
    (row_go m c.args.node c.args.self.now c.args.edges.now c.args.bound.now c.args.before.now c.args.row.now g c.in-Operator.operator c.in-Operator.is))

pub returns-in-Operator-clause-fault : goal.returns-in-Operator-clause-fault
returns-in-Operator-clause-fault c = λ m g.
    let n : to_z w64 (of_z w64 (to_z w64 (of_z w64 c.from-now.result) -ℤ to_z w64 (of_z w64 c.from.result)))
    ≡ pos c.args.row.now.time -ℤ pos c.args.self.now.ahead =
    search (rules, to_z-of_z) in
    c.go_on.ensures.fault m (subst (CanGoTo m c.args.node c.in-Operator.operator c.args.edges.now) (sym n)
    (row_go m c.args.node c.args.self.now c.args.edges.now c.args.bound.now c.args.before.now c.args.row.now g c.in-Operator.operator c.in-Operator.is))
