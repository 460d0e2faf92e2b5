use Rattle.std.proofs.Common.{rules, ◌≡◌, ◌∙◌, ap, pos, to_z, of_z}
use Rattle.std.specs.Int.{w64}
use Rattle.rational.proofs.Lists.{on_err_anyway}
use Rattle.online_robust.specs.Held.{edge_at, with_edge, with_number}
use Rattle.online_robust.specs.Refusing.{told_by}
use Rattle.online_robust.proofs.StationCalls.{given_out, given_within, swept_fault, swept_turn, turn_edge}
use Rattle.online_robust.proofs.station.give_out.Goals as goal

pub sweep-requires-clause-can : goal.sweep-requires-clause-can
sweep-requires-clause-can c = let (m, g) = c.requires.can in swept_turn m c.args.node c.args.operator.now c.args.edges.now c.args.to c.args.with_first g

pub sweep-requires-clause-edge : goal.sweep-requires-clause-edge
sweep-requires-clause-edge c = let (m, g) = c.requires.can in turn_edge m c.args.node c.args.operator.now c.args.edges.now c.args.to c.args.with_first g

pub reach-requires : goal.reach-requires
reach-requires c =
    let (m, g) = c.requires.can in
    given_within m c.args.node c.args.operator.now c.args.edges.now c.args.to c.args.with_first g c.sweep.new.self c.sweep.new.edges c.in_ok-sweep.ensures.out

pub returns-clause-moved : goal.returns-clause-moved
returns-clause-moved c = λ m g.
    let to : to_z w64 (of_z w64 c.from.result) ≡ pos c.args.to = search rules in
    let e = c.sweep.new.edges in
    given_out m c.args.node c.args.operator.now c.args.edges.now c.args.to c.args.with_first g c.sweep.new.self e c.in_ok-sweep.ensures.out
    c.reach.new.self (c.reach.ensures ∙ ap (λ n. record e { edges = with_edge e c.args.node (with_number (edge_at e c.args.node) n) }) to)

pub returns-in_err-sweep-clause-fault : goal.returns-in_err-sweep-clause-fault
returns-in_err-sweep-clause-fault c = λ m g.
    on_err_anyway c.from_residual.result
    (swept_fault m c.args.node c.args.operator.now c.args.edges.now c.args.to c.args.with_first g (told_by c.sweep.new.fault)
    c.in_err-sweep.ensures.wide)
