use Rattle.std.proofs.Common.{rules, ◌≡◌, ◌<ℤ◌, ◌≤ℤ◌, ◌∙◌, Some, true, false, ap, pos, to_z, of_z, sym, subst, not}
use Rattle.std.specs.Int.{w64}
use Rattle.std.specs.Prelude.{MatchOption}
use Rattle.std.proofs.lemmas.Bool.{false≢true}
use Rattle.std.proofs.lemmas.Int.{to_z-of_z}
use Rattle.online_robust.specs.Held.{edge_at, with_edge, with_number}
use Rattle.online_robust.specs.Moving.{CanGiveOut, CanGoTo, Move}
use Rattle.online_robust.proofs.StationCalls.{go_below, go_give, go_same}
use Rattle.online_robust.proofs.station.go_on.Goals.{After-was_shown}
use Rattle.online_robust.proofs.station.go_on.Goals as goal

pub returns-in_default-from_start-clause-moved : goal.returns-in_default-from_start-clause-moved
returns-in_default-from_start-clause-moved c = λ m g.
    let back : to_z w64 (of_z w64 c.args.number) ≡ c.args.number = search (rules, to_z-of_z) in
    let e = c.args.edges.now in
    go_below m c.args.node c.args.operator.now e c.args.number g c.in-Some.start c.reach.new.self (sym c.start.ensures ∙ c.in-Some.is)
    (subst (λ n. n <ℤ pos c.in-Some.start) back c.in_default-from_start.ensures)
    (c.reach.ensures ∙ ap (λ n. record e { edges = with_edge e c.args.node (with_number (edge_at e c.args.node) n) }) back)

pub returns-then-is_at-clause-moved : goal.returns-then-is_at-clause-moved
returns-then-is_at-clause-moved c = λ m g.
    let back : to_z w64 (of_z w64 c.args.number) ≡ c.args.number = search (rules, to_z-of_z) in
    go_same m c.args.node c.args.operator.now c.args.edges.now c.args.number g
    (sym c.number-before.ensures ∙ c.is_at.ensures.0 c.if-is_at.true ∙ ap Some back)

-- the operator may give out what it has up to the number
may_give : (c : After-was_shown) (m : Move) → CanGoTo m c.args.node c.args.operator.now c.args.edges.now c.args.number
    → CanGiveOut m c.args.node c.args.operator.now c.args.edges.now c.in-Some-from_start.to (not c.was_shown.result)
may_give c m g =
    let back : to_z w64 (of_z w64 c.args.number) ≡ c.args.number = search (rules, to_z-of_z) in
    go_give m c.args.node c.args.operator.now c.args.edges.now c.args.number g c.in-Some.start c.in-Some-from_start.to
    c.was_shown.result (sym c.start.ensures ∙ c.in-Some.is)
    (sym back ∙ c.in-Some-from_start.ensures.0) c.in-Some-from_start.ensures.1
    (λ h. false≢true (sym c.if-is_at.false ∙ c.is_at.ensures.1 (c.number-before.ensures ∙ h ∙ ap Some (sym back))))
    (subst (λ o. MatchOption o (c.was_shown.result ≡ false)
    (λ k. (c.was_shown.result ≡ false → k <ℤ pos c.in-Some.start) × (c.was_shown.result ≡ true → pos c.in-Some.start ≤ℤ k)))
    c.number-before.ensures c.was_shown.ensures)

pub give_out-requires-clause-can : goal.give_out-requires-clause-can
give_out-requires-clause-can c =
    let (m, g) = c.requires.can in
    (m, may_give (goal.at.give_out-requires-clause-can c).After-was_shown m g)

pub returns-clause-moved : goal.returns-clause-moved
returns-clause-moved c = λ m g. c.give_out.ensures.moved m (may_give (goal.at.returns-clause-moved c).After-was_shown m g)

pub returns-clause-fault : goal.returns-clause-fault
returns-clause-fault c = λ m g. c.give_out.ensures.fault m (may_give (goal.at.returns-clause-fault c).After-was_shown m g)
