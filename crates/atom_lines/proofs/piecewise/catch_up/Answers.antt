use Rattle.std.proofs.Common.{rules, ◌≡◌, pos, subst, to_z, of_z}
use Rattle.std.specs.Int.{w64}
use Rattle.std.proofs.lemmas.Int.{to_z-of_z}
use Rattle.std.proofs.lemmas.Result.{on_ok_weaker}
use Rattle.rational.specs.Time.{◌≤ʳ◌, ◌<ʳ◌, ◌≈◌, whole}
use Rattle.rational.proofs.Order.{le_trans, ge_of_same, same_of_le}
use Rattle.rational.proofs.Compare.{le_of_not_less}
use Rattle.frac128.specs.Value.{value}
use Rattle.pl_signal.specs.Knots.{stop}
use Rattle.atom_lines.proofs.GrowingLemmas.{caught_already, caught_up}
use Rattle.atom_lines.proofs.piecewise.catch_up.Goals as goal

pub go_along-requires-clause-later : goal.go_along-requires-clause-later
go_along-requires-clause-later g c = subst (λ x. x <ʳ value c.of-end.result) c.stop.ensures.value c.in-Less.ensures

pub returns-in-Less : goal.returns-in-Less
returns-in-Less g c =
    let wide : to_z w64 (of_z w64 c.from.result) ≡ pos c.args.to = search (rules, to_z-of_z) in
    let is : value c.of-end.result ≈ whole (pos c.args.to) = rw wide at c.of-end.ensures.value in
    let later : stop c.args.signal.now <ʳ value c.of-end.result = subst (λ x. x <ʳ value c.of-end.result) c.stop.ensures.value c.in-Less.ensures in
    on_ok_weaker c.go_along.result
    (λ on. caught_up g.P.Shape c.args.steady.now c.args.to c.of-end.result c.args.signal.now c.go_along.new.self is later on) c.go_along.ensures.ok

pub returns-in_default : goal.returns-in_default
returns-in_default g c =
    let wide : to_z w64 (of_z w64 c.from.result) ≡ pos c.args.to = search (rules, to_z-of_z) in
    let is : value c.of-end.result ≈ whole (pos c.args.to) = rw wide at c.of-end.ensures.value in
    let reached : whole (pos c.args.to) ≤ʳ stop c.args.signal.now =
    le_trans (ge_of_same is) (subst (λ x. value c.of-end.result ≤ʳ x) c.stop.ensures.value (le_of_not_less c.cmp.result c.cmp.ensures c.in_default.not-Less)) in
    caught_already g.P.Shape c.args.steady.now c.args.to c.args.signal.now c.stop.ensures.signal (same_of_le c.requires.late reached)
