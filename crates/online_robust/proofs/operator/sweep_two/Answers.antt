use Rattle.std.proofs.Common.{rules, ◌≡◌, ◌≢◌, pos, to_z, of_z, subst}
use Rattle.std.specs.Int.{w64}
use Rattle.rational.specs.Rational.{◌≈◌, whole}
use Rattle.rational.proofs.Lists.{on_err_anyway}
use Rattle.frac128.specs.Value.{value}
use Rattle.online_robust.specs.Refusing.{told_by}
use Rattle.online_robust.proofs.OperatorBodies.{can_join, two_apart, two_couple, two_edges, two_stands, two_told, two_fault}
use Rattle.online_robust.proofs.operator.sweep_two.Goals as goal

pub sweep-requires-clause-can : goal.sweep-requires-clause-can
sweep-requires-clause-can c =
    let (t, place, b) = c.requires.can in
    let to : to_z w64 (of_z w64 c.from.result) ≡ pos c.args.to = search rules in
    let end : value c.of-end.result ≈ whole (pos c.args.to) = subst (λ n. value c.of-end.result ≈ whole n) to c.of-end.ensures.value in
    (two_couple t c.args.two.now c.args.edges.now c.args.to b, can_join t c.args.two.now c.args.edges.now c.args.to b, end)

pub sweep-requires-clause-apart : goal.sweep-requires-clause-apart
sweep-requires-clause-apart c =
    let (t, place, b) = c.requires.can in
    subst (λ n. (n ≢ c.args.two.now.left) × (n ≢ c.args.two.now.right)) place (two_apart t c.args.two.now c.args.edges.now c.args.to b)

pub returns-clause-out : goal.returns-clause-out
returns-clause-out c =
    let to : to_z w64 (of_z w64 c.from.result) ≡ pos c.args.to = search rules in
    let end : value c.of-end.result ≈ whole (pos c.args.to) = subst (λ n. value c.of-end.result ≈ whole n) to c.of-end.ensures.value in
    let two = c.args.two.now in
    let e = c.args.edges.now in
    let ens = c.in_ok-sweep.ensures in
    let out = ens.out in
    record {
      swept = out.swept;
      between = out.between;
      told = λ t b. two_told t two e c.args.to b out.swept (out.is (two_couple t two e c.args.to b) (can_join t two e c.args.to b) end).0;
      edges = λ t b. two_edges t two e c.args.to b out.between (value c.of-end.result) end out.lost
          (out.is (two_couple t two e c.args.to b) (can_join t two e c.args.to b) end).1;
      stands = λ t b. two_stands t two e c.args.to b c.sweep.new.self out.between ens.kept ens.some
          (ens.reached (two_couple t two e c.args.to b) (can_join t two e c.args.to b) end);
      put = out.put;
    }

pub returns-in_err-sweep-clause-wide : goal.returns-in_err-sweep-clause-wide
returns-in_err-sweep-clause-wide c = λ t b.
    let to : to_z w64 (of_z w64 c.from.result) ≡ pos c.args.to = search rules in
    let end : value c.of-end.result ≈ whole (pos c.args.to) = subst (λ n. value c.of-end.result ≈ whole n) to c.of-end.ensures.value in
    on_err_anyway c.from_residual.result (two_fault t c.args.two.now c.args.edges.now c.args.to b (told_by c.sweep.new.fault)
    (c.in_err-sweep.ensures.wide (two_couple t c.args.two.now c.args.edges.now c.args.to b) (can_join t c.args.two.now c.args.edges.now c.args.to b) end))
