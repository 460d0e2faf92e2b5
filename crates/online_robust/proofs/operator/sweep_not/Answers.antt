use Rattle.std.proofs.Common.{rules, ◌≡◌, ◌≢◌, ap, pos, to_z, of_z, subst}
use Rattle.std.specs.Int.{w64}
use Rattle.rational.specs.Rational.{◌≈◌, whole}
use Rattle.frac128.specs.Value.{value}
use Rattle.online_robust.specs.declared.pointwise.Not as Own
use Rattle.online_robust.proofs.LinesGone.{one_of_both}
use Rattle.online_robust.proofs.OperatorBodies.{can_negate, not_apart, not_couple, not_edges, not_stands, not_told}
use Rattle.online_robust.proofs.operator.sweep_not.Goals as goal

pub sweep-requires-clause-can : goal.sweep-requires-clause-can
sweep-requires-clause-can c =
    let (t, place, b) = c.requires.can in
    let to : to_z w64 (of_z w64 c.from.result) ≡ pos c.args.to = search rules in
    let end : value c.of-end.result ≈ whole (pos c.args.to) = subst (λ n. value c.of-end.result ≈ whole n) to c.of-end.ensures.value in
    (not_couple t c.args.not.now c.args.edges.now c.args.to b, can_negate t c.args.not.now c.args.edges.now c.args.to b, end)

pub sweep-requires-clause-apart : goal.sweep-requires-clause-apart
sweep-requires-clause-apart c =
    let (t, place, b) = c.requires.can in subst (λ n. n ≢ c.args.not.now.of) place (not_apart t c.args.not.now c.args.edges.now c.args.to b)

pub returns : goal.returns
returns c =
    let to : to_z w64 (of_z w64 c.from.result) ≡ pos c.args.to = search rules in
    let end : value c.of-end.result ≈ whole (pos c.args.to) = subst (λ n. value c.of-end.result ≈ whole n) to c.of-end.ensures.value in
    let not = c.args.not.now in
    let e = c.args.edges.now in
    let ens = c.in_ok-sweep.ensures in
    let out = ens.out in
    record {
      swept = out.swept;
      between = out.between;
      told = λ t b. not_told t not e c.args.to b out.swept (out.is (not_couple t not e c.args.to b) (can_negate t not e c.args.to b) end).0;
      edges = λ t b. not_edges t not e c.args.to b out.between (value c.of-end.result) end (one_of_both out.lost)
          (out.is (not_couple t not e c.args.to b) (can_negate t not e c.args.to b) end).1;
      stands = λ t b. not_stands t not e c.args.to b c.sweep.new.self out.between (ap (λ (y : Own.Not). y.of) ens.kept) ens.some
          (ens.reached (not_couple t not e c.args.to b) (can_negate t not e c.args.to b) end);
      put = out.put;
    }
