use Rattle.std.proofs.Common.{rules, to_z, of_z, w64, ◌≡◌, subst, pos, refl}
use Rattle.rational.specs.Rational.{whole, ◌≈◌}
use Rattle.rational.proofs.Order.{same_refl}
use Rattle.frac128.specs.Value.{value}
use Rattle.verdict_stream.proofs.CutVerdicts.{room_before}
use Rattle.verdict_stream.proofs.pending.part_before.Goals as goal

pub invariant_of-result : goal.invariant_of-result
invariant_of-result c =
    let e : to_z w64 (of_z w64 c.from.result) ≡ pos c.args.front = search rules in
    record { not_empty = room_before c.args.front c.args.verdict.now c.of.result (subst (λ z. value c.of.result ≈ whole z) e c.of.ensures.value) c.requires }

pub returns : goal.returns
returns c =
    let e : to_z w64 (of_z w64 c.from.result) ≡ pos c.args.front = search rules in
    record {
      begin = (same_refl (value c.args.verdict.now.on.from), refl);
      end = (subst (λ z. value c.of.result ≈ whole z) e c.of.ensures.value, refl);
      holds = refl;
    }
