use Rattle.std.proofs.Common.{rules, to_z, of_z, w64, ◌≡◌, ◌&&◌, subst, pos, refl, false}
use Rattle.rational.specs.Rational.{whole, ◌≈◌}
use Rattle.rational.proofs.Order.{same_refl, same_sym}
use Rattle.frac128.specs.Value.{value}
use Rattle.verdict_stream.proofs.CutVerdicts.{room_after}
use Rattle.verdict_stream.proofs.pending.leave_after.Goals as goal

pub invariant_of-verdict : goal.invariant_of-verdict
invariant_of-verdict c =
    let e : to_z w64 (of_z w64 c.from.result) ≡ pos c.args.front = search rules in
    let v = c.args.verdict.now in
    record {
      not_empty = room_after c.args.front v c.of-verdict.result (subst (λ z. value c.of-verdict.result ≈ whole z) e c.of-verdict.ensures.value) c.requires
          (v.on.from_in && v.on.to_in);
    }

pub invariant_of-verdict-2 : goal.invariant_of-verdict-2
invariant_of-verdict-2 c =
    let e : to_z w64 (of_z w64 c.from.result) ≡ pos c.args.front = search rules in
    record {
      not_empty = room_after c.args.front c.args.verdict.now c.of-verdict.result
          (subst (λ z. value c.of-verdict.result ≈ whole z) e c.of-verdict.ensures.value) c.requires false;
    }

pub returns : goal.returns
returns c =
    let e : to_z w64 (of_z w64 c.from.result) ≡ pos c.args.front = search rules in
    record {
      begin = (same_sym (subst (λ z. value c.of-verdict.result ≈ whole z) e c.of-verdict.ensures.value), refl);
      end = (same_refl (value c.args.verdict.now.on.to), refl);
      holds = refl;
    }
