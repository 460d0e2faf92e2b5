use Rattle.std.proofs.Common.{sym, ◌∙◌}
use Rattle.rational.specs.Extended.{value_at}
use Rattle.rational.proofs.AffineLemmas.{same_transᵉ, value_same}
use Rattle.frac128.specs.Value.{value}
use Rattle.value_laws.specs.Margins.{margin_function}
use Rattle.answer_lines.proofs.KeptTexts.{same_of_order}
use Rattle.answer_lines.proofs.value_text.is_one_value.Goals as goal

pub returns-then-is_one_time : goal.returns-then-is_one_time
returns-then-is_one_time c = λ h.
    let both = c.is_one_time.ensures c.if-is_one_time.true in
    let first = margin_function c.args.m.now in
    let second = margin_function c.args.n.now in
    let t = value c.args.t.now in (
      both.0,
      same_transᵉ (value_at first (value c.args.at.now)) (value_at first t) (value_at second t) (value_same first both.1)
          (same_of_order c.cmp_at.result (value_at first t) (value_at second t) c.cmp_at.ensures (sym c.is_eq.ensures ∙ h)),
    )
