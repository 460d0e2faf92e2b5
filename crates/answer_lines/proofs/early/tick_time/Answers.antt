use Rattle.std.proofs.Common.{rules, ◌≡◌, to_z, of_z, ◌∙◌, subst}
use Rattle.std.specs.Int.{w64}
use Rattle.std.proofs.lemmas.Int.{to_z-of_z}
use Rattle.rational.specs.Time.{whole, ◌≈◌}
use Rattle.frac128.specs.Value.{value}
use Rattle.answer_lines.proofs.early.tick_time.Goals as goal

pub returns : goal.returns
returns c =
    let same : to_z w64 (of_z w64 c.from.result) ≡ c.from.result = search (rules, to_z-of_z) in
    subst (λ n. value c.of.result ≈ whole n) (same ∙ c.from.ensures) c.of.ensures.value
