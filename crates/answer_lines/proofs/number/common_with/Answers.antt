use Rattle.std.proofs.Common.{subst}
use Rattle.std.specs.Int.{IsGcd}
use Rattle.std.proofs.lemmas.Nat.Gcd.{IsGcd-from_mod}
use Rattle.rational.proofs.Lowest.{gcd_pos}
use Rattle.answer_lines.proofs.number.common_with.Goals as goal

-- the common divisors of the remainder are those of the size
common : (c : goal.After-gcd) → IsGcd c.args.size c.args.tens c.gcd.result
common c =
    IsGcd-from_mod c.args.size c.args.tens c.gcd.result
    (subst (λ x. IsGcd c.args.tens x c.gcd.result) c.remainder.ensures c.gcd.ensures)

pub returns-clause-common : goal.returns-clause-common
unfolding common
returns-clause-common c = common c

pub returns-clause-some : goal.returns-clause-some
returns-clause-some c = gcd_pos c.args.size c.args.tens c.gcd.result c.requires (common c)
