use Rattle.std.proofs.Common.{sym, subst}
use Rattle.pieces.specs.Chains.{IsLimited, IsWorth, Tells, stop}
use Rattle.pieces.specs.Negating.{BasesFrom, Negated}
use Rattle.pieces.proofs.pieces.Pieces.negated.Goals as goal

pub negate-requires : goal.negate-requires
negate-requires g c = subst (λ chain. IsLimited g.P.Shape chain) (sym c.in_ok-built.ensures) c.requires

pub returns-clause-worth : goal.returns-clause-worth
returns-clause-worth g c =
    subst (λ chain. Tells g.P.Shape (Negated (IsWorth g.P.Shape chain)) chain.from (stop chain) c.negate.new.self) c.in_ok-built.ensures
    c.negate.ensures.worth

pub returns-clause-bases : goal.returns-clause-bases
returns-clause-bases g c = subst (λ chain. BasesFrom g.P.Shape (λ b. b) chain c.negate.new.self) c.in_ok-built.ensures c.negate.ensures.bases
