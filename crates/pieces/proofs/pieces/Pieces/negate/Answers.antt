use Rattle.std.proofs.Common.{sym, subst}
use Rattle.frac128.specs.Cuts.{place}
use Rattle.pieces.specs.Chains.{IsLimited, IsWorth, Tells, stop}
use Rattle.pieces.specs.Negating.{BasesFrom, Negated}
use Rattle.pieces.proofs.BuildingLemmas.{chain_of}
use Rattle.pieces.proofs.NegatedChains.{bases_opposite, levels_of, negated_normal, negated_tells}
use Rattle.pieces.proofs.pieces.Pieces.negate.Goals as goal

pub negate_each-requires : goal.negate_each-requires
negate_each-requires g c =
    levels_of g.P.Shape (place c.self.inside.from) c.self.inside.items.items c.self.invariant.rising
    (subst (λ chain. IsLimited g.P.Shape chain) (sym c.self.view_is) c.requires).values

pub invariant_of-self : goal.invariant_of-self
invariant_of-self g c =
    negated_normal g.P.Shape (place c.self.inside.from) c.self.inside.items.items c.negate_each.new.items.items c.negate_each.ensures c.self.invariant

pub returns-clause-worth : goal.returns-clause-worth
returns-clause-worth g c =
    subst (λ chain. Tells g.P.Shape (Negated (IsWorth g.P.Shape chain)) chain.from (stop chain)
    (chain_of (place c.self.inside.from) c.negate_each.new.items.items)) c.self.view_is
    (negated_tells g.P.Shape (place c.self.inside.from) c.self.inside.items.items c.negate_each.new.items.items c.negate_each.ensures c.self.invariant)

pub returns-clause-bases : goal.returns-clause-bases
returns-clause-bases g c =
    subst (λ chain. BasesFrom g.P.Shape (λ b. b) chain (chain_of (place c.self.inside.from) c.negate_each.new.items.items)) c.self.view_is
    (λ p h m. bases_opposite g.P.Shape c.self.inside.items.items c.negate_each.new.items.items p c.negate_each.ensures h m)
