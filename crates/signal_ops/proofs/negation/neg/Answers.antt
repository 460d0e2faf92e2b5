use Rattle.std.proofs.lemmas.Result.{IfOk-weaker}
use Rattle.rational.specs.Extended.{opposite}
use Rattle.pieces.proofs.SignalChains.{IsChainOf, told_some, told_first, told_last, told_from_within, told_to_within, signal_told}
use Rattle.pl_signal.specs.Knots.{IsWorth}
use Rattle.pieces.specs.Negating.{Negated}
use Rattle.signal_ops.proofs.negation.neg.Given.{Over}
use Rattle.signal_ops.proofs.negation.neg.Goals.{In_ok-chain}
use Rattle.signal_ops.proofs.negation.neg.Goals as goal

-- the signal as a chain
chain : (g : Over) (c : In_ok-chain g) → IsChainOf g.P.Shape c.args.s.now c.in_ok-chain.chain
chain g c = let e = c.in_ok-chain.ensures in record { tells = e.worth; alike = e.alike; limited = e.limited; shapes = e.shapes }

pub negate-requires : goal.negate-requires
negate-requires g c = c.in_ok-chain.ensures.limited

pub signal_of-requires : goal.signal_of-requires
signal_of-requires g c =
    let is = chain g (goal.at.signal_of-requires g c).In_ok-chain in
    let told = c.negate.ensures.worth in record {
      some = told_some is told;
      begins = told_first is told;
      ends = told_last is told;
      from_within = told_from_within is told;
      to_within = told_to_within is told;
    }

pub returns-clause-worth : goal.returns-clause-worth
returns-clause-worth g c = IfOk-weaker c.signal_of.result _ _
    (λ r made. signal_told (chain g (goal.at.returns-clause-worth g c).In_ok-chain) c.negate.ensures.worth (Negated (IsWorth g.P.Shape c.args.s.now)) r
    (λ t v. c.in_ok-chain.ensures.alike t (opposite v)) made)
    c.signal_of.ensures.worth

pub returns-clause-bases : goal.returns-clause-bases
returns-clause-bases g c = IfOk-weaker c.signal_of.result _ _
    (λ r shapes p h m. let old = c.negate.ensures.bases p (shapes p h) m in (old.0, c.in_ok-chain.ensures.shapes old.0 old.1, old.2, old.3))
    c.signal_of.ensures.shapes
