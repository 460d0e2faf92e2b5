use Rattle.pieces.proofs.SignalChains.{IsChainOf, chains_begin, chains_end, err_same}
use Rattle.pieces.proofs.SignalChains.{told_some, told_first, told_last, told_from_within, told_to_within, signal_told}
use Rattle.until_ops.specs.Untils.{UntilOf}
use Rattle.until_ops.proofs.UntilsOfChains.{until_of_chains, bases_of_chains, pair_of_chains, until_cause_of_chains}
use Rattle.until_ops.proofs.until.until_to_end.Given.{Over}
use Rattle.until_ops.proofs.until.until_to_end.Goals.{In_ok-left, In_ok-right}
use Rattle.until_ops.proofs.until.until_to_end.Goals as goal

-- the signals as chains
left_chain : (g : Over) (c : In_ok-left g) → IsChainOf g.P.Shape c.args.p.now c.in_ok-left.left
left_chain g c = let e = c.in_ok-left.ensures in record { tells = e.worth; alike = e.alike; limited = e.limited; shapes = e.shapes }

right_chain : (g : Over) (c : In_ok-right g) → IsChainOf g.P.Shape c.args.q.now c.in_ok-right.right
right_chain g c = let e = c.in_ok-right.ensures in record { tells = e.worth; alike = e.alike; limited = e.limited; shapes = e.shapes }

pub until_to_end-requires : goal.until_to_end-requires
until_to_end-requires g c =
    let at = goal.at.until_to_end-requires g c in
    let left = left_chain g at.In_ok-left in
    let right = right_chain g at.In_ok-right in record {
      left = left.limited;
      right = right.limited;
      begins = chains_begin left right c.requires.begins;
      ends = chains_end left right c.requires.ends;
    }

pub signal_of-requires : goal.signal_of-requires
signal_of-requires g c =
    let is = left_chain g (goal.at.signal_of-requires g c).In_ok-left in
    let told = c.in_ok-until.ensures.worth in record {
      some = told_some is told;
      begins = told_first is told;
      ends = told_last is told;
      from_within = told_from_within is told;
      to_within = told_to_within is told;
    }

pub returns-in_err-until-clause-wide : goal.returns-in_err-until-clause-wide
returns-in_err-until-clause-wide g c =
    let at = goal.at.returns-in_err-until-clause-wide g c in
    err_same c.from_residual-in_err-until.result c.in_err-until.field-0.0 _ c.from_residual-in_err-until.ensures.1
    (until_cause_of_chains g.P.Shape c.args.p.now c.args.q.now c.in_ok-left.left c.in_ok-right.right (left_chain g at.In_ok-left)
    (right_chain g at.In_ok-right) c.requires.begins c.requires.ends c.in_err-until.field-0.0 c.in_err-until.ensures.wide)

pub returns-in_err-until-clause-pair : goal.returns-in_err-until-clause-pair
returns-in_err-until-clause-pair g c =
    let at = goal.at.returns-in_err-until-clause-pair g c in
    err_same c.from_residual-in_err-until.result c.in_err-until.field-0.0 _ c.from_residual-in_err-until.ensures.1
    (pair_of_chains g.P.Shape c.args.p.now c.args.q.now c.in_ok-left.left c.in_ok-right.right (left_chain g at.In_ok-left)
    (right_chain g at.In_ok-right) c.in_err-until.field-0.0 c.in_err-until.ensures.pair)

pub returns-clause-worth : goal.returns-clause-worth
returns-clause-worth g c =
    let at = goal.at.returns-clause-worth g c in
    let left = left_chain g at.In_ok-left in
    signal_told left c.in_ok-until.ensures.worth (UntilOf g.P.Shape c.args.p.now c.args.q.now) _
    (until_of_chains g.P.Shape c.args.p.now c.args.q.now c.in_ok-left.left c.in_ok-right.right left (right_chain g at.In_ok-right))
    c.in_ok-signal_of.ensures.worth

pub returns-clause-bases : goal.returns-clause-bases
returns-clause-bases g c =
    let at = goal.at.returns-clause-bases g c in
    bases_of_chains g.P.Shape c.args.p.now c.args.q.now c.in_ok-left.left c.in_ok-right.right (left_chain g at.In_ok-left) (right_chain g at.In_ok-right)
    c.in_ok-until.until _ c.in_ok-until.ensures.bases c.in_ok-signal_of.ensures.shapes
