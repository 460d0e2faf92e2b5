use Rattle.pieces.proofs.SignalChains.{IsChainOf, chains_begin, chains_end, err_same}
use Rattle.pieces.proofs.SignalChains.{told_some, told_first, told_last, told_from_within, told_to_within, signal_told}
use Rattle.until_ops.specs.Untils.{SinceOf}
use Rattle.until_ops.proofs.UntilsOfChains.{since_of_chains, bases_of_chains, pair_of_chains, since_cause_of_chains}
use Rattle.until_ops.proofs.since.since_from_start.Given.{Over}
use Rattle.until_ops.proofs.since.since_from_start.Goals.{In_ok-left, In_ok-right}
use Rattle.until_ops.proofs.since.since_from_start.Goals as goal

-- the signals as chains
left_chain : (g : Over) (c : In_ok-left g) → IsChainOf g.P.Shape c.args.p.now c.in_ok-left.left
left_chain g c = let e = c.in_ok-left.ensures in record { tells = e.worth; alike = e.alike; limited = e.limited; shapes = e.shapes }

right_chain : (g : Over) (c : In_ok-right g) → IsChainOf g.P.Shape c.args.q.now c.in_ok-right.right
right_chain g c = let e = c.in_ok-right.ensures in record { tells = e.worth; alike = e.alike; limited = e.limited; shapes = e.shapes }

pub since_from_start-requires : goal.since_from_start-requires
since_from_start-requires g c =
    let at = goal.at.since_from_start-requires g c in
    let left = left_chain g at.In_ok-left in
    let right = right_chain g at.In_ok-right in record {
      left = left.limited;
      right = right.limited;
      begins = chains_begin left right c.requires.begins;
      ends = chains_end left right c.requires.ends;
    }

pub signal_of-requires : goal.signal_of-requires
signal_of-requires g c =
    let is = left_chain g (goal.at.signal_of-requires g c).In_ok-left in
    let told = c.in_ok-since.ensures.worth in record {
      some = told_some is told;
      begins = told_first is told;
      ends = told_last is told;
      from_within = told_from_within is told;
      to_within = told_to_within is told;
    }

pub returns-in_err-since-clause-wide : goal.returns-in_err-since-clause-wide
returns-in_err-since-clause-wide g c =
    let at = goal.at.returns-in_err-since-clause-wide g c in
    err_same c.from_residual-in_err-since.result c.in_err-since.field-0.0 _ c.from_residual-in_err-since.ensures.1
    (since_cause_of_chains g.P.Shape c.args.p.now c.args.q.now c.in_ok-left.left c.in_ok-right.right (left_chain g at.In_ok-left)
    (right_chain g at.In_ok-right) c.requires.begins c.requires.ends c.in_err-since.field-0.0 c.in_err-since.ensures.wide)

pub returns-in_err-since-clause-pair : goal.returns-in_err-since-clause-pair
returns-in_err-since-clause-pair g c =
    let at = goal.at.returns-in_err-since-clause-pair g c in
    err_same c.from_residual-in_err-since.result c.in_err-since.field-0.0 _ c.from_residual-in_err-since.ensures.1
    (pair_of_chains g.P.Shape c.args.p.now c.args.q.now c.in_ok-left.left c.in_ok-right.right (left_chain g at.In_ok-left)
    (right_chain g at.In_ok-right) c.in_err-since.field-0.0 c.in_err-since.ensures.pair)

pub returns-clause-worth : goal.returns-clause-worth
returns-clause-worth g c =
    let at = goal.at.returns-clause-worth g c in
    let left = left_chain g at.In_ok-left in
    signal_told left c.in_ok-since.ensures.worth (SinceOf g.P.Shape c.args.p.now c.args.q.now) _
    (since_of_chains g.P.Shape c.args.p.now c.args.q.now c.in_ok-left.left c.in_ok-right.right left (right_chain g at.In_ok-right))
    c.in_ok-signal_of.ensures.worth

pub returns-clause-bases : goal.returns-clause-bases
returns-clause-bases g c =
    let at = goal.at.returns-clause-bases g c in
    bases_of_chains g.P.Shape c.args.p.now c.args.q.now c.in_ok-left.left c.in_ok-right.right (left_chain g at.In_ok-left) (right_chain g at.In_ok-right)
    c.in_ok-since.since _ c.in_ok-since.ensures.bases c.in_ok-signal_of.ensures.shapes
