use Rattle.pl_signal.specs.Knots.{start, stop, IsWorth}
use Rattle.pieces.specs.Windows.{SupAhead}
use Rattle.pieces.proofs.SignalChains.{IsChainOf, err_same}
use Rattle.pieces.proofs.SignalChains.{told_some, told_first, told_last, told_from_within, told_to_within, signal_told}
use Rattle.window_ops.proofs.WindowsOfChains.{sup_ahead_of_chain, ahead_cause_of_chain, bases_ahead_of_chain, near_chain, first_of_chain, last_of_chain}
use Rattle.window_ops.proofs.window.sup_window.Given.{Over}
use Rattle.window_ops.proofs.window.sup_window.Goals.{In_ok-chain}
use Rattle.window_ops.proofs.window.sup_window.Goals as goal

-- the signal as a chain
chain : (g : Over) (c : In_ok-chain g) → IsChainOf g.P.Shape c.args.s.now c.in_ok-chain.chain
chain g c = let e = c.in_ok-chain.ensures in record { tells = e.worth; alike = e.alike; limited = e.limited; shapes = e.shapes }

pub sup_ahead-requires : goal.sup_ahead-requires
sup_ahead-requires g c =
    let is = chain g (goal.at.sup_ahead-requires g c).In_ok-chain in record {
      limited = is.limited;
      near = near_chain g.P.Shape c.args.s.now c.in_ok-chain.chain is c.requires.near;
      first = first_of_chain g.P.Shape c.args.s.now c.in_ok-chain.chain is c.requires.first;
      last = last_of_chain g.P.Shape c.args.s.now c.in_ok-chain.chain is c.requires.last;
      order = c.requires.order;
    }

pub signal_of-requires : goal.signal_of-requires
signal_of-requires g c =
    let is = chain g (goal.at.signal_of-requires g c).In_ok-chain in
    let told = c.in_ok-best.ensures.worth in record {
      some = told_some is told;
      begins = told_first is told;
      ends = told_last is told;
      from_within = told_from_within is told;
      to_within = told_to_within is told;
    }

pub returns-in_err-best-clause-wide : goal.returns-in_err-best-clause-wide
returns-in_err-best-clause-wide g c =
    err_same c.from_residual-in_err-best.result c.in_err-best.field-0.0 _ c.from_residual-in_err-best.ensures.1
    (ahead_cause_of_chain g.P.Shape c.args.s.now c.in_ok-chain.chain (chain g (goal.at.returns-in_err-best-clause-wide g c).In_ok-chain)
    c.args.a c.args.b c.args.low_in c.args.high_in c.in_err-best.field-0.0 c.in_err-best.ensures.wide)

pub returns-clause-worth : goal.returns-clause-worth
returns-clause-worth g c =
    let is = chain g (goal.at.returns-clause-worth g c).In_ok-chain in
    signal_told is c.in_ok-best.ensures.worth (SupAhead (start c.args.s.now) (stop c.args.s.now) (IsWorth g.P.Shape c.args.s.now) g.P.Shape.lowest
    c.args.a c.args.b c.args.low_in c.args.high_in) _
    (sup_ahead_of_chain g.P.Shape c.args.s.now c.in_ok-chain.chain is c.args.a c.args.b c.args.low_in c.args.high_in g.P.Shape.lowest)
    c.in_ok-signal_of.ensures.worth

pub returns-clause-bases : goal.returns-clause-bases
returns-clause-bases g c =
    bases_ahead_of_chain g.P.Shape c.args.s.now c.in_ok-chain.chain (chain g (goal.at.returns-clause-bases g c).In_ok-chain) c.args.a c.args.b
    c.in_ok-best.best _ c.in_ok-best.ensures.bases c.in_ok-signal_of.ensures.shapes
