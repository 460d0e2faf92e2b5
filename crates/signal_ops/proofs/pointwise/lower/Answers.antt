use Rattle.pl_signal.specs.Knots.{IsWorth}
use Rattle.pieces.proofs.SignalChains.{IsChainOf, chains_begin, chains_end, err_same}
use Rattle.pieces.proofs.SignalChains.{told_some, told_first, told_last, told_from_within, told_to_within, signal_told}
use Rattle.signal_ops.specs.Pointwise.{LeastOf}
use Rattle.signal_ops.proofs.Chosen.{fault_of_chains, names_of_chains, cause_of_chains, of_each}
use Rattle.signal_ops.proofs.pointwise.lower.Given.{Over}
use Rattle.signal_ops.proofs.pointwise.lower.Goals.{In_ok-left, In_ok-right}
use Rattle.signal_ops.proofs.pointwise.lower.Goals as goal

-- the signals as chains
left_chain : (g : Over) (c : In_ok-left g) → IsChainOf g.P.Shape c.args.a.now c.in_ok-left.left
left_chain g c = let e = c.in_ok-left.ensures in record { tells = e.worth; alike = e.alike; limited = e.limited; shapes = e.shapes }

right_chain : (g : Over) (c : In_ok-right g) → IsChainOf g.P.Shape c.args.b.now c.in_ok-right.right
right_chain g c = let e = c.in_ok-right.ensures in record { tells = e.worth; alike = e.alike; limited = e.limited; shapes = e.shapes }

pub lower-requires : goal.lower-requires
lower-requires g c =
    let at = goal.at.lower-requires g c in
    let left = left_chain g at.In_ok-left in
    let right = right_chain g at.In_ok-right in record {
      left = left.limited;
      right = right.limited;
      begins = chains_begin left right c.requires.begins;
      ends = chains_end left right c.requires.ends;
    }

pub signal_of-requires : goal.signal_of-requires
signal_of-requires g c =
    let is = left_chain g (goal.at.signal_of-requires g c).In_ok-left in
    let told = c.in_ok-least.ensures.worth in record {
      some = told_some is told;
      begins = told_first is told;
      ends = told_last is told;
      from_within = told_from_within is told;
      to_within = told_to_within is told;
    }

pub returns-in_err-least-clause-wide : goal.returns-in_err-least-clause-wide
returns-in_err-least-clause-wide g c =
    let at = goal.at.returns-in_err-least-clause-wide g c in
    err_same c.from_residual-in_err-least.result c.in_err-least.field-0.0 _ c.from_residual-in_err-least.ensures.1
    (fault_of_chains g.P.Shape c.args.a.now c.args.b.now c.in_ok-left.left c.in_ok-right.right (left_chain g at.In_ok-left) (right_chain g at.In_ok-right)
    c.in_err-least.field-0.0 c.in_err-least.ensures.wide)

pub returns-in_err-least-clause-named : goal.returns-in_err-least-clause-named
returns-in_err-least-clause-named g c =
    let at = goal.at.returns-in_err-least-clause-named g c in
    err_same c.from_residual-in_err-least.result c.in_err-least.field-0.0 _ c.from_residual-in_err-least.ensures.1
    (names_of_chains g.P.Shape c.args.a.now c.args.b.now c.in_ok-left.left c.in_ok-right.right (left_chain g at.In_ok-left) (right_chain g at.In_ok-right)
    c.in_err-least.field-0.0 c.in_err-least.ensures.wide)

pub returns-in_err-least-clause-cause : goal.returns-in_err-least-clause-cause
returns-in_err-least-clause-cause g c =
    let at = goal.at.returns-in_err-least-clause-cause g c in
    err_same c.from_residual-in_err-least.result c.in_err-least.field-0.0 _ c.from_residual-in_err-least.ensures.1
    (cause_of_chains g.P.Shape c.args.a.now c.args.b.now c.in_ok-left.left c.in_ok-right.right (left_chain g at.In_ok-left) (right_chain g at.In_ok-right)
    c.in_err-least.field-0.0 c.in_err-least.ensures.cause)

pub returns-clause-worth : goal.returns-clause-worth
returns-clause-worth g c =
    let at = goal.at.returns-clause-worth g c in
    let left = left_chain g at.In_ok-left in
    let right = right_chain g at.In_ok-right in
    signal_told left c.in_ok-least.ensures.worth (LeastOf (IsWorth g.P.Shape c.args.a.now) (IsWorth g.P.Shape c.args.b.now)) _
    (λ t v. (
      λ (x, y, h, k, m). (x, y, (left.alike t x).0 h, (right.alike t y).0 k, m),
      λ (x, y, h, k, m). (x, y, (left.alike t x).1 h, (right.alike t y).1 k, m),
    )) c.in_ok-signal_of.ensures.worth

pub returns-clause-shapes : goal.returns-clause-shapes
returns-clause-shapes g c p h =
    of_each c.in_ok-least.ensures.shapes c.in_ok-left.ensures.shapes c.in_ok-right.ensures.shapes p (c.in_ok-signal_of.ensures.shapes p h)
