use Rattle.std.proofs.Common.{◌+◌, sym, ◌∙◌, subst}
use Rattle.rational.specs.Extended.{value_at}
use Rattle.pl_signal.proofs.Values.{some_is}
use Rattle.pieces.specs.Chains.{IsWorth, end}
use Rattle.pieces.proofs.KnotLemmas.{side_after, side_before, own_worth, next_worth, has_next}
use Rattle.pieces.proofs.ReadUpTo.{shape_at}
use Rattle.pieces.proofs.signals.shape_at_end.Goals as goal

pub piece-requires : goal.piece-requires
piece-requires g c =
    has_next g.P.Shape c.args.chain.now c.args.i c.piece-piece.result.now c.piece-piece.ensures
    (side_before c.piece-piece.result.now.until.side c.if-piece-eq0.true) c.requires.ends

pub returns-then-piece-eq0-clause-shape : goal.returns-then-piece-eq0-clause-shape
returns-then-piece-eq0-clause-shape g c = shape_at c.args.chain.now.pieces (c.args.i + 1) c.piece.result.now c.piece.ensures

pub returns-then-piece-eq0-clause-worth : goal.returns-then-piece-eq0-clause-worth
returns-then-piece-eq0-clause-worth g c p e =
    subst (λ p. IsWorth g.P.Shape c.args.chain.now (end p).at (value_at (g.P.Shape.function c.piece.result.now.shape) (end p).at))
    (some_is (sym c.piece-piece.ensures ∙ e))
    (next_worth g.P.Shape c.args.chain.now c.args.i c.piece-piece.result.now c.piece.result.now c.len.ensures.normal c.piece-piece.ensures c.piece.ensures
    (side_before c.piece-piece.result.now.until.side c.if-piece-eq0.true))

pub returns-clause-shape : goal.returns-clause-shape
returns-clause-shape g c = shape_at c.args.chain.now.pieces c.args.i c.piece-piece.result.now c.piece-piece.ensures

pub returns-clause-worth : goal.returns-clause-worth
returns-clause-worth g c p e =
    subst (λ p. IsWorth g.P.Shape c.args.chain.now (end p).at (value_at (g.P.Shape.function c.piece-piece.result.now.shape) (end p).at))
    (some_is (sym c.piece-piece.ensures ∙ e))
    (own_worth g.P.Shape c.args.chain.now c.args.i c.piece-piece.result.now c.len.ensures.normal c.piece-piece.ensures
    (side_after c.piece-piece.result.now.until.side c.if-piece-eq0.false))
