use Rattle.std.proofs.Common.{◌≡◌, ◌+◌, drop, sym, ap, ◌∙◌, subst}
use Rattle.std.specs.Prelude.{cond}
use Rattle.pl_signal.proofs.Values.{some_is}
use Rattle.pieces.proofs.KnotLemmas.{side_after, side_before}
use Rattle.online_robust.specs.ToldLines.{first_shape, shape_at_end}
use Rattle.online_robust.proofs.SlideStretch.{behind_last, behind_next}
use Rattle.online_robust.proofs.slide.shape_behind.Goals as goal

pub returns-then-piece-ne0 : goal.returns-then-piece-ne0
returns-then-piece-ne0 c p e =
    let rest = drop (c.args.i + 1) c.args.told.now.pieces in
    subst (λ q. c.piece-piece.result.now.shape ≡ shape_at_end q rest c.args.point.now) (some_is (sym c.piece-piece.ensures ∙ e))
    (ap (λ b. cond b c.piece-piece.result.now.shape (first_shape rest c.args.point.now))
    (sym (side_after c.piece-piece.result.now.until.side c.if-piece-ne0.true)))

pub returns-then-i-count : goal.returns-then-i-count
returns-then-i-count c p e =
    let rest = drop (c.args.i + 1) c.args.told.now.pieces in
    subst (λ q. c.piece.result.now.shape ≡ shape_at_end q rest c.args.point.now) (some_is (sym c.piece-piece.ensures ∙ e))
    (sym (behind_next c.args.told.now.pieces (c.args.i + 1) c.piece.result.now c.args.point.now c.piece.ensures)
    ∙ ap (λ b. cond b c.piece-piece.result.now.shape (first_shape rest c.args.point.now))
    (sym (side_before c.piece-piece.result.now.until.side c.if-piece-ne0.false)))

pub returns : goal.returns
returns c p e =
    let rest = drop (c.args.i + 1) c.args.told.now.pieces in
    subst (λ q. c.args.point.now ≡ shape_at_end q rest c.args.point.now) (some_is (sym c.piece-piece.ensures ∙ e))
    (sym (behind_last c.args.told.now.pieces c.args.i c.args.point.now c.len-count.result c.len-count.ensures.value c.if-i-count.false)
    ∙ ap (λ b. cond b c.piece-piece.result.now.shape (first_shape rest c.args.point.now))
    (sym (side_before c.piece-piece.result.now.until.side c.if-piece-ne0.false)))
