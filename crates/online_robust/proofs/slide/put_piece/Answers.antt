use Rattle.std.proofs.Common.{◌∷◌, []}
use Rattle.frac128.specs.Value.{value}
use Rattle.pieces.proofs.KnotLemmas.{not_less}
use Rattle.online_robust.specs.declared.line.MarginLine.TheVariants.{Gap, Point}
use Rattle.online_robust.proofs.LinesPut.{put_nothing}
use Rattle.online_robust.proofs.SlideStretch.{no_gap, some_gap}
use Rattle.online_robust.proofs.slide.put_piece.Goals as goal

pub returns-in_ok-put_pair-in-Less : goal.returns-in_ok-put_pair-in-Less
returns-in_ok-put_pair-in-Less c = (
  Gap c.args.at c.piece-piece.result.now.until.time c.piece-piece.result.now.shape
      ∷ Point c.piece-piece.result.now.until.time c.shape_behind-value.result.now ∷ [],
  c.in_ok-put_pair-in-Less.ensures,
  some_gap c.args.told.now.pieces c.args.i c.piece-piece.result.now c.args.at c.args.point.now c.piece-piece.ensures
      c.shape_behind-value.result.now c.in-Less.ensures (c.shape_behind-value.ensures c.piece-piece.result.now c.piece-piece.ensures),
)

pub returns-in_default : goal.returns-in_default
returns-in_default c = (
  [],
  put_nothing c.args.node c.args.edges.now,
  no_gap c.args.told.now.pieces c.args.i c.piece-piece.result.now c.args.at c.args.point.now c.piece-piece.ensures
      (not_less c.cmp.result (value c.args.at) (value c.piece-piece.result.now.until.time) c.cmp.ensures c.in_default.not-Less),
)
