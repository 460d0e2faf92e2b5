use Rattle.std.proofs.Common.{◌∷◌, [], ap, subst, sym}
use Rattle.std.proofs.lemmas.Result.{on_ok_weaker}
use Rattle.online_robust.specs.Putting.{HasPut}
use Rattle.online_robust.specs.ToldLines.{all_told, first_shape, lines_told}
use Rattle.online_robust.specs.declared.line.MarginLine.TheVariants.{Point}
use Rattle.online_robust.proofs.LinesPut.{put_both}
use Rattle.online_robust.proofs.slide.put_told.Goals as goal

pub returns-then-with_first : goal.returns-then-with_first
returns-then-with_first c =
    let at = c.from.result.time in
    let pieces = c.args.told.now.pieces in
    let point = c.args.point.now in
    let first = subst (λ v. HasPut c.args.node (Point at v ∷ []) c.args.edges.now c.put_point.new.edges) c.first_of.ensures c.in_ok-put_point.ensures in
    on_ok_weaker c.put_gaps.result
    (λ put. (
      at,
      ap (λ p. p.at) c.from.ensures,
      subst (λ b. HasPut c.args.node (all_told b at pieces point) c.args.edges.now c.put_gaps.new.edges)
          (sym c.if-with_first.true) (put_both c.args.node (Point at (first_shape pieces point) ∷ []) (lines_told at pieces point) c.args.edges.now
          c.put_point.new.edges c.put_gaps.new.edges c.requires first put),
    ))
    c.put_gaps.ensures

pub returns : goal.returns
returns c =
    let at = c.from.result.time in
    on_ok_weaker c.put_gaps-2.result
    (λ put. (
      at,
      ap (λ p. p.at) c.from.ensures,
      subst (λ b. HasPut c.args.node (all_told b at c.args.told.now.pieces c.args.point.now) c.args.edges.now c.put_gaps-2.new.edges)
          (sym c.if-with_first.false) put,
    ))
    c.put_gaps-2.ensures
