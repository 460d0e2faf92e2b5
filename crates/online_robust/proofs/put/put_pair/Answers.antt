use Rattle.std.proofs.Common.{[], ◌∷◌}
use Rattle.std.proofs.lemmas.Result.{on_ok_weaker}
use Rattle.online_robust.specs.declared.line.MarginLine.TheVariants as Part
use Rattle.online_robust.proofs.LinesPut.{put_both}
use Rattle.online_robust.proofs.put.put_pair.Goals as goal

pub returns : goal.returns
returns c =
    on_ok_weaker c.put_point.result
    (put_both c.args.node (Part.Gap c.args.from.now c.args.at.now c.args.piece.now ∷ [])
    (Part.Point c.args.at.now c.args.value.now ∷ []) c.args.edges.now c.put.new.self c.put_point.new.edges
    c.requires (record { edges = c.in_ok-put.ensures.put; start = c.in_ok-put.ensures.start })) c.put_point.ensures
