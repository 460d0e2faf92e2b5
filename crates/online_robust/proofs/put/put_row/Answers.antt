use Rattle.std.proofs.Common.{[], ◌∷◌, refl, subst, sym}
use Rattle.std.proofs.lemmas.Result.{on_ok_weaker}
use Rattle.online_robust.specs.Putting.{HasPutRow}
use Rattle.online_robust.specs.declared.line.MarginLine.TheVariants as Part
use Rattle.online_robust.proofs.put.put_row.Goals as goal

pub returns-in-Some : goal.returns-in-Some
returns-in-Some c =
    let from = c.time_of-from.result in
    let at = c.time_of-at.result in
    on_ok_weaker c.put_pair.result
    (λ p. subst (λ o. HasPutRow c.args.node o c.args.row.now c.args.piece c.args.value c.args.edges.now c.put_pair.new.edges) (sym c.in-Some.is) (
      Part.Gap from at c.args.piece ∷ Part.Point at c.args.value ∷ [],
      (from, at, c.time_of-from.ensures, c.time_of-at.ensures, refl),
      p,
    )) c.put_pair.ensures

pub returns-in-None : goal.returns-in-None
returns-in-None c =
    let at = c.time_of-at.result in
    on_ok_weaker c.put_point.result
    (λ p. subst (λ o. HasPutRow c.args.node o c.args.row.now c.args.piece c.args.value c.args.edges.now c.put_point.new.edges) (sym c.in-None.is) (
      Part.Point at c.args.value ∷ [],
      (at, c.time_of-at.ensures, refl),
      p,
    )) c.put_point.ensures
