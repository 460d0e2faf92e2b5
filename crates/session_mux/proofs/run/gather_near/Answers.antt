use Rattle.std.proofs.Common.{◌++◌, take, append_assoc, refl, sym, ap, ◌∙◌, arith}
use Rattle.std.proofs.lemmas.List.{length-take-le}
use Rattle.stl_syntax.specs.Texts.{newline}
use Rattle.session_mux.proofs.RunInputs.{gathered_none, gathered_on}
use Rattle.session_mux.proofs.run.gather_near.Goals as goal

pub loop-all-init : goal.loop-all-init
loop-all-init c = (gathered_none c.args.tag.now c.args.piece.now c.args.most _ refl, omega arith, refl)

pub put_wide-requires-clause-room : goal.put_wide-requires-clause-room
put_wide-requires-clause-room c =
    let (g, low, same) = c.loop-all.invariant in
    let within = g.within in
    omega (arith, low, same, within, c.requires.room)

pub loop-all-preserved : goal.loop-all-preserved
loop-all-preserved c =
    let (g, low, same) = c.loop-all.invariant in
    let (long, few, small, (content, ends, own)) = c.in-Some-near_line.ensures in
    let a = c.put_wide.ensures in
    let added = a.added ∙ ap (λ w. take c.loop-all.all.used c.loop-all.room ++ w) ends
    ∙ sym (append_assoc (take c.loop-all.all.used c.loop-all.room) content newline) in (
      gathered_on g c.loop-all-test.true own refl added,
      omega (arith, a.size, length-take-le c.in-Some-near_line.line.size c.in-Some-near_line.line.rest.now (omega (arith, long, few)), low, small),
      a.same ∙ same,
    )
