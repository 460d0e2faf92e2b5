use Rattle.std.proofs.Common.{◌∷◌, [], ◌++◌, take, drop, ap, refl, sym, subst, ◌∙◌}
use Rattle.std.proofs.lemmas.List.{take-append-drop}
use Rattle.std.proofs.lemmas.Result.{on_ok_weaker}
use Rattle.serde_json.specs.View.{view}
use Rattle.report.specs.Forms.{piece_object, IsKnotForm, IsPieceForm}
use Rattle.report.proofs.Blocks.{first_of_two, first_written, second_of_two, both_written}
use Rattle.report.proofs.margin_entry.fill_step.Goals as goal

pub fill_piece-requires : goal.fill_piece-requires
fill_piece-requires c =
    let (p, k, e, is_p, is_k) = c.requires.form in
    subst (λ v. IsPieceForm (view v)) (sym (first_of_two c.args.objects.now c.args.at p k e c.requires.there c.index-objects-at.result)) is_p

pub fill_knot-requires : goal.fill_knot-requires
fill_knot-requires c =
    let (p, k, e, is_p, is_k) = c.requires.form in
    subst (λ v. IsKnotForm (view v))
    (sym (second_of_two c.args.objects.now c.args.at p k e c.requires.there c.fill_piece.new.piece c.index-objects-at-2.result)) is_k

pub returns-in_err-fill_piece-clause-form : goal.returns-in_err-fill_piece-clause-form
returns-in_err-fill_piece-clause-form c =
    let (p, k, e, is_p, is_k) = c.requires.form in
    let new = c.fill_piece.new.piece in
    (new ∷ k ∷ [], (new, k, refl, c.fill_piece.ensures.form, is_k), first_written c.args.objects.now c.args.at p k e c.requires.there new)

pub returns-clause-form : goal.returns-clause-form
returns-clause-form c =
    let (p, k, e, is_p, is_k) = c.requires.form in
    let piece = c.fill_piece.new.piece in
    let knot = c.fill_knot.new.knot in (
      piece ∷ knot ∷ [],
      (piece, knot, refl, c.fill_piece.ensures.form, c.fill_knot.ensures.form),
      both_written c.args.objects.now c.args.at p k e c.requires.there piece knot,
    )

pub returns-clause-ok : goal.returns-clause-ok
returns-clause-ok c =
    let (p, k, e, is_p, is_k) = c.requires.form in
    let piece = c.fill_piece.new.piece in
    let knot = c.fill_knot.new.knot in
    let texts = c.in_ok-texts.texts in
    let told = c.in_ok-texts.ensures in
    let (a, b, is_a, is_b, is_on) = told.on_is in
    on_ok_weaker c.fill_knot.result (λ is. (
      piece ∷ knot ∷ [],
      (piece, knot, refl, c.fill_piece.ensures.form, c.fill_knot.ensures.form),
      (
        piece,
        knot,
        refl,
        (
          a,
          b,
          _,
          _,
          is_a,
          is_b,
          told.from_is,
          told.to_is,
          c.in_ok-fill_piece.ensures.ok ∙ ap (λ w. piece_object texts.from.now w texts.to.now) is_on,
        ),
        (_, _, told.at_is, told.margin_is, is),
      ),
      both_written c.args.objects.now c.args.at p k e c.requires.there piece knot,
    )) c.fill_knot.ensures.ok

pub returns-in_err-texts-clause-form : goal.returns-in_err-texts-clause-form
returns-in_err-texts-clause-form c =
    let xs = c.args.objects.now in
    let at = c.args.at in (
      take 2 (drop at xs),
      c.requires.form,
      sym (ap (λ l. take at xs ++ l) (take-append-drop 2 (drop at xs)) ∙ take-append-drop at xs),
    )
