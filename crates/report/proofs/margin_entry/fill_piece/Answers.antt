use Rattle.std.proofs.Common.{ap, sym, subst, codes, ◌∙◌}
use Rattle.std.proofs.lemmas.Result.{on_ok_weaker}
use Rattle.serde_json.specs.Find.{get}
use Rattle.serde_json.specs.View.{view}
use Rattle.report.specs.Forms.{IsPieceForm, IsFirst, IsLast}
use Rattle.report.proofs.Forms.{piece_has_from, piece_has_on, piece_has_to, piece_from, piece_on, piece_to, piece_from_first, piece_to_last}
use Rattle.report.proofs.margin_entry.fill_piece.Goals as goal
use Rattle.report.proofs.margin_entry.fill_piece.Goals.{After-set_first, After-set_text}

-- with its first limit, and with its span, it is of the same kind
begun : (c : After-set_first) → IsPieceForm (view c.set_first.new.object)
begun c =
    let (f, o, t, e) = c.requires in
    let (w, h) = c.set_first.ensures.form in (w, o, t, piece_from (view c.args.piece.now) (view c.set_first.new.object) f o t w e h)

spanned : (c : After-set_text) → IsPieceForm (view c.set_text.new.object)
spanned c =
    let (f, o, t, e) = c.requires in
    let (v, h) = c.set_first.ensures.form in
    let (w, g) = c.set_text.ensures.form in (
      v,
      w,
      t,
      piece_on (view c.set_first.new.object) (view c.set_text.new.object) v o t w
          (piece_from (view c.args.piece.now) (view c.set_first.new.object) f o t v e h) g,
    )

pub set_first-requires-clause-form : goal.set_first-requires-clause-form
set_first-requires-clause-form c = let (f, o, t, e) = c.requires in (f, ap (get (codes "from")) e ∙ piece_has_from f o t)

pub set_first-requires-clause-place : goal.set_first-requires-clause-place
set_first-requires-clause-place c = let (f, o, t, e) = c.requires in subst (IsFirst (codes "from")) (sym e) (piece_from_first f o t)

pub returns-in_err-set_first-clause-form : goal.returns-in_err-set_first-clause-form
returns-in_err-set_first-clause-form c = begun (goal.at.returns-in_err-set_first-clause-form c).After-set_first

pub set_text-requires : goal.set_text-requires
set_text-requires c =
    let (f, o, t, e) = begun (goal.at.set_text-requires c).After-set_first in (o, ap (get (codes "on")) e ∙ piece_has_on f o t)

pub returns-in_err-set_text-clause-form : goal.returns-in_err-set_text-clause-form
returns-in_err-set_text-clause-form c = spanned (goal.at.returns-in_err-set_text-clause-form c).After-set_text

pub set_last-requires-clause-form : goal.set_last-requires-clause-form
set_last-requires-clause-form c =
    let (f, o, t, e) = spanned (goal.at.set_last-requires-clause-form c).After-set_text in (t, ap (get (codes "to")) e ∙ piece_has_to f o t)

pub set_last-requires-clause-place : goal.set_last-requires-clause-place
set_last-requires-clause-place c =
    let (f, o, t, e) = spanned (goal.at.set_last-requires-clause-place c).After-set_text in subst (IsLast (codes "to")) (sym e) (piece_to_last f o t)

pub returns-clause-ok : goal.returns-clause-ok
returns-clause-ok c =
    let first = view c.set_first.new.object in
    let second = view c.set_text.new.object in
    let from = c.args.from.now in
    let on = c.args.on.now in
    let (f, o, t, e) = c.requires in
    let begun = piece_from (view c.args.piece.now) first f o t from e c.in_ok-set_first.ensures.ok in
    let spanned = piece_on first second from o t on begun c.in_ok-set_text.ensures.ok in
    on_ok_weaker c.set_last.result (λ h. piece_to second (view c.set_last.new.object) from on t c.args.to.now spanned h) c.set_last.ensures.ok

pub returns-clause-form : goal.returns-clause-form
returns-clause-form c =
    let (f, o, t, e) = spanned (goal.at.returns-clause-form c).After-set_text in
    let (w, h) = c.set_last.ensures.form in (f, o, w, piece_to (view c.set_text.new.object) (view c.set_last.new.object) f o t w e h)
