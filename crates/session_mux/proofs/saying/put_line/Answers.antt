use Rattle.std.proofs.Common.{◌≡◌, ℕ, List, ◌++◌, append_assoc, ap, sym, ◌∙◌, refl}
use Rattle.rational.proofs.Lists.{on_err_anyway}
use Rattle.answer_lines.specs.Appended.{GrewInPart, Is}
use Rattle.stl_syntax.specs.Texts.{newline}
use Rattle.session_mux.proofs.saying.put_line.Goals as goal

-- the tag, or the tag and the mark
after_tag : (old mid new tag mark line : List ℕ) → mid ≡ old ++ tag → new ≡ mid → GrewInPart (Is (tag ++ mark ++ line ++ newline)) old new
after_tag old mid new tag mark line e k = (
  tag,
  mark ++ line ++ newline,
  sym (append_assoc tag (mark ++ line) newline ∙ ap (λ w. w) refl) ∙ ap (λ w. w ++ newline) (sym (append_assoc tag mark line)),
  k ∙ e,
)

after_mark : (old mid next new tag mark line : List ℕ) → mid ≡ old ++ tag → next ≡ mid ++ mark → new ≡ next
    → GrewInPart (Is (tag ++ mark ++ line ++ newline)) old new
after_mark old mid next new tag mark line e f k =
    (tag ++ mark, line ++ newline, sym (append_assoc (tag ++ mark) line newline), k ∙ f ∙ ap (λ w. w ++ mark) e ∙ append_assoc old tag mark)

pub returns-in_err-push-2-clause-err : goal.returns-in_err-push-2-clause-err
returns-in_err-push-2-clause-err c =
    on_err_anyway _ (after_tag c.args.out.now _ _ c.args.tag.now c.args.mark.now c.args.line.now c.in_ok-push.ensures.ok c.in_err-push-2.ensures.err)

pub returns-in_err-push-3-clause-err : goal.returns-in_err-push-3-clause-err
returns-in_err-push-3-clause-err c =
    on_err_anyway _ (after_mark c.args.out.now _ _ _ c.args.tag.now c.args.mark.now c.args.line.now c.in_ok-push.ensures.ok
    c.in_ok-push-2.ensures.ok c.in_err-push-3.ensures.err)
