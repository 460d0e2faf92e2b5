use Rattle.std.proofs.Common.{◌≡◌, ℕ, ◌+◌, ◌++◌, ◌∷◌, [], List, take, drop, sym, ap, subst, ◌∙◌, append_assoc, add-one, Some}
use Rattle.std.specs.Prelude.{codes, slice_get}
use Rattle.std.proofs.lemmas.List.{append-nil, take-append-drop}
use Rattle.std.proofs.lemmas.Grind.{flat_map-append}
use Rattle.rational.proofs.Lists.{take_on, drop_on, on_err_anyway}
use Rattle.answer_lines.specs.Appended.{GrewInPart, Is}
use Rattle.stl_syntax.specs.Texts.{newline}
use Rattle.session_mux.specs.Saying.{prefixed_texts}
use Rattle.session_mux.proofs.saying.show.Goals as goal

drop_one : {X : Type 0} (xs : List X) (i : ℕ) (x : X) → slice_get xs i ≡ Some x → drop i xs ≡ x ∷ drop (i + 1) xs
drop_one xs i x e = rw add-one (drop_on xs i x e)

module _ (prefix before mid : List ℕ) (all : List (List ℕ)) (i : ℕ) (line : List ℕ) (at : slice_get all i ≡ Some line)
    (so : mid ≡ before ++ prefixed_texts prefix (take i all)) where
  shown_on : (after : List ℕ) → after ≡ mid ++ (prefix ++ line ++ newline) → after ≡ before ++ prefixed_texts prefix (take (i + 1) all)
  shown_on after e =
      e ∙ ap (λ w. w ++ (prefix ++ line ++ newline)) so ∙ append_assoc before (prefixed_texts prefix (take i all)) (prefix ++ line ++ newline)
      ∙ ap (λ w. before ++ w) (ap (λ w. prefixed_texts prefix (take i all) ++ w) (sym (append-nil (prefix ++ line ++ newline)))
      ∙ sym (ap (λ ts. prefixed_texts prefix ts) (take_on all i line at) ∙ flat_map-append (λ (l : List ℕ). prefix ++ l ++ newline) (take i all) (line ∷ [])))

  shown_cut : (after : List ℕ) → GrewInPart (Is (prefix ++ line ++ newline)) mid after → GrewInPart (Is (prefixed_texts prefix all)) before after
  shown_cut after (a, b, whole, k) = (
    prefixed_texts prefix (take i all) ++ a,
    b ++ prefixed_texts prefix (drop (i + 1) all),
    append_assoc (prefixed_texts prefix (take i all)) a (b ++ prefixed_texts prefix (drop (i + 1) all))
        ∙ ap (λ w. prefixed_texts prefix (take i all) ++ w)
        (sym (append_assoc a b (prefixed_texts prefix (drop (i + 1) all))) ∙ ap (λ w. w ++ prefixed_texts prefix (drop (i + 1) all)) whole)
        ∙ sym (ap (λ ts. prefixed_texts prefix ts) (sym (take-append-drop i all) ∙ ap (λ ts. take i all ++ ts) (drop_one all i line at))
        ∙ flat_map-append (λ (l : List ℕ). prefix ++ l ++ newline) (take i all) (line ∷ drop (i + 1) all)),
    k ∙ ap (λ w. w ++ a) so ∙ append_assoc before (prefixed_texts prefix (take i all)) a,
  )

pub returns-in_err-put_line-clause-err : goal.returns-in_err-put_line-clause-err
returns-in_err-put_line-clause-err c =
    on_err_anyway _ (shown_cut (c.args.tag.now ++ codes " ? ") c.args.out.now _ c.args.recent.now.items c.loop-place.place c.bytes-in-loop-place.result.now
    (sym c.in-Some.ensures ∙ ap Some (sym c.bytes-in-loop-place.ensures)) c.loop-place.invariant c.put_line.new.out
    (subst (λ (t : List ℕ). GrewInPart (Is ((t ++ codes " ? ") ++ c.bytes-in-loop-place.result.now ++ newline)) c.loop-place.out c.put_line.new.out)
    c.bytes.ensures c.in_err-put_line.ensures.err))

pub loop-place-preserved : goal.loop-place-preserved
loop-place-preserved c =
    shown_on (c.args.tag.now ++ codes " ? ") c.args.out.now _ c.args.recent.now.items c.loop-place.place c.bytes-in-loop-place.result.now
    (sym c.in-Some.ensures ∙ ap Some (sym c.bytes-in-loop-place.ensures)) c.loop-place.invariant c.put_line.new.out
    (subst (λ (t : List ℕ). c.put_line.new.out ≡ c.loop-place.out ++ ((t ++ codes " ? ") ++ c.bytes-in-loop-place.result.now ++ newline)) c.bytes.ensures
    c.in_ok-put_line.ensures.ok)
