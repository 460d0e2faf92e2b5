use Rattle.std.proofs.Common.{◌≡◌, ◌++◌, ℕ, List, ap, ◌∙◌}
use Rattle.std.proofs.lemmas.Result.{on_ok_weaker, on_err_weaker}
use Rattle.rational.proofs.Lists.{on_err_anyway}
use Rattle.answer_lines.specs.Appended.{Then, Is}
use Rattle.answer_lines.specs.Lines.{line_text, number_text, detail_text}
use Rattle.answer_lines.specs.declared.line.Line.{Line}
use Rattle.answer_lines.proofs.Growths as growth
use Rattle.answer_lines.proofs.Growths.{grew_is, grew_then, part_as, part_none, part_then, some_then}
use Rattle.answer_lines.proofs.Growths.{word_exists}
use Rattle.answer_lines.proofs.line.put_line.Goals as goal

-- the parts, from the last on
abbrev Last : Line → List ℕ → Type 0
Last l = Then (Is (detail_text l.detail)) (Is l.tail.now)

abbrev Later : Line → List ℕ → Type 0
Later l = Then (Is l.middle.now) (Last l)

abbrev Rest : Line → List ℕ → Type 0
Rest l = Then (Is (number_text l.number)) (Later l)

abbrev All : Line → List ℕ → Type 0
All l = Then (Is l.head.now) (Rest l)

last : (l : Line) → growth.Some (Last l)
last l = some_then (Is (detail_text l.detail)) (Is l.tail.now) (word_exists (detail_text l.detail)) (word_exists l.tail.now)

later : (l : Line) → growth.Some (Later l)
later l = some_then (Is l.middle.now) (Last l) (word_exists l.middle.now) (last l)

rest : (l : Line) → growth.Some (Rest l)
rest l = some_then (Is (number_text l.number)) (Later l) (word_exists (number_text l.number)) (later l)

-- they are the line
whole : (l : Line) (text : List ℕ) → All l text → text ≡ line_text l
whole l text (a, r, is_a, (b, s, is_b, (m, t, is_m, (d, e, is_d, is_e, h4), h3), h2), h1) =
    let n = number_text l.number in
    let detail = detail_text l.detail in
    h1 ∙ ap (λ w. w ++ r) is_a
    ∙ ap (λ w. l.head.now ++ w) (h2 ∙ ap (λ w. w ++ s) is_b
    ∙ ap (λ w. n ++ w) (h3 ∙ ap (λ w. w ++ t) is_m ∙ ap (λ w. l.middle.now ++ w) (h4 ∙ ap (λ w. w ++ e) is_d ∙ ap (λ w. detail ++ w) is_e)))

pub returns-in_err-push-clause-err : goal.returns-in_err-push-clause-err
returns-in_err-push-clause-err c =
    on_err_anyway _ (part_none (Is (line_text c.args.line.now)) c.args.text.now _ (word_exists (line_text c.args.line.now)) c.in_err-push.ensures.err)

pub returns-in_err-put_number-clause-err : goal.returns-in_err-put_number-clause-err
returns-in_err-put_number-clause-err c =
    let l = c.args.line.now in
    on_err_anyway _ (part_as (All l) (Is (line_text l)) c.args.text.now _ (whole l)
    (part_then (Is l.head.now) (Rest l) c.args.text.now _ _ (grew_is l.head.now _ _ c.in_ok-push.ensures.ok)
    (part_none (Rest l) _ _ (rest l) c.in_err-put_number.ensures.err)))

pub returns-in_err-push-2-clause-err : goal.returns-in_err-push-2-clause-err
returns-in_err-push-2-clause-err c =
    let l = c.args.line.now in
    on_err_anyway _ (part_as (All l) (Is (line_text l)) c.args.text.now _ (whole l)
    (part_then (Is l.head.now) (Rest l) c.args.text.now _ _ (grew_is l.head.now _ _ c.in_ok-push.ensures.ok)
    (part_then (Is (number_text l.number)) (Later l) _ _ _ (grew_is (number_text l.number) _ _ c.in_ok-put_number.ensures.ok)
    (part_none (Later l) _ _ (later l) c.in_err-push-2.ensures.err))))

pub returns-in_err-put_detail-clause-err : goal.returns-in_err-put_detail-clause-err
returns-in_err-put_detail-clause-err c =
    let l = c.args.line.now in
    on_err_anyway _ (part_as (All l) (Is (line_text l)) c.args.text.now _ (whole l)
    (part_then (Is l.head.now) (Rest l) c.args.text.now _ _ (grew_is l.head.now _ _ c.in_ok-push.ensures.ok)
    (part_then (Is (number_text l.number)) (Later l) _ _ _ (grew_is (number_text l.number) _ _ c.in_ok-put_number.ensures.ok)
    (part_then (Is l.middle.now) (Last l) _ _ _ (grew_is l.middle.now _ _ c.in_ok-push-2.ensures.ok)
    (part_none (Last l) _ _ (last l) c.in_err-put_detail.ensures.err)))))

pub returns-clause-ok : goal.returns-clause-ok
returns-clause-ok c =
    let l = c.args.line.now in
    let old = c.args.text.now in
    on_ok_weaker c.push-3.result
    (λ e.
    let (w, all, g) = grew_then (Is l.head.now) (Rest l) old _ c.push-3.new.self (grew_is l.head.now _ _ c.in_ok-push.ensures.ok)
    (grew_then (Is (number_text l.number)) (Later l) _ _ _ (grew_is (number_text l.number) _ _ c.in_ok-put_number.ensures.ok)
    (grew_then (Is l.middle.now) (Last l) _ _ _ (grew_is l.middle.now _ _ c.in_ok-push-2.ensures.ok)
    (grew_then (Is (detail_text l.detail)) (Is l.tail.now) _ _ _ (grew_is (detail_text l.detail) _ _ c.in_ok-put_detail.ensures.ok)
    (grew_is l.tail.now _ _ e)))) in
    g ∙ ap (λ t. old ++ t) (whole l w all)) c.push-3.ensures.ok

pub returns-clause-err : goal.returns-clause-err
returns-clause-err c =
    let l = c.args.line.now in
    on_err_weaker c.push-3.result
    (λ e. part_as (All l) (Is (line_text l)) c.args.text.now _ (whole l)
    (part_then (Is l.head.now) (Rest l) c.args.text.now _ _ (grew_is l.head.now _ _ c.in_ok-push.ensures.ok)
    (part_then (Is (number_text l.number)) (Later l) _ _ _ (grew_is (number_text l.number) _ _ c.in_ok-put_number.ensures.ok)
    (part_then (Is l.middle.now) (Last l) _ _ _ (grew_is l.middle.now _ _ c.in_ok-push-2.ensures.ok)
    (part_then (Is (detail_text l.detail)) (Is l.tail.now) _ _ _ (grew_is (detail_text l.detail) _ _ c.in_ok-put_detail.ensures.ok)
    (part_none (Is l.tail.now) _ _ (word_exists l.tail.now) e)))))) c.push-3.ensures.err
