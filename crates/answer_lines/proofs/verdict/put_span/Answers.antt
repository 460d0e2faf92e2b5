use Rattle.std.proofs.Common.{◌≡◌, ℕ, List, [], ◌++◌, codes, append-nil, append_assoc, refl, sym, ap, ◌∙◌, subst}
use Rattle.std.proofs.lemmas.Result.{on_ok_weaker, on_err_weaker}
use Rattle.frac128.specs.Value.{value}
use Rattle.stl_syntax.specs.Texts.{IsSpanText, fraction_text}
use Rattle.answer_lines.specs.Numbers.{signed}
use Rattle.answer_lines.specs.declared.number.Lowest.{Lowest}
use Rattle.answer_lines.proofs.Growths.{front_then}
use Rattle.answer_lines.proofs.Parts.{part_in, part_inside}
use Rattle.answer_lines.proofs.Spans.{before, after, number_text, span_text}
use Rattle.answer_lines.proofs.verdict.put_span.Goals as goal
use Rattle.answer_lines.proofs.verdict.put_span.Goals.{After-in_units-to, In_ok-push, In_ok-put_fraction, In_ok-push-2, In_ok-put_fraction-2}

abbrev text_of : Lowest → List ℕ
text_of n = fraction_text (signed n.negative n.size) n.den

-- the whole text of the span
whole : (c : After-in_units-to) → IsSpanText c.args.scale c.args.on.now
    (before c.args.on.now.from_in ++ text_of c.in_units-from.result ++ codes "," ++ text_of c.in_units-to.result ++ after c.args.on.now.to_in)
whole c =
    span_text c.args.scale c.args.on.now _ _
    (number_text c.args.scale.time (value c.args.on.now.from) _ _ _ c.in_units-from.ensures)
    (number_text c.args.scale.time (value c.args.on.now.to) _ _ _ c.in_units-to.ensures)

after_two : (a b c d e : List ℕ) → a ++ b ++ c ++ d ++ e ≡ a ++ b ++ (c ++ d ++ e)
after_two a b c d e = simp append_assoc

-- what is written by then: the bracket, the first number, the comma, the second number
opened : (c : In_ok-push) → c.push.new.self ≡ c.args.text.now ++ before c.args.on.now.from_in
opened c = c.in_ok-push.ensures.ok ∙ ap (λ b. c.args.text.now ++ b) c.opening.ensures

one_told : (c : In_ok-put_fraction) → c.push.new.self ≡ c.args.text.now ++ before c.args.on.now.from_in
    → c.put_fraction.new.text ≡ c.args.text.now ++ (before c.args.on.now.from_in ++ text_of c.in_units-from.result)
one_told c e = front_then c.args.text.now c.push.new.self _ _ _ e c.in_ok-put_fraction.ensures.ok

parted : (c : In_ok-push-2)
    → c.put_fraction.new.text ≡ c.args.text.now ++ (before c.args.on.now.from_in ++ text_of c.in_units-from.result)
    → c.push-2.new.self ≡ c.args.text.now ++ (before c.args.on.now.from_in ++ text_of c.in_units-from.result ++ codes ",")
parted c e = front_then c.args.text.now c.put_fraction.new.text _ _ _ e c.in_ok-push-2.ensures.ok

both_told : (c : In_ok-put_fraction-2)
    → c.push-2.new.self ≡ c.args.text.now ++ (before c.args.on.now.from_in ++ text_of c.in_units-from.result ++ codes ",")
    → c.put_fraction-2.new.text
    ≡ c.args.text.now ++ (before c.args.on.now.from_in ++ text_of c.in_units-from.result ++ codes "," ++ text_of c.in_units-to.result)
both_told c e = front_then c.args.text.now c.push-2.new.self _ _ _ e c.in_ok-put_fraction-2.ensures.ok

pub returns-in_err-push-clause-err : goal.returns-in_err-push-clause-err
returns-in_err-push-clause-err c =
    part_in (IsSpanText c.args.scale c.args.on.now) _ _ _ _ [] _
    (whole (goal.at.returns-in_err-push-clause-err c).After-in_units-to) refl (c.in_err-push.ensures.err ∙ sym (append-nil c.args.text.now))

pub returns-in_err-put_fraction-clause-err : goal.returns-in_err-put_fraction-clause-err
returns-in_err-put_fraction-clause-err c =
    let at = goal.at.returns-in_err-put_fraction-clause-err c in
    let span = c.args.on.now in
    let P = IsSpanText c.args.scale span in
    part_inside P _ (before span.from_in) (text_of c.in_units-from.result)
    (codes "," ++ text_of c.in_units-to.result ++ after span.to_in) c.args.text.now c.push.new.self _
    (subst P (after_two (before span.from_in) (text_of c.in_units-from.result) (codes ",") (text_of c.in_units-to.result) (after span.to_in))
    (whole at.After-in_units-to))
    (opened at.In_ok-push) c.in_err-put_fraction.ensures.err

pub returns-in_err-push-2-clause-err : goal.returns-in_err-push-2-clause-err
returns-in_err-push-2-clause-err c =
    let at = goal.at.returns-in_err-push-2-clause-err c in
    let span = c.args.on.now in
    let P = IsSpanText c.args.scale span in
    part_in P _ _ _ _ (before span.from_in ++ text_of c.in_units-from.result) (codes "," ++ text_of c.in_units-to.result ++ after span.to_in)
    (whole at.After-in_units-to)
    (sym (after_two (before span.from_in) (text_of c.in_units-from.result) (codes ",") (text_of c.in_units-to.result) (after span.to_in)))
    (c.in_err-push-2.ensures.err ∙ one_told at.In_ok-put_fraction (opened at.In_ok-push))

pub returns-in_err-put_fraction-2-clause-err : goal.returns-in_err-put_fraction-2-clause-err
returns-in_err-put_fraction-2-clause-err c =
    let at = goal.at.returns-in_err-put_fraction-2-clause-err c in
    let span = c.args.on.now in
    let P = IsSpanText c.args.scale span in
    part_inside P _ (before span.from_in ++ text_of c.in_units-from.result ++ codes ",") (text_of c.in_units-to.result)
    (after span.to_in) c.args.text.now c.push-2.new.self _
    (whole at.After-in_units-to)
    (parted at.In_ok-push-2 (one_told at.In_ok-put_fraction (opened at.In_ok-push))) c.in_err-put_fraction-2.ensures.err

pub returns-clause-ok : goal.returns-clause-ok
returns-clause-ok c =
    let at = goal.at.returns-clause-ok c in
    let told = both_told at.In_ok-put_fraction-2 (parted at.In_ok-push-2 (one_told at.In_ok-put_fraction (opened at.In_ok-push))) in
    on_ok_weaker c.push-3.result
    (λ h. (
      _,
      whole at.After-in_units-to,
      front_then c.args.text.now c.put_fraction-2.new.text _ _ _ told (h ∙ ap (λ b. c.put_fraction-2.new.text ++ b) c.closing.ensures),
    )) c.push-3.ensures.ok

pub returns-clause-err : goal.returns-clause-err
returns-clause-err c =
    let at = goal.at.returns-clause-err c in
    let span = c.args.on.now in
    let told = both_told at.In_ok-put_fraction-2 (parted at.In_ok-push-2 (one_told at.In_ok-put_fraction (opened at.In_ok-push))) in
    on_err_weaker c.push-3.result (λ h. (
      before span.from_in ++ text_of c.in_units-from.result ++ codes "," ++ text_of c.in_units-to.result,
      after span.to_in,
      whole at.After-in_units-to,
      h ∙ told,
    )) c.push-3.ensures.err
