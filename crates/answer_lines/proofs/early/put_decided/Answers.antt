use Rattle.std.proofs.Common.{◌≡◌, ℕ, List, [], ◌++◌, codes, append-nil, append_assoc, pos, refl, sym, ◌∙◌}
use Rattle.std.proofs.lemmas.Result.{on_ok_weaker, on_err_weaker}
use Rattle.rational.specs.Time.{whole}
use Rattle.frac128.specs.Value.{value}
use Rattle.stl_syntax.specs.Texts.{IsNumberText, fraction_text, newline}
use Rattle.answer_lines.specs.EarlyLines.{IsDecidedLine}
use Rattle.answer_lines.specs.Numbers.{signed}
use Rattle.answer_lines.specs.declared.number.Lowest.{Lowest}
use Rattle.answer_lines.proofs.Growths.{front_then}
use Rattle.answer_lines.proofs.Parts.{part_in, part_inside}
use Rattle.answer_lines.proofs.Spans.{number_text}
use Rattle.answer_lines.proofs.early.put_decided.Goals as goal
use Rattle.answer_lines.proofs.early.put_decided.Goals.{After-in_units-time, In_ok-put_fraction}
use Rattle.answer_lines.proofs.KeptTexts.{number_of_same}

abbrev text_of : Lowest → List ℕ
text_of n = fraction_text (signed n.negative n.size) n.den

-- the text of the time
timed : (c : After-in_units-time) → IsNumberText c.args.scale.time (whole (pos c.args.at)) (text_of c.in_units-time.result)
timed c = number_of_same c.args.scale.time (value c.tick_time.result) (whole (pos c.args.at)) _ c.tick_time.ensures
    (number_text c.args.scale.time (value c.tick_time.result) _ _ _ c.in_units-time.ensures)

-- the whole line
whole_line : (c : After-in_units-time) → IsDecidedLine c.args.scale c.args.at (codes "decided at " ++ text_of c.in_units-time.result ++ newline)
whole_line c = (text_of c.in_units-time.result, timed c, refl)

-- what is written once the time is
told : (c : In_ok-put_fraction) → c.put_fraction.new.text ≡ c.args.text.now ++ (codes "decided at " ++ text_of c.in_units-time.result)
told c = front_then c.args.text.now c.push.new.self _ _ _ c.in_ok-push.ensures.ok c.in_ok-put_fraction.ensures.ok

pub returns-in_err-push-clause-err : goal.returns-in_err-push-clause-err
returns-in_err-push-clause-err c =
    part_in (IsDecidedLine c.args.scale c.args.at) _ _ _ _ [] _ (whole_line (goal.at.returns-in_err-push-clause-err c).After-in_units-time) refl
    (c.in_err-push.ensures.err ∙ sym (append-nil c.args.text.now))

pub returns-in_err-put_fraction-clause-err : goal.returns-in_err-put_fraction-clause-err
returns-in_err-put_fraction-clause-err c =
    part_inside (IsDecidedLine c.args.scale c.args.at) _ (codes "decided at ") (text_of c.in_units-time.result) newline c.args.text.now c.push.new.self _
    (whole_line (goal.at.returns-in_err-put_fraction-clause-err c).After-in_units-time) c.in_ok-push.ensures.ok c.in_err-put_fraction.ensures.err

pub returns-clause-ok : goal.returns-clause-ok
returns-clause-ok c =
    on_ok_weaker c.push-2.result
    (λ h. (
      _,
      whole_line (goal.at.returns-clause-ok c).After-in_units-time,
      front_then c.args.text.now c.put_fraction.new.text _ _ _ (told (goal.at.returns-clause-ok c).In_ok-put_fraction) h,
    )) c.push-2.ensures.ok

pub returns-clause-err : goal.returns-clause-err
returns-clause-err c =
    on_err_weaker c.push-2.result
    (λ h. (
      codes "decided at " ++ text_of c.in_units-time.result,
      newline,
      (
        text_of c.in_units-time.result,
        timed (goal.at.returns-clause-err c).After-in_units-time,
        append_assoc (codes "decided at ") (text_of c.in_units-time.result) newline,
      ),
      h ∙ told (goal.at.returns-clause-err c).In_ok-put_fraction,
    )) c.push-2.ensures.err
