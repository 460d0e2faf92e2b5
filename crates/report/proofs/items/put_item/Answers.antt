use Rattle.std.proofs.Common.{◌≡◌, [], ◌++◌, append-nil, append_assoc, refl, sym, ◌∙◌, ap}
use Rattle.std.proofs.lemmas.Result.{on_ok_weaker, on_err_weaker}
use Rattle.rational.proofs.Lists.{on_err_anyway}
use Rattle.stl_syntax.specs.Texts.{newline}
use Rattle.stl_syntax.proofs.PrintLemmas.{three_pieces}
use Rattle.report.specs.ItemLines.{IsItemLine}
use Rattle.answer_lines.proofs.Parts.{part_in, unwritten}
use Rattle.report.proofs.ItemTexts.{truth_words, item_line, line_with, line_exists}
use Rattle.report.proofs.WritingItems.{four_pieces}
use Rattle.report.proofs.items.put_item.Goals as goal

pub returns-in_err-name-clause-err : goal.returns-in_err-name-clause-err
returns-in_err-name-clause-err c =
    let line = line_exists c.args.scale c.args.formula.now c.args.item.now c.requires.atom in
    on_err_anyway c.from_residual.result (unwritten (IsItemLine c.args.scale c.args.formula.now c.args.item.now) c.args.text.now line.0 line.1)

pub returns-in_err-push-clause-err : goal.returns-in_err-push-clause-err
returns-in_err-push-clause-err c =
    let P = IsItemLine c.args.scale c.args.formula.now c.args.item.now in
    let line = line_exists c.args.scale c.args.formula.now c.args.item.now c.requires.atom in
    part_in P c.from_residual-in_err-push.result line.0 c.args.text.now c.push.new.self [] line.0 line.1 refl
    (c.in_err-push.ensures.err ∙ sym (append-nil c.args.text.now))

pub returns-in_err-push-2-clause-err : goal.returns-in_err-push-2-clause-err
returns-in_err-push-2-clause-err c =
    let P = IsItemLine c.args.scale c.args.formula.now c.args.item.now in
    let name = c.in_ok-name.name in
    let line = line_with c.args.scale c.args.formula.now c.args.item.now name c.requires.atom c.in_ok-name.ensures in
    let words = truth_words c.args.item.now.holds in
    let named : c.push.new.self ≡ c.args.text.now ++ name = c.in_ok-push.ensures.ok ∙ ap (λ b. c.args.text.now ++ b) c.bytes.ensures in
    part_in P c.from_residual-in_err-push-2.result (name ++ words ++ line.0 ++ newline) c.args.text.now c.push-2.new.self name
    (words ++ line.0 ++ newline) line.1 (simp append_assoc)
    (c.in_err-push-2.ensures.err ∙ named)

pub returns-in_err-put_span-clause-err : goal.returns-in_err-put_span-clause-err
returns-in_err-put_span-clause-err c =
    let P = IsItemLine c.args.scale c.args.formula.now c.args.item.now in
    let name = c.in_ok-name.name in
    let words = truth_words c.args.item.now.holds in
    let own = c.requires.atom in
    let g = c.in_err-put_span.ensures.err in
    let line = item_line c.args.scale c.args.formula.now c.args.item.now own.0 name (g.0 ++ g.1) own.1 (c.in_ok-name.ensures own.0 own.1) g.2 in
    let named : c.push.new.self ≡ c.args.text.now ++ name = c.in_ok-push.ensures.ok ∙ ap (λ b. c.args.text.now ++ b) c.bytes.ensures in
    let said : c.push-2.new.self ≡ c.push.new.self ++ words = c.in_ok-push-2.ensures.ok ∙ ap (λ b. c.push.new.self ++ b) c.truth_on.ensures in
    part_in P c.from_residual-in_err-put_span.result (name ++ words ++ (g.0 ++ g.1) ++ newline) c.args.text.now c.put_span.new.text
    (name ++ words ++ g.0) (g.1 ++ newline) line (simp append_assoc)
    (three_pieces c.args.text.now _ _ _ name words g.0 named said g.3)

pub returns-clause-ok : goal.returns-clause-ok
returns-clause-ok c =
    let name = c.in_ok-name.name in
    let words = truth_words c.args.item.now.holds in
    let own = c.requires.atom in
    let g = c.in_ok-put_span.ensures.ok in
    let line = item_line c.args.scale c.args.formula.now c.args.item.now own.0 name g.0 own.1 (c.in_ok-name.ensures own.0 own.1) g.1 in
    let named : c.push.new.self ≡ c.args.text.now ++ name = c.in_ok-push.ensures.ok ∙ ap (λ b. c.args.text.now ++ b) c.bytes.ensures in
    let said : c.push-2.new.self ≡ c.push.new.self ++ words = c.in_ok-push-2.ensures.ok ∙ ap (λ b. c.push.new.self ++ b) c.truth_on.ensures in
    on_ok_weaker c.push-3.result
    (λ h. (
      name ++ words ++ g.0 ++ newline,
      line,
      four_pieces c.args.text.now name words g.0 newline named said g.2 h,
    ))
    c.push-3.ensures.ok

pub returns-clause-err : goal.returns-clause-err
returns-clause-err c =
    let name = c.in_ok-name.name in
    let words = truth_words c.args.item.now.holds in
    let own = c.requires.atom in
    let g = c.in_ok-put_span.ensures.ok in
    let line = item_line c.args.scale c.args.formula.now c.args.item.now own.0 name g.0 own.1 (c.in_ok-name.ensures own.0 own.1) g.1 in
    let named : c.push.new.self ≡ c.args.text.now ++ name = c.in_ok-push.ensures.ok ∙ ap (λ b. c.args.text.now ++ b) c.bytes.ensures in
    let said : c.push-2.new.self ≡ c.push.new.self ++ words = c.in_ok-push-2.ensures.ok ∙ ap (λ b. c.push.new.self ++ b) c.truth_on.ensures in
    on_err_weaker c.push-3.result
    (λ h. (
      name ++ words ++ g.0,
      newline,
      line,
      h ∙ three_pieces c.args.text.now _ _ _ name words g.0 named said g.2,
    ))
    c.push-3.ensures.err
