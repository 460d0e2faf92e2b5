use Rattle.std.proofs.Common.{ap, ◌∙◌, sym, true, length, ◌+◌, ◌∷◌, take, arith}
use Rattle.std.proofs.lemmas.List.{drop_all}
use Rattle.rational.proofs.Lists.{take_rest}
use Rattle.trace_reader.specs.TraceText.{lines}
use Rattle.trace_reader.proofs.LineLemmas.{done, lines-nil}
use Rattle.session_mux.proofs.LineTexts.{line_found, line_alone}
use Rattle.session_mux.proofs.saying.first_line.Goals as goal

pub returns-in-Some-clause-line : goal.returns-in-Some-clause-line
returns-in-Some-clause-line c =
    let text = c.args.text.now in
    let at = c.in-Some.at in
    let found = c.in-Some.ensures in
    line_found text at found.0 found.1 (omega (arith, found.0.high)) ∙ ap (λ w. done (take at text) ∷ lines true w) (sym (take_rest text (at + 1)))

pub returns-in-None-clause-line : goal.returns-in-None-clause-line
returns-in-None-clause-line c =
    let text = c.args.text.now in
    line_alone text c.requires c.in-None.ensures
    ∙ ap (λ ls. done text ∷ ls) (sym (ap (λ w. lines true w) (take_rest text (length text) ∙ drop_all (length text) text (omega arith)) ∙ lines-nil true))
