use Rattle.std.proofs.Common.{true, false, ◌++◌, [], Some, None, append-nil, refl, sym, ◌∙◌}
use Rattle.std.proofs.lemmas.Result.{on_ok_weaker, on_err_weaker}
use Rattle.rational.proofs.Tests.{same_of_beq}
use Rattle.report.specs.VerdictForms.{IsEntry}
use Rattle.answer_lines.proofs.Sequences.{each_one}
use Rattle.report.proofs.Entries.{entry_exists}
use Rattle.report.proofs.signal.put_turn.Goals as goal

pub returns-then-holds-truth-clause-ok : goal.returns-then-holds-truth-clause-ok
returns-then-holds-truth-clause-ok c = record {
  ended = None;
  goes = (sym c.holds.ensures ∙ same_of_beq c.holds.result c.args.truth c.if-holds-truth.true, refl);
  grew = ([], refl, sym (append-nil (c.args.text.now ++ c.args.entries.now)));
}

pub returns-then-holds-truth-clause-begins : goal.returns-then-holds-truth-clause-begins
returns-then-holds-truth-clause-begins c = ([], sym (append-nil c.args.text.now))

pub returns-clause-ok : goal.returns-clause-ok
returns-clause-ok c =
    let E = IsEntry true false c.args.scale in
    on_ok_weaker c.put.result
    (λ g. record { ended = Some c.turn-ended.result; goes = c.turn-ended.ensures; grew = (g.0, each_one E c.turn-ended.result g.0 g.1, g.2) })
    c.put.ensures.ok

pub returns-clause-err : goal.returns-clause-err
returns-clause-err c =
    let E = IsEntry true false c.args.scale in
    let entry = entry_exists true false c.args.scale c.turn-ended.result in
    let old = c.args.text.now ++ c.args.entries.now in
    on_err_weaker c.put.result
    (λ e. record {
      ended = Some c.turn-ended.result;
      new = c.turn-ended.new.self;
      goes = c.turn-ended.ensures;
      part = ([], entry.0, each_one E c.turn-ended.result entry.0 entry.1, e ∙ sym (append-nil old));
    }) c.put.ensures.err
