use Rattle.std.proofs.Common.{sym}
use Rattle.rational.proofs.Lists.{empty_of_test}
use Rattle.session_mux.proofs.LineTexts.{keeping_begins, keeping_on, keeping_all}
use Rattle.session_mux.proofs.saying.keep_lines.Goals as goal

pub loop-rest-init : goal.loop-rest-init
loop-rest-init c = keeping_begins c.args.text.now c.args.recent.now c.requires

pub loop-rest-preserved : goal.loop-rest-preserved
loop-rest-preserved c =
    keeping_on c.args.text.now c.args.recent.now _ _ c.loop-rest.invariant
    c.first_line.result.0.now c.first_line.result.1.now c.first_line.ensures.line _ c.in_ok-keep.ensures

pub returns-clause-room : goal.returns-clause-room
returns-clause-room c = c.loop-rest.invariant.capacity

pub returns-clause-kept : goal.returns-clause-kept
returns-clause-kept c =
    keeping_all c.args.text.now c.args.recent.now _ _ c.loop-rest.invariant (empty_of_test c.loop-rest.rest.now (sym c.loop-rest-test.ensures))
