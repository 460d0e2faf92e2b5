use Rattle.std.proofs.Common.{sym, subst, ◌∙◌, ◌++◌}
use Rattle.std.proofs.lemmas.Result.{err_from_is_err_and}
use Rattle.answer_lines.specs.Appended.{GrewInPart, Is}
use Rattle.stl_syntax.specs.Formula.{Formula}
use Rattle.trace_stream.specs.Cases.{IsFault}
use Rattle.trace_stream.specs.declared.fault.StreamStop.{StreamStop}
use Rattle.session_mux.specs.Saying.{said_lines, HasSaid}
use Rattle.session_mux.specs.Standing.{IsStoppedAt}
use Rattle.session_mux.proofs.SessionLemmas.{stop_cut_first, stop_said}
use Rattle.session_mux.proofs.session.say_stop.Goals as goal

pub returns-in_err-say : goal.returns-in_err-say
returns-in_err-say c = λ f o p said same recent was stop.
    let q = err_from_is_err_and c.from_residual.result c.from_residual.ensures.1 in
    let text = c.args.live.now.text in
    let at = subst (λ (e : StreamStop). IsStoppedAt f p (said ++ text) e) c.in-Fault.is stop in
    rw q.1 (stop_cut_first f c.args.tag.now o p said text c.in-Fault.fault was at c.args.out.now c.say.new.out
    (subst (λ t. GrewInPart (Is (said_lines c.args.tag.now t)) c.args.out.now c.say.new.out) c.text.ensures c.in_err-say.ensures))

pub say_fault-requires-clause-room : goal.say_fault-requires-clause-room
say_fault-requires-clause-room c = c.in_ok-say.ensures.room

pub returns : goal.returns
returns c = λ f o p said same recent was stop.
    let text = c.args.live.now.text in
    let at = subst (λ (e : StreamStop). IsStoppedAt f p (said ++ text) e) c.in-Fault.is stop in
    stop_said f c.args.tag.now o p said text c.in-Fault.fault was at c.say_fault.result c.args.recent.now c.say.new.recent
    c.say_fault.new.recent c.args.out.now c.say.new.out c.say_fault.new.out recent
    (subst (λ t. HasSaid c.args.tag.now t c.args.recent.now c.say.new.recent c.args.out.now c.say.new.out) c.text.ensures c.in_ok-say.ensures)
    (c.say_fault.ensures at.0 (subst (λ (g : Formula). IsFault g c.in-Fault.fault at.0) (sym (c.formula.ensures ∙ same)) at.1))
