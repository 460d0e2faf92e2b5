use Rattle.std.proofs.Common.{sym, subst, ◌∙◌, ◌++◌, true}
use Rattle.std.specs.Prelude.{MatchResult}
use Rattle.answer_lines.specs.Appended.{GrewInPart, Is}
use Rattle.stl_syntax.specs.Formula.{Formula}
use Rattle.session_mux.specs.Owning.{stopped_now}
use Rattle.session_mux.specs.Saying.{said_lines, HasSaid}
use Rattle.session_mux.specs.Standing.{HasReason}
use Rattle.session_mux.proofs.SessionLemmas.{Grows, reason_of, alone_at_end, said_text, stopped_at, either_way, unasked}
use Rattle.session_mux.proofs.session.end_with.Goals as goal

pub say_stop-requires-clause-reason : goal.say_stop-requires-clause-reason
say_stop-requires-clause-reason c =
    let (f, bytes, said, stands) = c.requires.stands in
    let live = c.args.live.now in
    subst (λ (g : Formula). HasReason g c.in-Err.stop) (sym c.in-Err.ensures.formula)
    (reason_of live.rows.limits live.formula bytes (said ++ c.finish.new.self.text) true c.in-Err.stop (c.in-Err.ensures.over bytes said stands.stands))

pub returns-in-Ok : goal.returns-in-Ok
returns-in-Ok c = λ f o said was recent stands.
    let new = c.finish.new.self in
    let alone = alone_at_end f o.bytes said c.args.live.now new c.in-Ok.field-0 stands (c.in-Ok.ensures.over o.bytes said stands.stands) in
    let g : Grows f o (stopped_now o) said new.text = record { was = was; is = alone } in
    said_text c.say.result g c.args.tag.now c.args.recent.now c.say.new.recent c.args.out.now c.say.new.out (λ _. Unit {0}) recent tt
    (subst (λ t. MatchResult c.say.result (λ _. HasSaid c.args.tag.now t c.args.recent.now c.say.new.recent c.args.out.now c.say.new.out)
    (λ _. GrewInPart (Is (said_lines c.args.tag.now t)) c.args.out.now c.say.new.out)) c.text.ensures c.say.ensures)

pub returns-in-Err : goal.returns-in-Err
returns-in-Err c = λ f o said was recent stands.
    let new = c.finish.new.self in
    either_way c.say_stop.result (unasked f c.args.tag.now (stopped_now o) said c.say_stop.new.recent c.args.out.now c.say_stop.new.out _) (λ cut. cut)
    (c.say_stop.ensures f o (stopped_now o) said (c.in-Err.ensures.formula ∙ stands.formula) recent was
    (stopped_at f o.bytes said c.args.live.now o.bytes (said ++ new.text) true c.in-Err.stop stands (c.in-Err.ensures.over o.bytes said stands.stands)))
