use Rattle.std.proofs.Common.{sym, subst, ◌∙◌, ◌++◌, false, true}
use Rattle.std.proofs.lemmas.Result.{err_from_is_err_and}
use Rattle.answer_lines.specs.Appended.{GrewInPart, Is}
use Rattle.stl_syntax.specs.Formula.{Formula}
use Rattle.stl_syntax.specs.Texts.{newline}
use Rattle.session_mux.specs.Owning.{next_line}
use Rattle.session_mux.specs.Saying.{said_lines, HasSaid}
use Rattle.trace_stream.specs.Streams.{verdicts}
use Rattle.trace_stream.specs.Following.{IsLive, IsLiveStop}
use Rattle.session_mux.specs.Standing.{WatchesRows, HasReason, IsAfterLine}
use Rattle.session_mux.proofs.SessionLemmas.{Grows, reason_of, stopped_at, cut_short, has_grown, line_alone, line_open, line_stopped, line_faulted}
use Rattle.session_mux.proofs.session.take_with.Goals as goal

pub say_stop-requires-clause-reason : goal.say_stop-requires-clause-reason
say_stop-requires-clause-reason c =
    let (f, bytes, said, stands) = c.requires.stands in
    let live = c.args.live.now in
    subst (λ (g : Formula). HasReason g c.in-Err.stop) (sym c.in-Err.ensures.formula)
    (reason_of live.rows.limits live.formula (bytes ++ c.args.line.now)
    (said ++ c.feed.new.self.text) false c.in-Err.stop (c.in-Err.ensures.taken bytes said stands.stands))

pub returns-in_err-say-in-Ok : goal.returns-in_err-say-in-Ok
returns-in_err-say-in-Ok c = λ f o said content was recent going stands e.
    let p = err_from_is_err_and c.from_residual.result c.from_residual.ensures.1 in
    let mid = c.feed.new.self in
    let alone = line_alone f c.args.tag.now o content said going mid
    (subst (λ w. IsLive WatchesRows verdicts mid (o.bytes ++ w) said) e (c.in-Ok.ensures.taken o.bytes said stands.stands))
    (c.in-Ok.ensures.formula ∙ stands.formula) (c.in-Ok.ensures.limits ∙ stands.limits) in
    let g : Grows f o (next_line o content) said mid.text = record { was = was; is = alone } in
    rw p.1 (cut_short g c.args.tag.now c.args.out.now c.say.new.out
    (subst (λ t. GrewInPart (Is (said_lines c.args.tag.now t)) c.args.out.now c.say.new.out) c.text.ensures c.in_err-say-in-Ok.ensures))

pub returns-in_ok-say-in-Ok : goal.returns-in_ok-say-in-Ok
returns-in_ok-say-in-Ok c = λ f o said content was recent going stands e.
    let mid = c.feed.new.self in
    let k = subst (λ w. IsLive WatchesRows verdicts mid (o.bytes ++ w) said) e (c.in-Ok.ensures.taken o.bytes said stands.stands) in
    let formula = c.in-Ok.ensures.formula ∙ stands.formula in
    let limits = c.in-Ok.ensures.limits ∙ stands.limits in
    let g : Grows f o (next_line o content) said mid.text =
    record { was = was; is = line_alone f c.args.tag.now o content said going mid k formula limits } in
    has_grown g c.args.tag.now c.args.recent.now c.say.new.recent c.args.out.now c.say.new.out
    (IsAfterLine f (next_line o content).bytes true c.clear.new.self) recent
    (subst (λ t. HasSaid c.args.tag.now t c.args.recent.now c.say.new.recent c.args.out.now c.say.new.out) c.text.ensures c.in_ok-say-in-Ok.ensures)
    (line_open f c.args.tag.now o content said going mid k formula limits c.clear.new.self c.clear.ensures)

pub returns-in_err-say_stop-in-Err : goal.returns-in_err-say_stop-in-Err
returns-in_err-say_stop-in-Err c = λ f o said content was recent going stands e.
    let p = err_from_is_err_and c.from_residual-in_err-say_stop-in-Err.result c.from_residual-in_err-say_stop-in-Err.ensures.1 in
    let text = said ++ c.feed.new.self.text in
    rw p.1 (c.in_err-say_stop-in-Err.ensures f o (next_line o content) said (c.in-Err.ensures.formula ∙ stands.formula) recent was
    (line_stopped f c.args.tag.now o content said going text c.in-Err.stop
    (stopped_at f o.bytes said c.args.live.now (o.bytes ++ (content ++ newline)) text false c.in-Err.stop stands
    (subst (λ w. IsLiveStop verdicts c.args.live.now.rows.limits c.args.live.now.formula false (o.bytes ++ w) text c.in-Err.stop) e
    (c.in-Err.ensures.taken o.bytes said stands.stands)))))

pub returns-in_ok-say_stop-in-Err : goal.returns-in_ok-say_stop-in-Err
returns-in_ok-say_stop-in-Err c = λ f o said content was recent going stands e.
    let text = said ++ c.feed.new.self.text in
    line_faulted f c.args.tag.now o content said going c.say_stop.new.recent c.args.out.now c.say_stop.new.out c.feed.new.self
    (c.in_ok-say_stop-in-Err.ensures f o (next_line o content) said (c.in-Err.ensures.formula ∙ stands.formula) recent was
    (line_stopped f c.args.tag.now o content said going text c.in-Err.stop
    (stopped_at f o.bytes said c.args.live.now (o.bytes ++ (content ++ newline)) text false c.in-Err.stop stands
    (subst (λ w. IsLiveStop verdicts c.args.live.now.rows.limits c.args.live.now.formula false (o.bytes ++ w) text c.in-Err.stop) e
    (c.in-Err.ensures.taken o.bytes said stands.stands)))))
