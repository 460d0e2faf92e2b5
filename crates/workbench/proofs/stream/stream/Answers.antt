use Rattle.std.proofs.Common.{◌<◌, ◌≤◌, length, take, refl, sym, ap, subst, ◌∙◌, arith}
use Rattle.std.proofs.lemmas.Result.{err_from_is_err_and}
use Rattle.io_edge.specs.Causes.{Rose, after_end}
use Rattle.std.proofs.lemmas.Bool.{false≢true}
use Rattle.std.proofs.lemmas.List.{length-take-le}
use Rattle.whole_answers.proofs.Progress.{not_true, unended, none_taken, some_taken, short_taken}
use Rattle.workbench.proofs.StreamSteps.{asks_few, pushed_so_far, end_unread, end_from, stop_from, piece_from}
use Rattle.workbench.proofs.stream.stream.Goals as goal

pub returns-in_default-clause-ends : goal.returns-in_default-clause-ends
returns-in_default-clause-ends g c = c.in_default.ensures.ends ∙ ap (after_end (g.S.Source.ended c.read.new.self)) c.loop-reads.invariant.unended

pub returns-then-count-eq0-clause-ends : goal.returns-then-count-eq0-clause-ends
returns-then-count-eq0-clause-ends g c = c.in-Ok.ensures.ends ∙ ap (after_end (g.S.Source.ended c.read.new.self)) c.loop-reads.invariant.unended

pub returns-in_err-push-clause-ends : goal.returns-in_err-push-clause-ends
returns-in_err-push-clause-ends g c = c.in-Ok.ensures.ends ∙ ap (after_end (g.S.Source.ended c.read.new.self)) c.loop-reads.invariant.unended

pub returns-in_default-clause-same : goal.returns-in_default-clause-same
returns-in_default-clause-same g c = c.loop-reads.invariant.same

pub returns-then-count-eq0-clause-same : goal.returns-then-count-eq0-clause-same
returns-then-count-eq0-clause-same g c = c.end.ensures.same ∙ c.loop-reads.invariant.same

pub returns-in_err-push-clause-same : goal.returns-in_err-push-clause-same
returns-in_err-push-clause-same g c = c.in_err-push.ensures.same ∙ c.loop-reads.invariant.same

pub returns-in_default-clause-input_later : goal.returns-in_default-clause-input_later
returns-in_default-clause-input_later g c =
    subst (λ n. n ≤ g.S.Source.faults c.read.new.self) c.loop-reads.invariant.still c.in_default.ensures.cause.later

pub returns-in_default-clause-out_later : goal.returns-in_default-clause-out_later
returns-in_default-clause-out_later g c = let calm = c.loop-reads.invariant.calm in omega (arith, calm)

pub returns-then-count-eq0-clause-input_later : goal.returns-then-count-eq0-clause-input_later
returns-then-count-eq0-clause-input_later g c =
    subst (λ n. n ≤ g.S.Source.faults c.read.new.self) c.loop-reads.invariant.still c.in-Ok.ensures.cause.later

pub returns-in_err-push-clause-input_later : goal.returns-in_err-push-clause-input_later
returns-in_err-push-clause-input_later g c =
    subst (λ n. n ≤ g.S.Source.faults c.read.new.self) c.loop-reads.invariant.still c.in-Ok.ensures.cause.later

pub returns-then-count-eq0-clause-out_later : goal.returns-then-count-eq0-clause-out_later
returns-then-count-eq0-clause-out_later g c =
    subst (λ n. n ≤ g.K.Sink.faults c.end.new.out) c.loop-reads.invariant.calm c.end.ensures.later

pub returns-in_err-push-clause-out_later : goal.returns-in_err-push-clause-out_later
returns-in_err-push-clause-out_later g c =
    subst (λ n. n ≤ g.K.Sink.faults c.push.new.out) c.loop-reads.invariant.calm c.in_err-push.ensures.later

pub returns-in_default-clause-ending : goal.returns-in_default-clause-ending
returns-in_default-clause-ending g c =
    end_unread c.loop-reads.invariant.pushing (g.P.Push.done c.loop-reads.pusher) _ _ refl refl refl c.in_default.ensures.bytes c.in_default.ensures.end
    (subst (λ n. Rose n (g.S.Source.faults c.read.new.self)) c.loop-reads.invariant.still c.in_default.ensures.cause.failed) c.in_default.ensures.gave
    (asks_few _ _ _ _ c.loop-reads.invariant.asked (c.read.auto.buf ∙ c.loop-reads.invariant.size) c.in_default.ensures.asked)

pub returns-then-count-eq0-clause-ending : goal.returns-then-count-eq0-clause-ending
returns-then-count-eq0-clause-ending g c =
    let p = c.loop-reads.invariant.pushing in
    let size : 0 < length c.read.new.buf = let a = c.loop-reads.invariant.size in let b = c.read.auto.buf in omega arith in
    end_from p (g.P.Push.done c.end.new.self) (g.P.Push.request c.loop-reads.pusher) c.loop-reads.invariant.same _ _
    (take c.in-Ok.count c.read.new.buf) c.end.result
    (record {
      source = refl;
      sink = refl;
      moved = c.in-Ok.ensures.bytes.0;
      same = c.in-Ok.ensures.end.1 (c.if-count-eq0.true, size);
      at_end = λ _. (none_taken c.in-Ok.count c.read.new.buf c.if-count-eq0.true, c.in-Ok.ensures.bytes.1 c.if-count-eq0.true size);
      small = short_taken c.in-Ok.count c.read.new.buf (c.read.auto.buf ∙ c.loop-reads.invariant.size);
      gave = c.in-Ok.ensures.gave ∙ sym (length-take-le c.in-Ok.count c.read.new.buf c.in-Ok.ensures.bound.0);
      within = asks_few _ _ _ _ c.loop-reads.invariant.asked (c.read.auto.buf ∙ c.loop-reads.invariant.size) c.in-Ok.ensures.asked;
    })
    (λ e. subst (λ n. Rose n (g.K.Sink.faults c.end.new.out)) c.loop-reads.invariant.calm (c.end.ensures.cause e))
    (c.end.ensures.ended p.bytes p.text (pushed_so_far p (g.P.Push.request c.loop-reads.pusher) c.loop-reads.invariant.same))

pub returns-in_err-push-clause-ending : goal.returns-in_err-push-clause-ending
returns-in_err-push-clause-ending g c =
    let p = c.loop-reads.invariant.pushing in
    let e = err_from_is_err_and c.from_residual.result c.from_residual.ensures.1 in
    let goes_on = not_true (g.S.Source.ended c.read.new.self) (λ t. c.if-count-eq0.false (c.in-Ok.ensures.end.0 t).0) in
    rw (e.1, e.2) (stop_from p (g.P.Push.done c.push.new.self) (g.P.Push.request c.loop-reads.pusher) c.loop-reads.invariant.same _ _
    (take c.in-Ok.count c.read.new.buf) c.in_err-push.field-0.0
    (record {
      source = refl;
      sink = refl;
      moved = c.in-Ok.ensures.bytes.0;
      same = goes_on;
      at_end = λ t. absurd (false≢true t);
      small = short_taken c.in-Ok.count c.read.new.buf (c.read.auto.buf ∙ c.loop-reads.invariant.size);
      gave = c.in-Ok.ensures.gave ∙ sym (length-take-le c.in-Ok.count c.read.new.buf c.in-Ok.ensures.bound.0);
      within = asks_few _ _ _ _ c.loop-reads.invariant.asked (c.read.auto.buf ∙ c.loop-reads.invariant.size) c.in-Ok.ensures.asked;
    })
    (λ k. subst (λ n. Rose n (g.K.Sink.faults c.push.new.out)) c.loop-reads.invariant.calm (c.in_err-push.ensures.cause (let h = k in cc)))
    (c.in_err-push.ensures.pushed p.bytes p.text (pushed_so_far p (g.P.Push.request c.loop-reads.pusher) c.loop-reads.invariant.same)))

pub loop-reads-preserved : goal.loop-reads-preserved
loop-reads-preserved g c =
    let p = c.loop-reads.invariant.pushing in
    record {
      pushing = piece_from p (g.P.Push.request c.loop-reads.pusher) c.loop-reads.invariant.same (g.P.Push.stands c.push.new.self)
          (g.S.Source.left c.read.new.self) (g.K.Sink.written c.push.new.out)
          (take c.in-Ok.count c.read.new.buf) c.in-Ok.ensures.bytes.0 (some_taken c.in-Ok.count c.read.new.buf c.if-count-eq0.false c.in-Ok.ensures.bound.0)
          (c.in_ok-push.ensures.pushed p.bytes p.text (pushed_so_far p (g.P.Push.request c.loop-reads.pusher) c.loop-reads.invariant.same));
      same = c.in_ok-push.ensures.same ∙ c.loop-reads.invariant.same;
      unended = unended (g.S.Source.ended c.read.new.self) _ _ c.in-Ok.ensures.ends
          (not_true (g.S.Source.ended c.read.new.self) (λ t. c.if-count-eq0.false (c.in-Ok.ensures.end.0 t).0)) ∙ c.loop-reads.invariant.unended;
      still = c.in-Ok.ensures.cause.still ∙ c.loop-reads.invariant.still;
      calm = c.in_ok-push.ensures.still (λ e. let k = e in cc) ∙ c.loop-reads.invariant.calm;
      asked = asks_few _ _ _ _ c.loop-reads.invariant.asked (c.read.auto.buf ∙ c.loop-reads.invariant.size) c.in-Ok.ensures.asked;
      size = c.read.auto.buf ∙ c.loop-reads.invariant.size;
    }
