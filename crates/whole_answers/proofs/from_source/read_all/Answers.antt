use Rattle.std.proofs.Common.{◌<◌, false, length, take, refl, sym, ap, ◌∙◌, subst, arith}
use Rattle.std.specs.Prelude.{Result, MatchOption, MatchResult}
use Rattle.std.proofs.KnownBytes.{Consumes-nil}
use Rattle.io_edge.specs.Causes.{after_end}
use Rattle.whole_answers.specs.FromSource.{IsReadAs, IsStop}
use Rattle.whole_answers.specs.declared.no_answer.NoAnswer.{NoAnswer}
use Rattle.whole_answers.proofs.Progress.{few_reads, has_kept, read_in_part, read_all, read_more, go_on}
use Rattle.whole_answers.proofs.Progress.{stop_from, end_from, not_unread, end_not_unread, none_taken}
use Rattle.whole_answers.proofs.Progress.{some_taken, short_taken, prompt_piece, prompt_end, not_true, unended}
use Rattle.whole_answers.proofs.from_source.read_all.Goals as goal

pub loop-reads-init : goal.loop-reads-init
loop-reads-init g c = record {
  progress = record { bytes = _; moved = Consumes-nil (g.S.Source.left c.args.input.now); is = c.requires.empty; same_limits = refl; enough = omega arith };
  unended = refl;
  still = refl;
  size = refl;
}

pub returns-in_default-clause-read : goal.returns-in_default-clause-read
returns-in_default-clause-read g c = read_in_part c.loop-reads.invariant.progress _ _ c.in_default.ensures.bytes c.in_default.ensures.end

pub returns-in_default-clause-later : goal.returns-in_default-clause-later
returns-in_default-clause-later g c = let h = c.in_default.ensures.cause.later in let same = c.loop-reads.invariant.still in omega arith

pub returns-in_default-clause-unread : goal.returns-in_default-clause-unread
returns-in_default-clause-unread g c = λ _. let h = c.in_default.ensures.cause.failed in let same = c.loop-reads.invariant.still in omega arith

pub returns-in_default-clause-ends : goal.returns-in_default-clause-ends
returns-in_default-clause-ends g c = c.in_default.ensures.ends ∙ ap (after_end (g.S.Source.ended c.read.new.self)) c.loop-reads.invariant.unended

pub returns-then-count-eq0-clause-ends : goal.returns-then-count-eq0-clause-ends
returns-then-count-eq0-clause-ends g c = c.in-Ok.ensures.ends ∙ ap (after_end (g.S.Source.ended c.read.new.self)) c.loop-reads.invariant.unended

pub returns-in_default-clause-still : goal.returns-in_default-clause-still
returns-in_default-clause-still g c = λ other. absurd (other refl)

pub finish-requires : goal.finish-requires
finish-requires g c = has_kept c.loop-reads.invariant.progress

pub returns-in-Err-clause-ends : goal.returns-in-Err-clause-ends
returns-in-Err-clause-ends g c = c.in-Ok.ensures.ends ∙ ap (after_end (g.S.Source.ended c.read.new.self)) c.loop-reads.invariant.unended

pub returns-then-count-eq0-clause-read : goal.returns-then-count-eq0-clause-read
returns-then-count-eq0-clause-read g c =
    let p = c.loop-reads.invariant.progress in
    let size : 0 < length c.read.new.buf = let a = c.loop-reads.invariant.size in let b = c.read.auto.buf in omega arith in
    let ended = c.in-Ok.ensures.end.1 (c.if-count-eq0.true, size) in
    subst (λ (r : Result (Unit {0}) NoAnswer). MatchResult r (λ _. MatchOption c.finish.new.self.kept ⊥
    (IsReadAs g.K.Keep.stands c.args.reading.now.rows.limits c.args.formula.now (g.S.Source.left c.args.input.now)
    (g.S.Source.left c.read.new.self) (g.S.Source.ended c.read.new.self)))
    (IsStop c.args.reading.now.rows.limits c.args.formula.now (g.S.Source.left c.args.input.now) (g.S.Source.left c.read.new.self)
    (g.S.Source.ended c.read.new.self)))
    (sym c.outcome_from.ensures)
    (end_from g.K.Keep.stands (g.S.Source.left c.args.input.now) (g.S.Source.left c.read.new.self) (g.S.Source.ended c.read.new.self)
    c.finish.result c.finish.new.self.kept p.same_limits ended
    (read_all p _ _ (take c.in-Ok.count c.read.new.buf) (none_taken c.in-Ok.count c.read.new.buf c.if-count-eq0.true) c.in-Ok.ensures.bytes.0
    (c.in-Ok.ensures.bytes.1 c.if-count-eq0.true size))
    (prompt_end p (g.S.Source.ended c.read.new.self))
    (c.finish.ensures p.bytes p.is))

pub returns-then-count-eq0-clause-later : goal.returns-then-count-eq0-clause-later
returns-then-count-eq0-clause-later g c = let h = c.in-Ok.ensures.cause.later in let same = c.loop-reads.invariant.still in omega arith

pub returns-then-count-eq0-clause-still : goal.returns-then-count-eq0-clause-still
returns-then-count-eq0-clause-still g c = λ _. c.in-Ok.ensures.cause.still ∙ c.loop-reads.invariant.still

pub returns-then-count-eq0-clause-unread : goal.returns-then-count-eq0-clause-unread
returns-then-count-eq0-clause-unread g c = λ same. absurd (end_not_unread c.finish.result (sym c.outcome_from.ensures ∙ same))

pub feed-requires : goal.feed-requires
feed-requires g c = has_kept c.loop-reads.invariant.progress

pub returns-in-Err-clause-read : goal.returns-in-Err-clause-read
returns-in-Err-clause-read g c =
    let p = c.loop-reads.invariant.progress in
    let goes_on = not_true (g.S.Source.ended c.read.new.self) (λ t. c.if-count-eq0.false (c.in-Ok.ensures.end.0 t).0) in
    subst (λ (e : NoAnswer). IsStop c.args.reading.now.rows.limits c.args.formula.now (g.S.Source.left c.args.input.now) (g.S.Source.left c.read.new.self)
    (g.S.Source.ended c.read.new.self) e) (sym c.reason_from.ensures)
    (stop_from (g.S.Source.left c.args.input.now) (g.S.Source.left c.read.new.self) (g.S.Source.ended c.read.new.self) false c.in-Err.stop
    p.same_limits goes_on (c.in-Err.ensures.taken p.bytes p.is)
    (read_more p _ _ (take c.in-Ok.count c.read.new.buf) c.in-Ok.ensures.bytes.0 goes_on)
    (prompt_piece p (take c.in-Ok.count c.read.new.buf) (g.S.Source.ended c.read.new.self)
    (short_taken c.in-Ok.count c.read.new.buf (c.read.auto.buf ∙ c.loop-reads.invariant.size)) goes_on))

pub returns-in-Err-clause-later : goal.returns-in-Err-clause-later
returns-in-Err-clause-later g c = let h = c.in-Ok.ensures.cause.later in let same = c.loop-reads.invariant.still in omega arith

pub returns-in-Err-clause-still : goal.returns-in-Err-clause-still
returns-in-Err-clause-still g c = λ _. c.in-Ok.ensures.cause.still ∙ c.loop-reads.invariant.still

pub returns-in-Err-clause-unread : goal.returns-in-Err-clause-unread
returns-in-Err-clause-unread g c = λ same. absurd (not_unread c.in-Err.stop (sym c.reason_from.ensures ∙ (let k = same in cc)))

pub loop-reads-preserved : goal.loop-reads-preserved
loop-reads-preserved g c =
    let p = c.loop-reads.invariant.progress in
    record {
      progress = go_on p (g.S.Source.left c.read.new.self) (take c.in-Ok.count c.read.new.buf) c.feed.new.self.rows c.feed.new.self.kept c.in-Ok.ensures.bytes.0
          (some_taken c.in-Ok.count c.read.new.buf c.if-count-eq0.false c.in-Ok.ensures.bound.0)
          (c.in_default-feed.ensures.taken p.bytes p.is) c.in_default-feed.ensures.limits;
      unended = unended (g.S.Source.ended c.read.new.self) _ _ c.in-Ok.ensures.ends
          (not_true (g.S.Source.ended c.read.new.self) (λ t. c.if-count-eq0.false (c.in-Ok.ensures.end.0 t).0)) ∙ c.loop-reads.invariant.unended;
      still = c.in-Ok.ensures.cause.still ∙ c.loop-reads.invariant.still;
      size = c.read.auto.buf ∙ c.loop-reads.invariant.size;
    }

pub unreachable-requires : goal.unreachable-requires
unreachable-requires g c = few_reads c.loop-reads.invariant.progress c.requires.lines c.loop-reads-test.false
