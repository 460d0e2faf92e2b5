-- Rows, and then a line.
use Rattle.std.proofs.Common.{◌≡◌, ℕ, ◌≤◌, ◌+◌, ◌-◌, ◌<◌, ◌++◌, false, length, take, drop, sym, ◌∙◌, subst, arith, length-drop}
use Rattle.std.proofs.lemmas.Result.{err_from_is_err_and}
use Rattle.rational.proofs.Lists.{take_rest}
use Rattle.trace_reader.specs.declared.refusal.Limits.{Limits}
use Rattle.trace_stream.specs.Following.{IsLiveOpen, IsOpenStop}
use Rattle.trace_stream.proofs.PieceParts.{fed, some_taken}
use Rattle.trace_stream.proofs.ReaderSteps.{live_fed}
use Rattle.trace_stream.proofs.OpenRows.{live_rows}
use Rattle.trace_stream.proofs.live.Live.advance.Goals as goal

pub take_rows-requires : goal.take_rows-requires
take_rows-requires g c =
    let k = c.requires.is in
    (c.args.self.now.formula, k.case, c.requires.bytes, c.requires.written ++ c.args.self.now.text, k.kept, k.followed)

pub returns-in_err-rows-clause-taken : goal.returns-in_err-rows-clause-taken
returns-in_err-rows-clause-taken g c =
    let p = err_from_is_err_and c.from_residual.result c.from_residual.ensures.1 in
    rw (p.1, p.2) (λ bytes written k.
    subst (λ s. IsOpenStop g.F.Follow.stands g.F.Follow.owes g.F.Follow.kind c.args.self.now.rows.limits c.args.self.now.formula false
    (bytes ++ c.args.piece.now) c.take_rows.new.follower (written ++ c.take_rows.new.text) s) (sym c.in_err-rows.ensures.memory) tt)

pub returns-then-rows-piece-clause-taken : goal.returns-then-rows-piece-clause-taken
returns-then-rows-piece-clause-taken g c = λ bytes written k.
    let n = c.in_ok-rows.rows in
    let live = c.args.self.now in
    live_rows g.F.Follow.stands g.F.Follow.owes g.F.Follow.kind live c.take_rows.new.rows c.take_rows.new.follower
    (bytes ++ take n c.args.piece.now) c.take_rows.new.text written k.served
    (c.in_ok-rows.ensures.taken live.formula k.case bytes (written ++ live.text) k.kept k.followed)

pub returns-then-rows-piece-clause-within : goal.returns-then-rows-piece-clause-within
returns-then-rows-piece-clause-within g c = c.in_ok-rows.ensures.within

pub returns-then-rows-piece-clause-progress : goal.returns-then-rows-piece-clause-progress
returns-then-rows-piece-clause-progress g c = λ some. let e = c.if-rows-piece.true in omega (arith, some, e)

pub returns-then-rows-piece-clause-limits : goal.returns-then-rows-piece-clause-limits
returns-then-rows-piece-clause-limits g c = c.take_rows.ensures.limits

pub step-requires : goal.step-requires
step-requires g c =
    let k = c.requires.is in
    let written = c.requires.written in
    let live = c.args.self.now in
    record {
      bytes = c.requires.bytes ++ take c.in_ok-rows.rows c.args.piece.now;
      written = written;
      is = live_rows g.F.Follow.stands g.F.Follow.owes g.F.Follow.kind live c.take_rows.new.rows c.take_rows.new.follower
          (c.requires.bytes ++ take c.in_ok-rows.rows c.args.piece.now) c.take_rows.new.text written k.served
          (c.in_ok-rows.ensures.taken live.formula k.case c.requires.bytes (written ++ live.text) k.kept k.followed);
    }

pub returns-in_err-more-clause-taken : goal.returns-in_err-more-clause-taken
returns-in_err-more-clause-taken g c =
    let p = err_from_is_err_and c.from_residual-in_err-more.result c.from_residual-in_err-more.ensures.1 in
    let n = c.in_ok-rows.rows in
    let live = c.args.self.now in
    let piece = c.args.piece.now in
    rw (p.1, p.2) (λ bytes written k.
    let on = live_rows g.F.Follow.stands g.F.Follow.owes g.F.Follow.kind live c.take_rows.new.rows c.take_rows.new.follower
    (bytes ++ take n piece) c.take_rows.new.text written k.served
    (c.in_ok-rows.ensures.taken live.formula k.case bytes (written ++ live.text) k.kept k.followed) in
    live_fed g.F.Follow.stands g.F.Follow.owes g.F.Follow.kind live.rows.limits live.formula bytes piece
    (written ++ c.step.new.self.text) n c.step.new.self.follower c.in_err-more.field-0.0
    (subst (λ (l : Limits). IsOpenStop g.F.Follow.stands g.F.Follow.owes g.F.Follow.kind l live.formula false
    ((bytes ++ take n piece) ++ drop n piece) c.step.new.self.follower (written ++ c.step.new.self.text) c.in_err-more.field-0.0)
    c.in_ok-rows.ensures.limits
    (subst (λ b. IsOpenStop g.F.Follow.stands g.F.Follow.owes g.F.Follow.kind c.take_rows.new.rows.limits live.formula false
    ((bytes ++ take n piece) ++ b) c.step.new.self.follower (written ++ c.step.new.self.text) c.in_err-more.field-0.0)
    (take_rest piece n) (c.in_err-more.ensures.taken (bytes ++ take n piece) written on))))

pub returns-in_err-rows-clause-limits : goal.returns-in_err-rows-clause-limits
returns-in_err-rows-clause-limits g c = c.take_rows.ensures.limits

pub returns-in_err-more-clause-limits : goal.returns-in_err-more-clause-limits
returns-in_err-more-clause-limits g c = c.in_err-more.ensures.limits ∙ c.in_ok-rows.ensures.limits

pub returns-clause-taken : goal.returns-clause-taken
returns-clause-taken g c = λ bytes written k.
    let n = c.in_ok-rows.rows in
    let live = c.args.self.now in
    subst (λ b. IsLiveOpen g.F.Follow.stands g.F.Follow.owes g.F.Follow.kind c.step.new.self b written) (fed bytes c.args.piece.now n c.in_ok-more.more)
    (c.in_ok-more.ensures.taken (bytes ++ take n c.args.piece.now) written
    (live_rows g.F.Follow.stands g.F.Follow.owes g.F.Follow.kind live c.take_rows.new.rows c.take_rows.new.follower
    (bytes ++ take n c.args.piece.now) c.take_rows.new.text written k.served
    (c.in_ok-rows.ensures.taken live.formula k.case bytes (written ++ live.text) k.kept k.followed)))

pub returns-clause-within : goal.returns-clause-within
returns-clause-within g c =
    let piece = c.args.piece.now in
    let n = c.in_ok-rows.rows in
    let rest = take_rest piece n in
    let within = c.in_ok-more.ensures.within in
    let bound : c.in_ok-more.more ≤ length (drop n piece) = rw rest at within in
    omega (arith, bound, length-drop n piece, c.in_ok-rows.ensures.within)

pub returns-clause-progress : goal.returns-clause-progress
returns-clause-progress g c = λ some.
    let piece = c.args.piece.now in
    let n = c.in_ok-rows.rows in
    let rest = take_rest piece n in
    let progress = c.in_ok-more.ensures.progress in
    let on = rw rest at progress in
    some_taken n c.in_ok-more.more (length (drop n piece)) (length piece) some (length-drop n piece) on

pub returns-clause-limits : goal.returns-clause-limits
returns-clause-limits g c = c.in_ok-more.ensures.limits ∙ c.in_ok-rows.ensures.limits
