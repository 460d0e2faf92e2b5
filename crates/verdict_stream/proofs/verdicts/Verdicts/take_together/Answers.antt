use Rattle.std.proofs.Common.{inl, None, List, ◌++◌, drop, refl, sym, ap, ◌∙◌, subst, arith}
use Rattle.stl_syntax.specs.Trace.{Row, Trace}
use Rattle.trace_stream.specs.Kept.{with_rows}
use Rattle.verdict_stream.specs.Watching.{IsLastAt, last_alone}
use Rattle.verdict_stream.specs.declared.quiet.Quiet.{Quiet}
use Rattle.verdict_stream.specs.declared.verdicts.Verdicts.{Verdicts}
use Rattle.verdict_stream.proofs.Blocks.{first_is_last, rest_is, kept_on}
use Rattle.verdict_stream.proofs.FollowedCases.{IsOpened, knows_none, keeps_made, keeps_open, behind_of, together_of}
use Rattle.verdict_stream.proofs.verdicts.Verdicts.take_together.Goals as goal

pub returns-then-self-gt0 : goal.returns-then-self-gt0
returns-then-self-gt0 c = λ case made more h k.
    let v = c.args.self.now in
    let g = c.in_ok-catch_up.ensures case made more (behind_of v case made more h (omega (arith, c.if-self-gt0.true))) in
    let w = c.catch_up.new.self in
    let after : Verdicts = record w { quiet = record w.quiet { told = None } } in (
      g.grown,
      g.is,
      inl (keeps_made after (with_rows more case) (made ++ g.grown)
          (knows_none v.quiet after.quiet case (with_rows more case) k refl (ap (λ (q : Quiet). q.reach) g.quiet) refl)
          (ap (λ (q : Quiet). q.rows) g.quiet, ap (λ (q : Quiet). q.bytes) g.quiet) g.watched g.last),
    )

pub take_block-requires-clause-open : goal.take_block-requires-clause-open
take_block-requires-clause-open c =
    let (case, made, more, h, k) = c.requires in
    let v = c.args.self.now in
    let (none, opened, rest_of) = together_of v case made more h (λ x. (let y = x in omega (arith, y, c.if-self-gt0.false))) in
    let (front, keeps, some, is) = rest_of in
    (case, made, opened, subst (λ (b : Trace). IsLastAt b 0 case.trace) (sym is) (first_is_last front case.trace keeps some more))

pub returns : goal.returns
returns c = λ case made more h k.
    let v = c.args.self.now in
    let (none, opened, rest_of) = together_of v case made more h (λ x. (let y = x in omega (arith, y, c.if-self-gt0.false))) in
    let (front, keeps, some, is) = rest_of in
    let after : Verdicts = record v { watcher = c.take_block.new.self; block = c.keep_last.new.self; quiet = record v.quiet { told = None } } in
    let (grown, eq, now) = c.in_ok-take_block.ensures case made opened
    (subst (λ (b : Trace). IsLastAt b 0 case.trace) (sym is) (first_is_last front case.trace keeps some more)) in
    let rest = ap (λ (t : Trace). drop 1 t.rows) is ∙ rest_is front case.trace keeps some more in (
      grown,
      eq,
      keeps_open after (with_rows more case) (made ++ grown) (knows_none v.quiet after.quiet case (with_rows more case) k refl refl refl) none
          (subst (λ (rows : List Row). IsOpened c.take_block.new.self (with_rows rows case) (made ++ grown)) rest now)
          (c.keep_last.ensures ∙ ap last_alone is ∙ kept_on front case.trace keeps some more),
    )
