use Rattle.std.proofs.Common.{None, ◌++◌, refl, ap, ◌∙◌, subst, append_assoc}
use Rattle.trace_stream.specs.Cases.{with_row}
use Rattle.verdict_stream.specs.declared.verdicts.Verdicts.{Verdicts}
use Rattle.verdict_stream.proofs.FollowedCases.{IsOpened, open_settled, knows_none, keeps_open}
use Rattle.verdict_stream.proofs.verdicts.VerdictsFollow.row.Goals as goal

pub settle-requires : goal.settle-requires
settle-requires c = let (case, made, opened, t) = c.requires in (case, made, opened)

pub take_next-requires : goal.take_next-requires
take_next-requires c =
    let (case, made, opened, t) = c.requires in
    let s = open_settled c.args.self.now c.settle.new.self case made c.args.text.now c.settle.new.text opened (c.in-Ok.ensures.rows case made)
    (c.in-Ok.ensures.owing case made) in
    (case, made ++ s.grown, s.opened, t)

pub keep_row-requires : goal.keep_row-requires
keep_row-requires c =
    let (case, made, opened, t) = c.requires in
    let s = open_settled c.args.self.now c.settle.new.self case made c.args.text.now c.settle.new.text opened (c.in-Ok.ensures.rows case made)
    (c.in-Ok.ensures.owing case made) in
    (case.trace, s.last, t)

pub returns-in-Ok-keep_row-clause-followed : goal.returns-in-Ok-keep_row-clause-followed
returns-in-Ok-keep_row-clause-followed c = λ case made opened t.
    let r = c.args.row.now in
    let w = c.settle.new.self in
    let s = open_settled c.args.self.now w case made c.args.text.now c.settle.new.text opened (c.in-Ok.ensures.rows case made)
    (c.in-Ok.ensures.owing case made) in
    let (g, is, now) = c.in-Ok-take_next.ensures case (made ++ s.grown) s.opened t in
    let after : Verdicts = record w { watcher = c.take_next.new.self; block = c.keep_row.new.block; quiet = record w.quiet { told = None } } in (
      s.grown ++ g,
      is ∙ ap (λ x. x ++ g) s.is ∙ append_assoc c.args.text.now s.grown g,
      keeps_open after (with_row r case) (made ++ (s.grown ++ g)) (knows_none w.quiet after.quiet case (with_row r case) s.knows refl refl refl) s.none
          (subst (λ x. IsOpened c.take_next.new.self (with_row r case) x) (append_assoc made s.grown g) now)
          (c.in-Ok-keep_row.ensures case.trace s.last t),
    )
