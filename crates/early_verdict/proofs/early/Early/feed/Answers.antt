use Rattle.std.proofs.Common.{◌≡◌, ◌≤◌, ◌<◌, false, List, [], ◌∷◌, ◌++◌, length, refl, sym, ap, subst, ◌∙◌, arith, length-append}
use Rattle.std.specs.Prelude.{IfSome}
use Rattle.stl_syntax.specs.Trace.{Row, Trace}
use Rattle.stl_syntax.specs.Formula.{root}
use Rattle.early_verdict.specs.Standing.{own_of}
use Rattle.early_verdict.specs.Deciding.{Kept, IsAnswer, Stands, decided_by, last_of}
use Rattle.early_verdict.proofs.RowAnswers.{as_open, decided_newly, from_open, row_answer, stands_before, stands_behind}
use Rattle.early_verdict.proofs.BlockLemmas.{last_kept, later_than, one_kept}
use Rattle.early_verdict.proofs.NextRow.{as_ended, unended}
use Rattle.early_verdict.proofs.StandingOn.{last_on}
use Rattle.early_verdict.specs.contracts.early.Early.{the_view}
use Rattle.early_verdict.proofs.early.Early.feed.Goals as goal
use Rattle.early_verdict.proofs.early.Early.feed.Goals.{After-keep_last}

pub push-requires-clause-width : goal.push-requires-clause-width
push-requires-clause-width c =
    let x : Kept = the_view c.self.inside in
    let w = c.self.invariant.0 c.if-self.false in
    subst (λ (z : Kept). length c.args.row.now.values ≡ z.bound.width) (sym c.self.view_is) c.requires.width ∙ w.1.bound.width

pub push-requires-clause-later : goal.push-requires-clause-later
push-requires-clause-later c = later_than c.self.inside.block.rows c.args.row.now
    (subst (λ (z : Kept). IfSome z.last (λ q. q.time < c.args.row.now.time)) (sym c.self.view_is) c.requires.later)

pub take_rows-requires-clause-stands : goal.take_rows-requires-clause-stands
take_rows-requires-clause-stands c =
    let x : Kept = the_view c.self.inside in
    let w = c.self.invariant.0 c.if-self.false in
    let st = unended x c.args.self.now w.0 c.self.view_is c.requires.open w.1 in (
      c.push.new.self.header,
      w.0,
      stands_before c.self.inside.formula c.self.inside.bound c.self.inside.block c.push.new.self (c.args.row.now ∷ []) c.in-Ok.ensures.ok
          c.rows-from.result c.rows-from.ensures.count w.0 c.self.inside.progress (as_open x w.0 st),
    )

pub take_rows-requires-clause-columns : goal.take_rows-requires-clause-columns
take_rows-requires-clause-columns c =
    let w = c.self.invariant.0 c.if-self.false in
    ap (λ (t : Trace). length t.header.columns) c.in-Ok.ensures.ok ∙ sym w.1.bound.width

pub take_rows-requires-clause-within : goal.take_rows-requires-clause-within
take_rows-requires-clause-within c =
    let e = ap (λ (t : Trace). length t.rows) c.in-Ok.ensures.ok in
    let n = length-append c.self.inside.block.rows (c.args.row.now ∷ []) in
    omega (arith, e, n, c.rows-from.ensures.count)

-- what it is once the row was taken
abbrev after : After-keep_last → Kept
after c = record {
  nodes = c.self.inside.formula.nodes;
  header = c.keep_last.new.self.header;
  bound = c.self.inside.bound;
  live = own_of c.self.inside.formula.nodes c.take_rows.new.self.net;
  shown = c.take_rows.new.self.net.shown.items;
  begin = c.take_rows.new.self.begin;
  last = last_of c.keep_last.new.self.rows;
  decided = c.take_rows.new.self.decided;
  ended = c.self.inside.ended;
  stopped = c.self.inside.stopped;
}

-- it stands for the rows with it
taken : (c : After-keep_last) (rows : List Row) → Stands (the_view c.self.inside) rows false → Stands (after c) (rows ++ c.args.row.now ∷ []) false
taken c rows st =
    let x : Kept = the_view c.self.inside in
    let f = c.self.inside.formula in
    let b = c.self.inside.bound in
    let all = c.push.new.self in
    let more = c.args.row.now ∷ [] in
    from_open (after c) (rows ++ more) st.is_ended st.running
    (stands_behind f b c.self.inside.block all more c.in-Ok.ensures.ok c.rows-from.result c.rows-from.ensures.count rows c.take_rows.new.self
    c.keep_last.new.self c.keep_last.ensures
    (c.in-Ok-take_rows.ensures.stands all.header rows
    (stands_before f b c.self.inside.block all more c.in-Ok.ensures.ok c.rows-from.result c.rows-from.ensures.count rows c.self.inside.progress
    (as_open x rows st))))

pub invariant_of-self-2 : goal.invariant_of-self-2
invariant_of-self-2 c =
    let a = (goal.at.invariant_of-self-2 c).After-keep_last in
    let x : Kept = the_view c.self.inside in
    let w = c.self.invariant.0 c.if-self.false in
    let st = unended x c.args.self.now w.0 c.self.view_is c.requires.open w.1 in (
      λ running. (w.0 ++ c.args.row.now ∷ [], as_ended (after a) (w.0 ++ c.args.row.now ∷ []) false (taken a w.0 st)),
      λ running. subst (λ (t : Trace). length t.rows ≤ 1) (sym c.keep_last.ensures) (one_kept c.push.new.self.rows),
    )

pub returns-clause-answer : goal.returns-clause-answer
returns-clause-answer c =
    let d = c.in-Ok-take_rows.ensures.decided in
    record {
      running = ap (λ (z : Kept). z.stopped) (sym c.self.view_is) ∙ c.if-self.false;
      still_running = c.if-self.false;
      not_ended = ap (λ (z : Kept). z.ended) c.self.view_is ∙ c.requires.open;
      last = ap (λ (t : Trace). last_of t.rows) c.keep_last.ensures ∙ last_kept c.push.new.self.rows
          ∙ ap (λ (t : Trace). last_of t.rows) c.in-Ok.ensures.ok ∙ sym (last_on c.self.inside.block.rows c.args.row.now);
      decided = decided_newly c.self.inside.progress.decided c.take_rows.new.self.decided d.0
          ∙ ap (λ o. decided_by c.self.inside.progress.decided o) (sym d.1)
          ∙ ap (λ (z : Kept). decided_by z.decided c.in-Ok-take_rows.decided) c.self.view_is;
    }

pub returns-clause-stands : goal.returns-clause-stands
returns-clause-stands c rows was =
    let a = (goal.at.returns-clause-stands c).After-keep_last in
    let x : Kept = the_view c.self.inside in
    let r = c.args.row.now in
    let st = subst (λ (z : Kept). Stands z rows false) (sym c.self.view_is) was in
    let now = taken a rows st in
    let d = c.in-Ok-take_rows.ensures.decided in
    let header = ap (λ (t : Trace). t.header) c.keep_last.ensures ∙ ap (λ (t : Trace). t.header) c.in-Ok.ensures.ok in (
      now,
      subst (λ (z : Kept). IsAnswer (root z.nodes) z.header rows r c.in-Ok-take_rows.decided) c.self.view_is
          (subst (λ o. IsAnswer (root x.nodes) x.header rows r o) (sym d.1) (row_answer x (after a) rows r refl header st now d.0)),
    )
