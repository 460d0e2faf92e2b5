use Rattle.std.proofs.Common.{◌≤◌, ◌<◌, false, List, ◌++◌, length, refl, sym, ap, subst, ◌∙◌, arith, length-append}
use Rattle.stl_syntax.specs.Trace.{Row, Trace}
use Rattle.stl_syntax.specs.Formula.{root}
use Rattle.trace_reader.specs.Taken.{HasTraceSoFar}
use Rattle.early_verdict.specs.Standing.{own_of}
use Rattle.early_verdict.specs.Deciding.{Kept, IsBlockAnswer, Stands, last_of, trace_of}
use Rattle.early_verdict.proofs.RowAnswers.{as_open, block_answer, from_open, stands_before, stands_behind}
use Rattle.early_verdict.proofs.BlockLemmas.{one_kept, so_far_of}
use Rattle.early_verdict.proofs.NextRow.{as_ended, unended}
use Rattle.early_verdict.specs.contracts.early.Early.{the_view}
use Rattle.early_verdict.proofs.early.Early.take_rows.Goals as goal
use Rattle.early_verdict.proofs.early.Early.take_rows.Goals.{After-keep_last}

pub take_rows-requires : goal.take_rows-requires
take_rows-requires c =
    let x : Kept = the_view c.self.inside in
    let (all, st, has) = c.requires.rows (ap (λ (z : Kept). z.stopped) (sym c.self.view_is) ∙ c.if-self.false) in
    let st = subst (λ (z : Kept). Stands z all false) (sym c.self.view_is) st in
    let some : 0 < length c.self.inside.block.rows = omega (arith, c.rows-from.ensures.count, c.if-from-eq0.false) in
    so_far_of c.args.rows.now c.self.inside.block all st.last (c.self.invariant.1 c.if-self.false) some
    (subst (λ (z : Kept). HasTraceSoFar c.args.rows.now (trace_of z.header all)) (sym c.self.view_is) has)

pub take_rows-requires-2-clause-stands : goal.take_rows-requires-2-clause-stands
take_rows-requires-2-clause-stands c =
    let x : Kept = the_view c.self.inside in
    let w = c.self.invariant.0 c.if-self.false in
    let st = unended x c.args.self.now w.0 c.self.view_is c.requires.open w.1 in
    let taken = c.in-Ok.ensures.rows in (
      c.take_rows.new.trace.header,
      w.0,
      stands_before c.self.inside.formula c.self.inside.bound c.self.inside.block c.take_rows.new.trace taken.more taken.added
          c.rows-from.result c.rows-from.ensures.count w.0 c.self.inside.progress (as_open x w.0 st),
    )

pub take_rows-requires-2-clause-columns : goal.take_rows-requires-2-clause-columns
take_rows-requires-2-clause-columns c =
    let w = c.self.invariant.0 c.if-self.false in
    ap (λ (t : Trace). length t.header.columns) c.in-Ok.ensures.rows.added ∙ sym w.1.bound.width

pub take_rows-requires-2-clause-within : goal.take_rows-requires-2-clause-within
take_rows-requires-2-clause-within c =
    let e = ap (λ (t : Trace). length t.rows) c.in-Ok.ensures.rows.added in
    let n = length-append c.self.inside.block.rows c.in-Ok.ensures.rows.more in
    omega (arith, e, n, c.rows-from.ensures.count)

-- what it is once the rows were taken
abbrev after : After-keep_last → Kept
after c = record {
  nodes = c.self.inside.formula.nodes;
  header = c.keep_last.new.self.header;
  bound = c.self.inside.bound;
  live = own_of c.self.inside.formula.nodes c.take_rows-2.new.self.net;
  shown = c.take_rows-2.new.self.net.shown.items;
  begin = c.take_rows-2.new.self.begin;
  last = last_of c.keep_last.new.self.rows;
  decided = c.take_rows-2.new.self.decided;
  ended = c.self.inside.ended;
  stopped = c.self.inside.stopped;
}

-- it stands for the rows with them
gone_on : (c : After-keep_last) (rows : List Row) → Stands (the_view c.self.inside) rows false
    → Stands (after c) (rows ++ c.in-Ok.ensures.rows.more) false
gone_on c rows st =
    let x : Kept = the_view c.self.inside in
    let f = c.self.inside.formula in
    let b = c.self.inside.bound in
    let all = c.take_rows.new.trace in
    let taken = c.in-Ok.ensures.rows in
    from_open (after c) (rows ++ taken.more) st.is_ended st.running
    (stands_behind f b c.self.inside.block all taken.more taken.added c.rows-from.result c.rows-from.ensures.count rows c.take_rows-2.new.self
    c.keep_last.new.self c.keep_last.ensures
    (c.in-Ok-take_rows.ensures.stands all.header rows
    (stands_before f b c.self.inside.block all taken.more taken.added c.rows-from.result c.rows-from.ensures.count rows c.self.inside.progress
    (as_open x rows st))))

pub invariant_of-self-2 : goal.invariant_of-self-2
invariant_of-self-2 c =
    let a = (goal.at.invariant_of-self-2 c).After-keep_last in
    let x : Kept = the_view c.self.inside in
    let w = c.self.invariant.0 c.if-self.false in
    let st = unended x c.args.self.now w.0 c.self.view_is c.requires.open w.1 in (
      λ running. (w.0 ++ c.in-Ok.ensures.rows.more, as_ended (after a) (w.0 ++ c.in-Ok.ensures.rows.more) false (gone_on a w.0 st)),
      λ running. subst (λ (t : Trace). length t.rows ≤ 1) (sym c.keep_last.ensures) (one_kept c.take_rows.new.trace.rows),
    )

pub returns-clause-taken : goal.returns-clause-taken
returns-clause-taken c rows was has =
    let a = (goal.at.returns-clause-taken c).After-keep_last in
    let x : Kept = the_view c.self.inside in
    let taken = c.in-Ok.ensures.rows in
    let st = subst (λ (z : Kept). Stands z rows false) (sym c.self.view_is) was in
    let now = gone_on a rows st in
    let d = c.in-Ok-take_rows.ensures.decided in
    let header = ap (λ (t : Trace). t.header) c.keep_last.ensures ∙ ap (λ (t : Trace). t.header) taken.added in
    record {
      more = taken.more;
      read = taken.stands;
      stands = now;
      answers = subst (λ (z : Kept). IsBlockAnswer (root z.nodes) z.header rows taken.more c.in-Ok-take_rows.decided) c.self.view_is
          (subst (λ o. IsBlockAnswer (root x.nodes) x.header rows taken.more o) (sym d.1) (block_answer x (after a) rows taken.more refl header st now d.0));
    }
