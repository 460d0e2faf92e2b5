use Rattle.std.proofs.Common.{◌≡◌, sym, ap, subst, ◌∙◌, ◌-◌, Some, List, length, arith}
use Rattle.stl_syntax.specs.Trace.{Row, Trace}
use Rattle.atom_lines.specs.Rows.{row_of}
use Rattle.early_verdict.specs.Deciding.{last_after, last_of, IsVerdict}
use Rattle.early_verdict.specs.Standing.{AllTidy}
use Rattle.early_verdict.specs.declared.sets.Sets.{Sets}
use Rattle.early_verdict.proofs.BlockLemmas.{last_place}
use Rattle.early_verdict.proofs.NodeSets.{own_few}
use Rattle.early_verdict.proofs.GoingOn.{leaves_bound}
use Rattle.early_verdict.proofs.Undecided.{end_some, end_truth}
use Rattle.early_verdict.proofs.entries.end_sets.Goals as goal
use Rattle.early_verdict.proofs.entries.end_sets.Goals.{After-time}

pub overflow_sub-rows : goal.overflow_sub-rows
overflow_sub-rows c =
    let (header, r, rows, o) = c.requires.open in
    let some = (last_place c.args.block.now.rows (last_after r rows) o.ends).0 in
    omega (arith, c.rows.ensures.count, some)

pub new-last-requires : goal.new-last-requires
new-last-requires c =
    let (header, r, rows, o) = c.requires.open in
    let some = (last_place c.args.block.now.rows (last_after r rows) o.ends).0 in
    omega (arith, c.rows.ensures.count, some)

-- the last row of the block is the last of the rows
is_last : (c : After-time) (r : Row) (rows : List Row) → last_of c.args.block.now.rows ≡ Some (last_after r rows)
    → c.time.result ≡ (last_after r rows).time
is_last c r rows ends =
    let x = c.new-last.result in
    let block = c.args.block.now in
    c.time.ensures ∙ ap (λ (q : Row). q.time) (ap (λ (b : Trace). row_of b x.at) c.new-last.ensures.block
    ∙ ap (λ n. row_of block n) (c.new-last.ensures.at ∙ ap (λ n. n - 1) c.rows.ensures.count) ∙ (last_place block.rows (last_after r rows) ends).1)

pub step_sets-requires-clause-count : goal.step_sets-requires-clause-count
step_sets-requires-clause-count c =
    let a = c.requires.open.3.sets_are.1.have.count in
    let b = own_few c.args.formula.now.nodes c.args.net.now.live.items c.args.net.now.shown.items in
    omega (arith, a, b)

pub step_sets-requires-clause-shown_count : goal.step_sets-requires-clause-shown_count
step_sets-requires-clause-shown_count c = c.requires.open.3.sets_are.1.have.shown_count

pub step_sets-requires-clause-tidy : goal.step_sets-requires-clause-tidy
step_sets-requires-clause-tidy c = c.requires.open.3.sets_are.1.tidy

pub step_sets-requires-clause-shown_tidy : goal.step_sets-requires-clause-shown_tidy
step_sets-requires-clause-shown_tidy c = c.requires.open.3.sets_are.1.shown_tidy

pub step_sets-requires-clause-none : goal.step_sets-requires-clause-none
step_sets-requires-clause-none c = λ f. absurd (let g = c.end_entry-entry.ensures.first in cc)

pub step_sets-requires-clause-atoms : goal.step_sets-requires-clause-atoms
step_sets-requires-clause-atoms c = leaves_bound c.args.bound.now c.args.formula.now c.requires.open.0 c.requires.open.3.bound

pub step_sets-requires-clause-columns : goal.step_sets-requires-clause-columns
step_sets-requires-clause-columns c = ap (λ (b : Trace). length b.header.columns) c.new-last.ensures.block ∙ c.requires.columns

pub root_verdict-requires-clause-some : goal.root_verdict-requires-clause-some
root_verdict-requires-clause-some c =
    let n = c.in_ok-step_sets.ensures.shows.count in
    let m = c.requires.open.3.sets_are.1.have.shown_count in
    let s = c.requires.open.3.some in
    let l : length c.deref.result.now ≡ length c.step_sets.new.net.shown.items = ap (λ (xs : List Sets). length xs) c.deref.ensures.value in
    omega (arith, n, m, s, l)

pub root_verdict-requires-clause-tidy : goal.root_verdict-requires-clause-tidy
root_verdict-requires-clause-tidy c = subst (λ (xs : List Sets). AllTidy xs) (sym c.deref.ensures.value) c.in_ok-step_sets.ensures.tidy.1

pub returns : goal.returns
returns c = λ header r rows o.
    let e = c.end_entry-entry.ensures in
    end_truth o c.in_ok-step_sets.ensures e.ended (e.happens header r rows o.sets_are.0 (is_last (goal.at.returns c).After-time r rows o.ends))
    c.in-Some.holds
    (subst (λ v. IsVerdict c.step_sets.new.net.shown.items c.args.begin v) c.in-Some.is
    (subst (λ (xs : List Sets). IsVerdict xs c.args.begin c.root_verdict.result) c.deref.ensures.value c.root_verdict.ensures))

pub unreachable-requires : goal.unreachable-requires
unreachable-requires c =
    let q = c.requires.open in
    let o = q.3 in
    let e = c.end_entry-entry.ensures in
    (end_some o c.in_ok-step_sets.ensures e.ended (e.happens q.0 q.1 q.2 o.sets_are.0 (is_last (goal.at.unreachable-requires c).After-time q.1 q.2 o.ends))
    (subst (λ v. IsVerdict c.step_sets.new.net.shown.items c.args.begin v) c.in-None.is
    (subst (λ (xs : List Sets). IsVerdict xs c.args.begin c.root_verdict.result) c.deref.ensures.value c.root_verdict.ensures)))
