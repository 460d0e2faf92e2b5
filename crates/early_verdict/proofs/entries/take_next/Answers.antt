use Rattle.std.proofs.Common.{◌≡◌, ◌<◌, ◌∙◌, subst, arith}
use Rattle.std.specs.Prelude.{IfSome}
use Rattle.early_verdict.specs.BlockRows.{own_row}
use Rattle.early_verdict.proofs.BlockLemmas.{own_later, own_wide}
use Rattle.early_verdict.proofs.NodeSets.{own_few}
use Rattle.early_verdict.proofs.GoingOn.{next_stand, leaves_bound}
use Rattle.early_verdict.proofs.entries.take_next.Goals as goal

pub next_entry-entry-requires : goal.next_entry-entry-requires
next_entry-entry-requires c =
    let (header, r, rows, o) = c.requires.open in
    let x = c.args.next.now in
    let later = subst (λ p. IfSome p (λ q. q.time < (own_row x).time)) o.ends (own_later x) in
    let before = subst (λ p. IfSome p (λ q. c.time_before.result ≡ q.time)) o.ends c.time_before.ensures in
    omega (arith, later, before, c.time.ensures)

pub step_sets-requires-clause-count : goal.step_sets-requires-clause-count
step_sets-requires-clause-count c =
    let a = c.requires.open.3.sets_are.1.have.count in
    let b = own_few c.args.formula.now.nodes c.args.net.now.live.items c.args.net.now.shown.items in
    omega (arith, a, b)

pub step_sets-requires-clause-shown_count : goal.step_sets-requires-clause-shown_count
step_sets-requires-clause-shown_count c = c.requires.open.3.sets_are.1.have.shown_count

pub step_sets-requires-clause-tidy : goal.step_sets-requires-clause-tidy
step_sets-requires-clause-tidy c = c.requires.open.3.sets_are.1.tidy

pub step_sets-requires-clause-shown_tidy : goal.step_sets-requires-clause-shown_tidy
step_sets-requires-clause-shown_tidy c = c.requires.open.3.sets_are.1.shown_tidy

pub step_sets-requires-clause-none : goal.step_sets-requires-clause-none
step_sets-requires-clause-none c = λ f. absurd (let g = c.next_entry-entry.ensures.first in cc)

pub step_sets-requires-clause-atoms : goal.step_sets-requires-clause-atoms
step_sets-requires-clause-atoms c = leaves_bound c.args.bound.now c.args.formula.now c.requires.open.0 c.requires.open.3.bound

pub returns : goal.returns
returns c = λ header r rows o.
    let x = c.args.next.now in
    let e = c.next_entry-entry.ensures in
    let later = subst (λ p. IfSome p (λ q. q.time < (own_row x).time)) o.ends (own_later x) in
    let before = subst (λ p. IfSome p (λ q. c.time_before.result ≡ q.time)) o.ends c.time_before.ensures in (
      o.sets_are.0,
      next_stand o c.in_ok-step_sets.ensures later (own_wide x ∙ c.requires.columns) e.open
          (e.happens header r rows (own_row x) o.sets_are.0 before c.time.ensures),
    )
