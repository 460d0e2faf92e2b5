use Rattle.std.proofs.Common.{◌≡◌, suc, subst, arith}
use Rattle.rational.specs.Rational.{Rational}
use Rattle.rational.specs.Time.{◌≤ʳ◌}
use Rattle.stl_syntax.specs.Trace.{Trace, row_time}
use Rattle.stl_syntax.specs.Truth.{holds_at}
use Rattle.stl_syntax.specs.declared.atom.Atom.{Atom}
use Rattle.atom_lines.specs.Binding.{IsFor}
use Rattle.atom_lines.specs.Gaps.{IsEven}
use Rattle.atom_lines.specs.Passages.{HasBlock}
use Rattle.atom_lines.specs.Rows.{row_of}
use Rattle.atom_lines.proofs.WayLemmas.{even_of_one, read_next, stays_there, stays_next}
use Rattle.atom_lines.proofs.way.stays_over.Goals as goal
use Rattle.atom_lines.proofs.way.stays_over.Goals.{After-step_from-step}

-- where the comparison is the same about the gap, the truth stays
over_step : (c : After-step_from-step) → IsEven c.atom-atom.result.now.rel c.step_from-step.result.gap c.step_from-step.result.next
    → (a : Atom) (tr : Trace) → IsFor c.args.bound.now c.args.node a tr → HasBlock tr c.args.trace.now → (t : Rational)
    → row_time (row_of c.args.trace.now c.args.r) ≤ʳ t → t ≤ʳ row_time (row_of c.args.trace.now c.args.next)
    → holds_at a tr t ≡ holds_at a tr (row_time (row_of c.args.trace.now c.args.r))
over_step c even a tr for has t low high =
    let b = c.args.bound.now in
    let k = c.atom-atom.result.now in
    let here = c.atom-atom.ensures.at in
    let r = c.args.r in
    let block = c.args.trace.now in
    let e : c.args.next ≡ suc r = let h = c.requires.next in omega (arith, h) in
    stays_next b c.args.node k here a tr block for has r r c.step_from-step.result.gap c.step_from-step.result.next (omega arith)
    c.step_from-step.ensures even (λ u from to. stays_there b c.args.node k here a tr block for has r u from to) t low
    (subst (λ m. t ≤ʳ row_time (row_of block m)) e high)

pub returns-then-len-eq1 : goal.returns-then-len-eq1
returns-then-len-eq1 c = λ yes.
    let p = goal.at.returns-then-len-eq1 c in
    let s = c.step_from-step in
    over_step p.After-step_from-step
    (even_of_one c.atom-atom.result.now c.args.trace.now c.args.r s.result.gap s.result.next (omega (arith, c.if-len-eq1.true)) s.ensures
    (c.stays_on_one.ensures yes))

pub returns : goal.returns
returns c = λ yes.
    let p = goal.at.returns c in
    let k = c.atom-atom.result.now in
    let s = c.step_from-step in
    over_step p.After-step_from-step
    (subst (λ n. IsEven k.rel s.result.gap n) (read_next k c.args.trace.now c.args.r s.result.gap s.result.next c.atom-atom.ensures.sound.limit s.ensures)
    (c.keeps_truth.ensures yes))
