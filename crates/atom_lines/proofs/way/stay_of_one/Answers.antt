use Rattle.std.proofs.Common.{◌≡◌, ◌+◌, ◌≤◌, suc, subst, arith}
use Rattle.rational.specs.Time.{◌≤ʳ◌}
use Rattle.stl_syntax.specs.Trace.{row_time}
use Rattle.atom_lines.specs.Rows.{row_of}
use Rattle.atom_lines.proofs.WayLemmas.{even_of_one, reach_next, stays_there, stays_next}
use Rattle.atom_lines.proofs.way.stay_of_one.Goals as goal

pub loop-at-init : goal.loop-at-init
loop-at-init c = record {
  begins = omega arith;
  within = c.requires.before;
  order = omega arith;
  step = c.step_from-step.ensures;
  stays = λ b i a tr here for has t low high. stays_there b i c.args.atom.now here a tr c.args.trace.now for has c.args.r t low high;
}

pub step_from-step-requires-in-loop-at-clause-from : goal.step_from-step-requires-in-loop-at-clause-from
step_from-step-requires-in-loop-at-clause-from c =
    reach_next c.args.atom.now c.args.trace.now c.loop-at.at (c.loop-at.at + 1) c.loop-at.step.gap c.loop-at.step.next
    c.requires.sound.limit (omega arith) c.loop-at.invariant.step

pub loop-at-preserved : goal.loop-at-preserved
loop-at-preserved c =
    let i = c.loop-at.invariant in
    let n = c.loop-at.at + 1 in
    record {
      begins = let h = i.begins in omega (arith, h);
      within = c.stays_of_one.ensures.more c.loop-at-test.true;
      order = let h = i.order in let e = i.step.first in let f = i.step.second in let r = c.loop-at.step.gap.rising in
          subst (λ m. (row_of c.args.trace.now c.args.r).time ≤ (row_of c.args.trace.now m).time)
          (let k : suc c.loop-at.at ≡ n = omega arith in k) (omega (arith, h, e, f, r));
      step = c.step_from-step-in-loop-at.ensures;
      stays = λ b j a tr here for has t low high.
          stays_next b j c.args.atom.now here a tr c.args.trace.now for has c.args.r c.loop-at.at
          c.loop-at.step.gap c.loop-at.step.next i.order i.step (even_of_one c.args.atom.now c.args.trace.now c.loop-at.at c.loop-at.step.gap
          c.loop-at.step.next c.requires.one i.step (c.stays_of_one.ensures.same c.loop-at-test.true)) (i.stays b j a tr here for has) t low
          (subst (λ m. t ≤ʳ row_time (row_of c.args.trace.now m)) (let k : n ≡ suc c.loop-at.at = omega arith in k) high);
    }
