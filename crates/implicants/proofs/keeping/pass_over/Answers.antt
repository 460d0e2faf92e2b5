use Rattle.std.proofs.Common.{◌-◌, true, sym, ◌∙◌, arith, length-set}
use Rattle.implicants.proofs.MarkedAreKept.{passed_put, passed_skip}
use Rattle.implicants.proofs.keeping.pass_over.Goals as goal

pub loop-c-preserved-then-marks-c : goal.loop-c-preserved-then-marks-c
loop-c-preserved-then-marks-c c =
    let t = c.loop-c-test.true in
    let w = c.loop-c.invariant.within in
    record {
      above = omega (arith, t);
      within = omega (arith, w);
      count = length-set c.loop-c.kept.items (c.loop-c.c - 1) true ∙ c.loop-c.invariant.count;
      same = sym (passed_put c.args.marks.now c.loop-c.kept.items c.args.to c.loop-c.c t c.if-marks-c.true) ∙ c.loop-c.invariant.same;
    }

pub loop-c-preserved : goal.loop-c-preserved
loop-c-preserved c =
    let t = c.loop-c-test.true in
    let w = c.loop-c.invariant.within in
    record {
      above = omega (arith, t);
      within = omega (arith, w);
      count = c.loop-c.invariant.count;
      same = sym (passed_skip c.args.marks.now c.loop-c.kept.items c.args.to c.loop-c.c t c.if-marks-c.false) ∙ c.loop-c.invariant.same;
    }
