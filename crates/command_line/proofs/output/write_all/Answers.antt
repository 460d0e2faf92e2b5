use Rattle.std.proofs.Common.{◌+◌, ◌≤◌, length, drop, arith, length-drop, refl, ◌∙◌}
use Rattle.std.proofs.KnownBytes.{Appends-nil}
use Rattle.rational.proofs.Lists.{take_rest}
use Rattle.command_line.proofs.Devices.{part_at, part_err, cause_err, next_take, whole}
use Rattle.command_line.proofs.output.write_all.Goals as goal

pub loop-at-init : goal.loop-at-init
loop-at-init g c = record { within = omega arith; wrote = Appends-nil _; cause = refl }

pub returns-in_err-at-clause-written : goal.returns-in_err-at-clause-written
returns-in_err-at-clause-written g c =
    part_err _ _ _ c.from_residual.result c.from_residual.ensures.0
    (part_at _ _ _ c.args.text.now c.loop-at.at c.loop-at-test.true c.loop-at.invariant.wrote c.in_err-at.ensures.bytes)

pub returns-in_err-at-clause-cause : goal.returns-in_err-at-clause-cause
returns-in_err-at-clause-cause g c =
    let more = c.in_err-at.ensures.cause in
    cause_err _ _ _ c.from_residual.result c.from_residual.ensures.0 (let same = c.loop-at.invariant.cause in omega arith) more.later more.failed

pub loop-at-preserved : goal.loop-at-preserved
loop-at-preserved g c =
    let now = c.in_ok-at.ensures in
    let rest = take_rest c.args.text.now c.loop-at.at in
    let cause = now.cause.still in
    let bound : c.in_ok-at.field-0 ≤ length (drop c.loop-at.at c.args.text.now) = rw rest at now.bound in
    let within : c.loop-at.at + c.in_ok-at.field-0 ≤ length c.args.text.now = omega (arith, length-drop c.loop-at.at c.args.text.now) in
    record {
      within = within;
      wrote = next_take _ _ _ c.args.text.now c.loop-at.at c.in_ok-at.field-0 c.loop-at.invariant.wrote (rw rest at now.bytes);
      cause = cause ∙ c.loop-at.invariant.cause;
    }

pub returns-clause-written : goal.returns-clause-written
returns-clause-written g c = whole _ _ c.args.text.now c.loop-at.at c.loop-at-test.false c.loop-at.invariant.wrote

pub returns-clause-cause : goal.returns-clause-cause
returns-clause-cause g c = record { later = (let same = c.loop-at.invariant.cause in omega arith); failed = tt; still = c.loop-at.invariant.cause }
