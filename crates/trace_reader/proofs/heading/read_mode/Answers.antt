-- A mode, and decimals.
use Rattle.std.proofs.Common.{[], refl}
use Rattle.std.specs.Prelude.{codes}
use Rattle.trace_reader.specs.TraceText.{no_mode, ramp, step}
use Rattle.trace_reader.proofs.DigitLemmas.{after_prefix}
use Rattle.trace_reader.proofs.HeadingLemmas.{mode_none, ramp_none, step_none, not_ramp, not_step}
use Rattle.trace_reader.proofs.heading.read_mode.Goals as goal

pub returns-in_err-read_digits : goal.returns-in_err-read_digits
returns-in_err-read_digits c =
    let e = c.in-Some.ensures.cases in
    rw c.from_residual.ensures (ramp_none c.args.text.now c.in-Some.rest.now
    (after_prefix c.args.text.now (codes ":ramp") c.in-Some.rest.now 5 e.0 e.1) c.in_err-read_digits.ensures)

pub returns-in-Some : goal.returns-in-Some
returns-in-Some c =
    let e = c.in-Some.ensures.cases in (
      codes ":ramp",
      c.in-Some.rest.now,
      after_prefix c.args.text.now (codes ":ramp") c.in-Some.rest.now 5 e.0 e.1,
      ramp,
      c.in_ok-read_digits.ensures.0,
      c.in_ok-read_digits.ensures.1,
    )

pub returns-in_err-read_digits-2 : goal.returns-in_err-read_digits-2
returns-in_err-read_digits-2 c =
    let e = c.in-Some-strip_prefix.ensures.cases in
    rw c.from_residual-in_err-read_digits-2.ensures
    (step_none c.args.text.now c.in-Some-strip_prefix.rest.now
    (after_prefix c.args.text.now (codes ":step") c.in-Some-strip_prefix.rest.now 5 e.0 e.1) c.in_err-read_digits-2.ensures)

pub returns-in-Some-strip_prefix : goal.returns-in-Some-strip_prefix
returns-in-Some-strip_prefix c =
    let e = c.in-Some-strip_prefix.ensures.cases in (
      codes ":step",
      c.in-Some-strip_prefix.rest.now,
      after_prefix c.args.text.now (codes ":step") c.in-Some-strip_prefix.rest.now 5 e.0 e.1,
      step,
      c.in_ok-read_digits-2.ensures.0,
      c.in_ok-read_digits-2.ensures.1,
    )

pub returns-in_err-read_digits-3 : goal.returns-in_err-read_digits-3
returns-in_err-read_digits-3 c =
    rw c.from_residual-in_err-read_digits-3.ensures
    (mode_none c.args.text.now (not_ramp c.args.text.now c.in_default.ensures.cases)
    (not_step c.args.text.now c.in_default-strip_prefix.ensures.cases) c.in_err-read_digits-3.ensures)

pub returns : goal.returns
returns c = ([], c.args.text.now, refl, no_mode, c.in_ok-read_digits-3.ensures.0, c.in_ok-read_digits-3.ensures.1)
