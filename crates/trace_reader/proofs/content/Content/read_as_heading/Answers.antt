-- The header.
use Rattle.std.proofs.Common.{refl}
use Rattle.std.proofs.lemmas.Result.{err_from_is_err_and}
use Rattle.trace_reader.specs.Progress.{heading, bad_heading}
use Rattle.trace_reader.proofs.content.Content.read_as_heading.Goals as goal

pub returns-in_err-read_heading : goal.returns-in_err-read_heading
returns-in_err-read_heading c =
    let p = err_from_is_err_and c.from_residual.result c.from_residual.ensures.1 in
    rw (p.1, p.2) (bad_heading c.in_err-read_heading.field-0.0 c.in_err-read_heading.ensures (rw (c.in-Some.ensures.after, ← c.self.view_is) refl))

pub returns : goal.returns
returns c = heading c.in_ok-read_heading.field-0.heading c.in_ok-read_heading.ensures.read c.in_ok-read_heading.ensures.sound
    (rw (c.in-Some.ensures.after, ← c.self.view_is) refl)
