-- The text up to its first comma.
use Rattle.std.proofs.lemmas.List.{take_rest}
use Rattle.trace_reader.proofs.FieldLemmas.{first_field, last_field}
use Rattle.trace_reader.proofs.field.cut_field.Goals as goal

pub returns-in-Some : goal.returns-in-Some
returns-in-Some c =
    let text = c.args.text.now in
    let at = c.in-Some.at in
    rw (take_rest, c.trim.ensures) (first_field text at c.in-Some.ensures.0 c.in-Some.ensures.1)

pub returns-in-None : goal.returns-in-None
returns-in-None c = rw c.trim-in-None.ensures (last_field c.args.text.now c.in-None.ensures)
