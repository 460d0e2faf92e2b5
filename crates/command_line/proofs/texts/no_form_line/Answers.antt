use Rattle.command_line.proofs.texts.no_form_line.Goals as goal

pub returns : goal.returns
returns c = c.plain.ensures
