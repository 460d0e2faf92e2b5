use Rattle.session_mux.proofs.run.own_line.Goals as goal

pub line_behind-requires : goal.line_behind-requires
line_behind-requires c = (c.args.tag.now, c.requires, c.in-Some.ensures)
