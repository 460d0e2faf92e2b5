use Rattle.std.proofs.Common.{sym, ◌∙◌}
use Rattle.trace_reader.proofs.FeedLemmas.{none-all, at-taken, at-through}
use Rattle.trace_stream.proofs.case_reader.first_line.Goals as goal

pub returns-in-Some-clause-line : goal.returns-in-Some-clause-line
returns-in-Some-clause-line c =
    let h = c.in-Some.ensures in
    at-taken c.args.piece.now c.in-Some.at h.0 h.1 ∙ sym (at-through c.args.piece.now c.in-Some.at h.0 h.1)

pub returns-in-None-clause-line : goal.returns-in-None-clause-line
returns-in-None-clause-line c = sym (none-all c.args.piece.now c.in-None.ensures)
