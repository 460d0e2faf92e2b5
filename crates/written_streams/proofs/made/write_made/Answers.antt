use Rattle.std.proofs.Common.{subst, sym, ◌∙◌}
use Rattle.std.specs.Io.KnownBytes.{Appends}
use Rattle.written_streams.specs.MadeWritten.{IsMadeWritten, made_whole, made_in_part}
use Rattle.command_line.specs.Writing.{IsPartWritten}
use Rattle.written_streams.proofs.WrittenTexts.{starved_made, not_unwritten}
use Rattle.written_streams.proofs.made.write_made.Goals as goal

pub returns-then-is_starved-clause-written : goal.returns-then-is_starved-clause-written
returns-then-is_starved-clause-written g c =
    starved_made (g.K.Sink.written c.args.out.now) c.args.live.now.text c.args.outcome (c.is_starved.ensures.yes c.if-is_starved.true)

pub returns-in-Ok-clause-written : goal.returns-in-Ok-clause-written
returns-in-Ok-clause-written g c =
    subst (λ r. IsMadeWritten (g.K.Sink.written c.args.out.now) (g.K.Sink.written c.write_all.new.sink) c.args.live.now.text c.args.outcome r)
    (sym c.outcome_from.ensures)
    (made_whole (c.is_starved.ensures.no c.if-is_starved.false)
    (subst (λ t. Appends (g.K.Sink.written c.args.out.now) (g.K.Sink.written c.write_all.new.sink) t) c.text.ensures c.in-Ok.ensures.written))

pub returns-in-Ok-clause-cause : goal.returns-in-Ok-clause-cause
returns-in-Ok-clause-cause g c = λ e. absurd (not_unwritten c.args.outcome (sym c.outcome_from.ensures ∙ e))

pub returns-in-Err-clause-written : goal.returns-in-Err-clause-written
returns-in-Err-clause-written g c =
    made_in_part (c.is_starved.ensures.no c.if-is_starved.false)
    (subst (λ t. IsPartWritten (g.K.Sink.written c.args.out.now) (g.K.Sink.written c.write_all.new.sink) t) c.text.ensures c.in-Err.ensures.written)
