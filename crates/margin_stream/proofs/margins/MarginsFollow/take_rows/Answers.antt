use Rattle.std.proofs.Common.{false, refl}
use Rattle.margin_stream.specs.Margining.{IsMargined}
use Rattle.trace_stream.specs.Streams.{margins}
use Rattle.trace_stream.proofs.OpenRows.{open_by_none}
use Rattle.margin_stream.proofs.margins.MarginsFollow.take_rows.Goals as goal

pub returns-clause-taken : goal.returns-clause-taken
returns-clause-taken c = λ case made opened has.
    open_by_none (λ case text. IsMargined false c.args.self.now case text) (λ case text. ⊥) margins c.args._rows.now case c.args._text.now made opened

pub returns-clause-kept : goal.returns-clause-kept
returns-clause-kept c = (refl, refl, refl)
