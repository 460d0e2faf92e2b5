-- A row of plain numbers that a piece begins with.
use Rattle.std.proofs.Common.{◌++◌, ◌∷◌, [], subst, sym, ◌∙◌}
use Rattle.trace_reader.specs.Reader.{StandsFor, HasCome}
use Rattle.trace_reader.specs.LineReader.{state}
use Rattle.trace_reader.specs.declared.event.Event.TheVariants.{Row as IsARow}
use Rattle.trace_reader.proofs.ReaderTakes.{read_come}
use Rattle.trace_reader.proofs.RowTakes.{line_through, row_stands}
use Rattle.trace_reader.proofs.line_reader.LineReader.take_line.Goals as goal

pub returns-in-Some-clause-bytes : goal.returns-in-Some-clause-bytes
returns-in-Some-clause-bytes c =
    let r = c.in-Some.ensures.row in
    r.whole.taken ∙ sym (line_through c.args.piece.now r.line c.in-Some.bytes r.whole)

pub returns-in-Some-clause-came : goal.returns-in-Some-clause-came
returns-in-Some-clause-came c =
    let r = c.in-Some.ensures.row in
    let limits = c.args.limits.now in
    let old = c.args.self.now in
    let new = c.take_plain.new.self in
    subst (HasCome IsARow (state limits old) (state limits new)) (sym (line_through c.args.piece.now r.line c.in-Some.bytes r.whole))
    (read_come {limits = limits} old new r.line r.read)

pub returns-in-Some-clause-ok : goal.returns-in-Some-clause-ok
returns-in-Some-clause-ok c = λ bytes rows s.
    let r = c.in-Some.ensures.row in
    let l = c.in-Some.ensures.lines in
    let limits = c.args.limits.now in
    let old = c.args.self.now in
    let new = c.take_plain.new.self in
    subst (λ t. StandsFor (state limits new) (bytes ++ t) (rows ++ new.content.row ∷ []))
    (r.whole.taken ∙ sym (line_through c.args.piece.now r.line c.in-Some.bytes r.whole))
    (row_stands limits old new c.args.piece.now c.in-Some.bytes c.requires r l.0 l.1 l.2 bytes rows s)
