use Rattle.std.proofs.Common.{sym, ◌∙◌, subst}
use Rattle.std.specs.Prelude.{option_map}
use Rattle.std.proofs.lemmas.Result.{on_ok_weaker}
use Rattle.stl_syntax.specs.Trace.{Row}
use Rattle.trace_reader.specs.Feeds.{rows_after}
use Rattle.trace_reader.specs.Reader.{IsWholeTrace, IsNextRow, HasEndedWith}
use Rattle.trace_reader.specs.declared.event.Event.{Event}
use Rattle.trace_stream.specs.Cases.{CanKeep, with_row}
use Rattle.trace_stream.specs.Kept.{StandsForCase}
use Rattle.trace_stream.proofs.Ends.{ended_now, ended_row, end_can, has_header, refused_end}
use Rattle.trace_stream.proofs.RowsKept.{last_kept, ended_as, kept_last}
use Rattle.trace_stream.proofs.case_reader.CaseReader.finish.Goals as goal

pub keep_row-requires : goal.keep_row-requires
keep_row-requires g c =
    let k = c.requires.is in
    let new = c.end.new.self in
    let ok = c.in-Ok-Row.ensures in
    let whole = subst (λ (e : Event). IsWholeTrace new c.requires.bytes (rows_after e k.is.rows new.row)) c.in-Ok-Row.field-0-is
    (ok.ok c.requires.bytes k.is.rows k.is.stands) in
    let next = subst (λ (e : Event). IsNextRow e new.heading k.is.rows new.row) c.in-Ok-Row.field-0-is (ok.next c.requires.bytes k.is.rows k.is.stands) in (
      k.case,
      k.for_case,
      subst (λ (r : Row). CanKeep k.case r) (sym c.row.ensures)
          (end_can c.args.formula.now c.args.self.now.rows new k.case c.requires.bytes k.is ok.kept.0 ok.kept.1 new.row whole next),
    )

pub last_fault-requires : goal.last_fault-requires
last_fault-requires g c = λ e.
    let k = c.requires.is in
    let err = c.in-Err.ensures in
    has_header c.args.formula.now c.args.self.now.rows c.end.new.self k.case c.requires.bytes k.is err.kept.0 err.kept.1
    (err.header e c.requires.bytes k.is.rows k.is.stands)

pub unreachable-requires : goal.unreachable-requires
unreachable-requires g c = subst (λ (e : Event). HasEndedWith e c.end.new.self) c.in-Ok-Header.field-0-is c.in-Ok-Header.ensures.event

pub returns-in-Ok-Row : goal.returns-in-Ok-Row
returns-in-Ok-Row g c = λ bytes k.
    let new = c.end.new.self in
    let ok = c.in-Ok-Row.ensures in
    let whole = subst (λ (e : Event). IsWholeTrace new bytes (rows_after e k.is.rows new.row)) c.in-Ok-Row.field-0-is
    (ok.ok bytes k.is.rows k.is.stands) in
    let next = subst (λ (e : Event). IsNextRow e new.heading k.is.rows new.row) c.in-Ok-Row.field-0-is (ok.next bytes k.is.rows k.is.stands) in
    let can = end_can c.args.formula.now c.args.self.now.rows new k.case bytes k.is ok.kept.0 ok.kept.1 new.row whole next in
    kept_last g.K.Keep.stands c.args.self.now.rows.limits c.args.formula.now bytes c.keep_row.new.kept (option_map (with_row new.row) k.case) c.keep_row.result
    (on_ok_weaker c.keep_row.result
    (λ keeps. subst (λ (r : Row). StandsForCase g.K.Keep.stands c.keep_row.new.kept (option_map (with_row r) k.case)) c.row.ensures
    (keeps k.case k.for_case (subst (λ (r : Row). CanKeep k.case r) (sym c.row.ensures) can))) c.keep_row.ensures.ok)
    c.keep_row.ensures.err
    (ended_row c.args.formula.now c.args.self.now.rows new k.case bytes k.is ok.kept.0 ok.kept.1 new.row whole)

pub returns-in-Ok-Nothing : goal.returns-in-Ok-Nothing
returns-in-Ok-Nothing g c = λ bytes k.
    let new = c.end.new.self in
    let ok = c.in-Ok-Nothing.ensures in
    let whole = subst (λ (e : Event). IsWholeTrace new bytes (rows_after e k.is.rows new.row)) c.in-Ok-Nothing.field-0-is
    (ok.ok bytes k.is.rows k.is.stands) in
    ended_as g.K.Keep.stands c.args.self.now.rows.limits c.args.formula.now bytes c.args.self.now.kept k.case k.for_case
    (ended_now c.args.formula.now c.args.self.now.rows new k.case bytes k.is ok.kept.0 ok.kept.1 whole)

pub returns-in-Err : goal.returns-in-Err
returns-in-Err g c = λ bytes k.
    let err = c.in-Err.ensures in
    refused_end c.args.formula.now c.args.self.now.rows c.end.new.self k.case bytes k.is err.kept.0 err.kept.1
    c.in-Err.refusal (err.fault bytes k.is.rows k.is.stands)
    (λ e. err.header e bytes k.is.rows k.is.stands) (err.line k.is.stands.open_end.0 ∙ err.kept.2) c.last_fault.result
    (last_kept g.K.Keep.stands c.args.formula.now c.end.new.self c.args.self.now.kept k.case c.in-Err.refusal c.last_fault.result k.for_case
    c.last_fault.ensures)
