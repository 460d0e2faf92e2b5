use Rattle.std.proofs.Common.{false, ◌++◌, sym, ◌∙◌, subst}
use Rattle.std.proofs.lemmas.Result.{err_from_is_err_and}
use Rattle.std.specs.Prelude.{option_map}
use Rattle.stl_syntax.specs.Trace.{Row}
use Rattle.trace_reader.specs.Feeds.{rows_after}
use Rattle.trace_reader.specs.Reader.{IsWholeTrace, IsNextRow, HasEndedWith}
use Rattle.trace_reader.specs.declared.event.Event.{Event}
use Rattle.trace_stream.specs.Cases.{CanKeep, with_row}
use Rattle.trace_stream.specs.Following.{IsOpened, IsHeldUp}
use Rattle.trace_stream.proofs.Ends.{ended_now, ended_row, end_can, has_header, refused_end}
use Rattle.trace_stream.proofs.ReaderSteps.{open_of, more_text, last_by_case, live_end_refused, last_taken, last_row, last_held}
use Rattle.trace_stream.proofs.live.Live.last.Goals as goal

pub take_row-requires : goal.take_row-requires
take_row-requires g c =
    let k = c.requires.is in
    let bytes = c.requires.bytes in
    let old = c.args.self.now in
    let new = c.end.new.self in
    let ok = c.in-Ok-Row.ensures in
    let whole =
    subst (λ (e : Event). IsWholeTrace new bytes (rows_after e k.kept.rows new.row)) c.in-Ok-Row.field-0-is (ok.ok bytes k.kept.rows k.kept.stands) in
    let next = subst (λ (e : Event). IsNextRow e new.heading k.kept.rows new.row) c.in-Ok-Row.field-0-is (ok.next bytes k.kept.rows k.kept.stands) in (
      k.case,
      c.requires.written ++ old.text,
      open_of g.F.Follow.stands g.F.Follow.owes g.F.Follow.kind old.follower k.case (c.requires.written ++ old.text) k.followed,
      subst (λ (r : Row). CanKeep k.case r) (sym c.row.ensures)
          (end_can old.formula old.rows new k.case bytes k.kept ok.kept.0 ok.kept.1 new.row whole next),
    )

pub unreachable-requires : goal.unreachable-requires
unreachable-requires g c = subst (λ (e : Event). HasEndedWith e c.end.new.self) c.in-Ok-Header.field-0-is c.in-Ok-Header.ensures.event

pub last_fault-requires : goal.last_fault-requires
last_fault-requires g c = λ e.
    let k = c.requires.is.kept in
    let err = c.in-Err.ensures in
    has_header c.args.self.now.formula c.args.self.now.rows c.end.new.self c.requires.is.case c.requires.bytes k err.kept.0 err.kept.1
    (err.header e c.requires.bytes k.rows k.stands)

pub flush-requires : goal.flush-requires
flush-requires g c =
    let k = c.requires.is in
    let bytes = c.requires.bytes in
    let old = c.args.self.now in
    let new = c.end.new.self in
    let ok = c.in-Ok-Row.ensures in
    let whole =
    subst (λ (e : Event). IsWholeTrace new bytes (rows_after e k.kept.rows new.row)) c.in-Ok-Row.field-0-is (ok.ok bytes k.kept.rows k.kept.stands) in
    let next = subst (λ (e : Event). IsNextRow e new.heading k.kept.rows new.row) c.in-Ok-Row.field-0-is (ok.next bytes k.kept.rows k.kept.stands) in
    let can = end_can old.formula old.rows new k.case bytes k.kept ok.kept.0 ok.kept.1 new.row whole next in
    let (grown, text, opened) = c.in_ok-take_row-in-Ok-Row.ensures.ok k.case (c.requires.written ++ old.text)
    (open_of g.F.Follow.stands g.F.Follow.owes g.F.Follow.kind old.follower k.case (c.requires.written ++ old.text) k.followed)
    (subst (λ (r : Row). CanKeep k.case r) (sym c.row.ensures) can) in
    (option_map (with_row c.row.result.now) k.case, (c.requires.written ++ old.text) ++ grown, opened)

pub returns-in_ok-take_row-in-Ok-Row-clause-last : goal.returns-in_ok-take_row-in-Ok-Row-clause-last
returns-in_ok-take_row-in-Ok-Row-clause-last g c = λ bytes written k.
    let old = c.args.self.now in
    let new = c.end.new.self in
    let ok = c.in-Ok-Row.ensures in
    let mid = c.take_row.new in
    let whole =
    subst (λ (e : Event). IsWholeTrace new bytes (rows_after e k.kept.rows new.row)) c.in-Ok-Row.field-0-is (ok.ok bytes k.kept.rows k.kept.stands) in
    let next = subst (λ (e : Event). IsNextRow e new.heading k.kept.rows new.row) c.in-Ok-Row.field-0-is (ok.next bytes k.kept.rows k.kept.stands) in
    let can = end_can old.formula old.rows new k.case bytes k.kept ok.kept.0 ok.kept.1 new.row whole next in
    let (grown, text, opened) = c.in_ok-take_row-in-Ok-Row.ensures.ok k.case (written ++ old.text)
    (open_of g.F.Follow.stands g.F.Follow.owes g.F.Follow.kind old.follower k.case (written ++ old.text) k.followed)
    (subst (λ (r : Row). CanKeep k.case r) (sym c.row.ensures) can) in
    let now = subst (λ (r : Row).
    IsOpened g.F.Follow.stands g.F.Follow.owes g.F.Follow.kind mid.follower (option_map (with_row r) k.case) (written ++ mid.text)) c.row.ensures
    (subst (λ made. IsOpened g.F.Follow.stands g.F.Follow.owes g.F.Follow.kind mid.follower (option_map (with_row c.row.result.now) k.case) made)
    (sym (more_text written old.text mid.text grown text)) opened) in
    last_row g.F.Follow.stands g.F.Follow.kind old.rows.limits old.formula bytes written k.case new.row
    (ended_row old.formula old.rows new k.case bytes k.kept ok.kept.0 ok.kept.1 new.row whole)
    mid.text c.flush.new.text c.flush.new.follower c.flush.result
    (c.flush.ensures.ok (option_map (with_row new.row) k.case) (written ++ mid.text) now) c.flush.ensures.err

pub returns-in_err-take_row-in-Ok-Row-clause-last : goal.returns-in_err-take_row-in-Ok-Row-clause-last
returns-in_err-take_row-in-Ok-Row-clause-last g c =
    let p = err_from_is_err_and c.from_residual.result c.from_residual.ensures.1 in
    rw (p.1, p.2) (λ bytes written k.
    let old = c.args.self.now in
    let new = c.end.new.self in
    let ok = c.in-Ok-Row.ensures in
    let whole =
    subst (λ (e : Event). IsWholeTrace new bytes (rows_after e k.kept.rows new.row)) c.in-Ok-Row.field-0-is (ok.ok bytes k.kept.rows k.kept.stands) in
    let next = subst (λ (e : Event). IsNextRow e new.heading k.kept.rows new.row) c.in-Ok-Row.field-0-is (ok.next bytes k.kept.rows k.kept.stands) in
    let can = end_can old.formula old.rows new k.case bytes k.kept ok.kept.0 ok.kept.1 new.row whole next in
    let stop = c.in_err-take_row-in-Ok-Row.field-0.0 in
    let held = subst (λ (r : Row). IsHeldUp g.F.Follow.kind (option_map (with_row r) k.case) false old.text c.take_row.new.text stop) c.row.ensures
    (c.in_err-take_row-in-Ok-Row.ensures.err k.case (written ++ old.text)
    (open_of g.F.Follow.stands g.F.Follow.owes g.F.Follow.kind old.follower k.case (written ++ old.text) k.followed)
    (subst (λ (r : Row). CanKeep k.case r) (sym c.row.ensures) can)) in
    last_held g.F.Follow.stands g.F.Follow.kind old.rows.limits old.formula bytes written k.case new.row
    (ended_row old.formula old.rows new k.case bytes k.kept ok.kept.0 ok.kept.1 new.row whole)
    old.text c.take_row.new.text old.follower stop held k.followed)

pub returns-in-Ok-Nothing-clause-last : goal.returns-in-Ok-Nothing-clause-last
returns-in-Ok-Nothing-clause-last g c = λ bytes written k.
    let old = c.args.self.now in
    let new = c.end.new.self in
    let ok = c.in-Ok-Nothing.ensures in
    let whole = subst (λ (e : Event). IsWholeTrace new bytes (rows_after e k.kept.rows new.row)) c.in-Ok-Nothing.field-0-is
    (ok.ok bytes k.kept.rows k.kept.stands) in
    last_taken g.F.Follow.stands g.F.Follow.kind old.rows.limits old.formula old.follower k.case bytes (written ++ old.text)
    (ended_now old.formula old.rows new k.case bytes k.kept ok.kept.0 ok.kept.1 whole) k.followed

pub returns-in-Err-clause-last : goal.returns-in-Err-clause-last
returns-in-Err-clause-last g c = λ bytes written k.
    let old = c.args.self.now in
    let err = c.in-Err.ensures in
    live_end_refused g.F.Follow.stands g.F.Follow.kind old.formula old.rows old.follower k.case bytes
    (written ++ old.text) k.kept c.last_fault.result k.followed
    (refused_end old.formula old.rows c.end.new.self k.case bytes k.kept err.kept.0 err.kept.1 c.in-Err.refusal (err.fault bytes k.kept.rows k.kept.stands)
    (λ e. err.header e bytes k.kept.rows k.kept.stands) (err.line k.kept.stands.open_end.0 ∙ err.kept.2) c.last_fault.result
    (last_by_case g.F.Follow.stands g.F.Follow.kind old.formula c.end.new.self old.follower k.case
    (written ++ old.text) c.in-Err.refusal c.last_fault.result k.followed c.last_fault.ensures))
