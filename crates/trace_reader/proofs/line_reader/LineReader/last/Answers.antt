-- The end of the bytes.
use Rattle.std.proofs.Common.{◌≡◌, ◌∙◌, [], ap, sym, subst, refl, arith, true}
use Rattle.std.specs.Prelude.{IsSome}
use Rattle.std.proofs.lemmas.Result.{err_from_is_err_and}
use Rattle.trace_reader.specs.TraceText.{TraceOf}
use Rattle.trace_reader.specs.TraceRefusals.{IsFirstFault}
use Rattle.trace_reader.specs.Feeds.{rows_after}
use Rattle.trace_reader.specs.Reader.{header_of, IsNextRow}
use Rattle.trace_reader.specs.LineReader.{IsWhole}
use Rattle.trace_reader.specs.declared.refusal.TraceRefusal.{TraceRefusal}
use Rattle.trace_reader.proofs.ReaderSteps.{no_header, no_rows, read_whole, has_trace, next_row}
use Rattle.trace_reader.proofs.ReaderTakes.{header_none, header_some, rows_same, no_rows_left}
use Rattle.trace_reader.proofs.line_reader.LineReader.last.Goals as goal

pub returns-in_err-event-clause-header : goal.returns-in_err-event-clause-header
returns-in_err-event-clause-header c =
    let p = err_from_is_err_and c.from_residual.result c.from_residual.ensures.1 in
    rw (p.1, p.2) (λ is. absurd (c.in_err-event.ensures.kind is))

pub returns-then-is_none-clause-fault : goal.returns-then-is_none-clause-fault
returns-then-is_none-clause-fault c = λ bytes rows s.
    let new = c.close_last.new.self in
    let e = c.in_ok-event.ensures in
    let n = header_none c.header.result new.content.heading (header_of new.content.least) c.header.ensures c.if-is_none.ensures in
    let x = c.refusal.result in
    subst (λ l. IsFirstFault bytes true c.args.limits.now l x) e.least
    (no_header c.args.limits.now new.content new.lines.begun bytes (rows_after c.in_ok-event.event rows new.content.row) (e.ok bytes rows s) n x
    (ap (λ (y : TraceRefusal). y.line) c.refusal.ensures) (ap (λ (y : TraceRefusal). y.kind) c.refusal.ensures))

pub returns-then-count-eq0-clause-fault : goal.returns-then-count-eq0-clause-fault
returns-then-count-eq0-clause-fault c = λ bytes rows s.
    let new = c.close_last.new.self in
    let e = c.in_ok-event.ensures in
    let (g, n) = header_some c.header.result new.content.heading (header_of new.content.least) c.header.ensures c.if-is_none.ensures in
    let x = c.refusal-then-count-eq0.result in
    subst (λ l. IsFirstFault bytes true c.args.limits.now l x) e.least
    (no_rows c.args.limits.now new.content new.lines.begun bytes (rows_after c.in_ok-event.event rows new.content.row)
    (e.ok bytes rows s) g n (sym c.count.ensures ∙ c.if-count-eq0.true) x
    (ap (λ (y : TraceRefusal). y.line) c.refusal-then-count-eq0.ensures) (ap (λ (y : TraceRefusal). y.kind) c.refusal-then-count-eq0.ensures))

pub returns-then-count-eq0-clause-header : goal.returns-then-count-eq0-clause-header
returns-then-count-eq0-clause-header c = λ is bytes rows s.
    let new = c.close_last.new.self in
    let e = c.in_ok-event.ensures in
    let (g, n) = header_some c.header.result new.content.heading (header_of new.content.least) c.header.ensures c.if-is_none.ensures in
    let after = rows_after c.in_ok-event.event rows new.content.row in
    let h = e.ok bytes rows s in
    let none : after ≡ [] = no_rows_left c.in_ok-event.event rows new.content.row new.content.count h.taken.count
    (sym c.count.ensures ∙ c.if-count-eq0.true) in (
      g,
      n,
      subst (λ rs. TraceOf bytes true new.content.least (header_of new.content.least g) rs) none
          (read_whole c.args.limits.now new.content new.lines.begun bytes after h g n),
    )

pub returns-in-Row-clause-ok : goal.returns-in-Row-clause-ok
returns-in-Row-clause-ok c = λ bytes rows s.
    let new = c.close_last.new.self in
    let e = c.in_ok-event.ensures in
    let (g, n) = header_some c.header.result new.content.heading (header_of new.content.least) c.header.ensures c.if-is_none.ensures in
    let after = rows_after c.in_ok-event.event rows new.content.row in
    let w : IsWhole c.args.limits.now new.content bytes after = (
      g,
      n,
      has_trace c.args.limits.now new.content new.lines.begun bytes after (e.ok bytes rows s) g n
          (omega (arith, c.count.ensures, c.if-count-eq0.false)),
    ) in
    subst (λ v. IsWhole c.args.limits.now new.content bytes (rows_after v rows new.content.row)) c.in-Row.is w

pub returns-in-Row-clause-next : goal.returns-in-Row-clause-next
returns-in-Row-clause-next c = λ bytes rows s.
    let new = c.close_last.new.self in
    let (g, n) = header_some c.header.result new.content.heading (header_of new.content.least) c.header.ensures c.if-is_none.ensures in
    let h = c.in_ok-event.ensures.ok bytes rows s in
    subst (λ v. IsNextRow v new.content.heading rows new.content.row) c.in-Row.is
    (next_row c.in_ok-event.event new.content.heading rows new.content.row h.taken.rising (λ w. subst IsSome (sym n) refl))

pub returns-in_default : goal.returns-in_default
returns-in_default c =
    let new = c.close_last.new.self in
    let e = c.in_ok-event.ensures in
    let (g, n) = header_some c.header.result new.content.heading (header_of new.content.least) c.header.ensures c.if-is_none.ensures in
    record {
      ok = λ bytes rows s.
          let after = rows_after c.in_ok-event.event rows new.content.row in
          let w : IsWhole c.args.limits.now new.content bytes after = (
            g,
            n,
            has_trace c.args.limits.now new.content new.lines.begun bytes after (e.ok bytes rows s) g n
                (omega (arith, c.count.ensures, c.if-count-eq0.false)),
          ) in
          subst (IsWhole c.args.limits.now new.content bytes) (rows_same c.in_ok-event.event rows new.content.row c.in_default.not-Row) w;
      next = λ bytes rows s. tt;
      event = subst IsSome (sym n) refl;
      fault = tt;
      before = tt;
      header = tt;
      line = tt;
      begun = e.begun;
      least = e.least;
    }
