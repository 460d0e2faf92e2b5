-- A piece up to its first LF, or the whole of it.
use Rattle.std.proofs.Common.{◌++◌, length, take, subst, sym, ◌∙◌, arith}
use Rattle.std.proofs.lemmas.Result.{err_from_is_err_and}
use Rattle.std.proofs.lemmas.List.{take_all}
use Rattle.trace_reader.specs.Feeds.{rows_after}
use Rattle.trace_reader.specs.Reader.{StandsFor, IsFaultOfAll, HasReadBefore, HasCome}
use Rattle.trace_reader.specs.LineReader.{state}
use Rattle.trace_reader.proofs.FeedLemmas.{none-free, none-all, at-free, at-taken, at-through}
use Rattle.trace_reader.proofs.ReaderTakes.{hold_stands, hold_fault, hold_before, finish_stands, finish_fault, finish_before, finish_kept, read_come}
use Rattle.trace_reader.proofs.line_reader.LineReader.find_line.Goals as goal

pub returns-in_err-hold-in-None-clause-fault : goal.returns-in_err-hold-in-None-clause-fault
returns-in_err-hold-in-None-clause-fault c =
    let piece = c.args.piece.now in
    let limits = c.args.limits.now in
    let old = c.args.self.now in
    let new = c.hold.new.self in
    let h = c.in-None.ensures in
    let p = err_from_is_err_and c.from_residual.result c.from_residual.ensures.1 in
    let e = c.in_err-hold-in-None.ensures in
    rw (p.1, p.2) (λ bytes rows s. subst (λ t. IsFaultOfAll limits old.content.least (bytes ++ t) c.in_err-hold-in-None.field-0.0) (sym (none-all piece h))
    (hold_fault limits old new c.requires piece (none-free piece h) e.begun c.in_err-hold-in-None.field-0.0 e.held bytes rows s))

pub returns-in_err-event-in-Some-clause-fault : goal.returns-in_err-event-in-Some-clause-fault
returns-in_err-event-in-Some-clause-fault c =
    let piece = c.args.piece.now in
    let at = c.in-Some.at in
    let limits = c.args.limits.now in
    let old = c.args.self.now in
    let new = c.finish.new.self in
    let h = c.in-Some.ensures in
    let p = err_from_is_err_and c.from_residual-in_err-event-in-Some.result c.from_residual-in_err-event-in-Some.ensures.1 in
    let e = c.in_err-event-in-Some.ensures in
    let x = c.in_err-event-in-Some.field-0.0 in
    rw (p.1, p.2) (λ bytes rows s. subst (λ t. IsFaultOfAll limits old.content.least (bytes ++ t) x) (sym (at-through piece at h.0 h.1))
    (finish_fault limits old new c.requires (take at piece) (at-free piece at h.0 h.1) e.begun x e.finished bytes rows s))

pub returns-in_err-hold-in-None-clause-before : goal.returns-in_err-hold-in-None-clause-before
returns-in_err-hold-in-None-clause-before c =
    let piece = c.args.piece.now in
    let limits = c.args.limits.now in
    let old = c.args.self.now in
    let new = c.hold.new.self in
    let h = c.in-None.ensures in
    let p = err_from_is_err_and c.from_residual.result c.from_residual.ensures.1 in
    let e = c.in_err-hold-in-None.ensures in
    let x = c.in_err-hold-in-None.field-0.0 in
    rw (p.1, p.2) (λ bytes rows s. subst (λ t. HasReadBefore x.line old.content.heading old.content.least (bytes ++ t) rows) (sym (none-all piece h))
    (hold_before limits old new c.requires piece (none-free piece h) e.begun x e.held bytes rows s))

pub returns-in_err-event-in-Some-clause-before : goal.returns-in_err-event-in-Some-clause-before
returns-in_err-event-in-Some-clause-before c =
    let piece = c.args.piece.now in
    let at = c.in-Some.at in
    let limits = c.args.limits.now in
    let old = c.args.self.now in
    let new = c.finish.new.self in
    let h = c.in-Some.ensures in
    let p = err_from_is_err_and c.from_residual-in_err-event-in-Some.result c.from_residual-in_err-event-in-Some.ensures.1 in
    let e = c.in_err-event-in-Some.ensures in
    let x = c.in_err-event-in-Some.field-0.0 in
    let free = at-free piece at h.0 h.1 in
    let line = (finish_kept limits old new c.requires (take at piece) free e.begun x e.finished).0 in
    rw (p.1, p.2) (λ bytes rows s. subst (λ t. HasReadBefore x.line old.content.heading old.content.least (bytes ++ t) rows) (sym (at-through piece at h.0 h.1))
    (finish_before limits old new c.requires (take at piece) free e.begun x line bytes rows s))

pub returns-in_ok-hold-in-None-clause-bytes : goal.returns-in_ok-hold-in-None-clause-bytes
returns-in_ok-hold-in-None-clause-bytes c =
    let piece = c.args.piece.now in
    take_all (length piece) piece (omega arith) ∙ sym (none-all piece c.in-None.ensures)

pub returns-in_ok-hold-in-None-clause-ok : goal.returns-in_ok-hold-in-None-clause-ok
returns-in_ok-hold-in-None-clause-ok c = λ bytes rows s.
    let piece = c.args.piece.now in
    let limits = c.args.limits.now in
    let new = c.hold.new.self in
    let h = c.in-None.ensures in
    let e = c.in_ok-hold-in-None.ensures in
    subst (λ t. StandsFor (state limits new) (bytes ++ t) rows) (sym (none-all piece h))
    (hold_stands limits c.args.self.now new c.requires piece (none-free piece h) e.begun e.held.0 e.held.1 e.content bytes rows s)

pub returns-in_ok-event-in-Some-clause-bytes : goal.returns-in_ok-event-in-Some-clause-bytes
returns-in_ok-event-in-Some-clause-bytes c =
    let piece = c.args.piece.now in
    let at = c.in-Some.at in
    let h = c.in-Some.ensures in
    at-taken piece at h.0 h.1 ∙ sym (at-through piece at h.0 h.1)

pub returns-in_ok-event-in-Some-clause-came : goal.returns-in_ok-event-in-Some-clause-came
returns-in_ok-event-in-Some-clause-came c =
    let piece = c.args.piece.now in
    let at = c.in-Some.at in
    let h = c.in-Some.ensures in
    let limits = c.args.limits.now in
    let old = c.args.self.now in
    let new = c.finish.new.self in
    subst (HasCome c.in_ok-event-in-Some.event (state limits old) (state limits new)) (sym (at-through piece at h.0 h.1))
    (read_come {limits = limits} old new (take at piece) c.in_ok-event-in-Some.ensures.finished.2)

pub returns-in_ok-event-in-Some-clause-ok : goal.returns-in_ok-event-in-Some-clause-ok
returns-in_ok-event-in-Some-clause-ok c = λ bytes rows s.
    let piece = c.args.piece.now in
    let at = c.in-Some.at in
    let h = c.in-Some.ensures in
    let limits = c.args.limits.now in
    let new = c.finish.new.self in
    let e = c.in_ok-event-in-Some.ensures in
    let event = c.in_ok-event-in-Some.event in
    subst (λ t. StandsFor (state limits new) (bytes ++ t) (rows_after event rows new.content.row)) (sym (at-through piece at h.0 h.1))
    (finish_stands limits c.args.self.now new c.requires (take at piece)
    (at-free piece at h.0 h.1) e.begun event e.finished.0 e.finished.1 e.finished.2 bytes rows s)
