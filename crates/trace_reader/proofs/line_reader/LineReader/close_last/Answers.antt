-- A last line without LF.
use Rattle.std.proofs.Common.{◌++◌, [], sym, ap, subst, refl}
use Rattle.std.proofs.lemmas.Bool.{false≢true}
use Rattle.trace_reader.specs.LineReader.{ReadsLineAt, HasEnded}
use Rattle.trace_reader.specs.Feeds.{rows_after}
use Rattle.trace_reader.specs.Cut.{Cut}
use Rattle.trace_reader.proofs.KindLemmas.{refused_kind}
use Rattle.trace_reader.proofs.LineLemmas.{some_bytes}
use Rattle.trace_reader.proofs.ReaderTakes.{last_between, last_closed, last_bad, last_before, if_ok, if_err}
use Rattle.trace_reader.proofs.line_reader.LineReader.close_last.Goals as goal

pub returns-then-is_between-clause-ok : goal.returns-then-is_between-clause-ok
returns-then-is_between-clause-ok c = λ bytes rows s. last_between c.args.limits.now c.args.self.now (c.if-is_between.ensures.0 refl) bytes rows s

pub returns-clause-ok : goal.returns-clause-ok
returns-clause-ok c =
    let limits = c.args.limits.now in
    let old = c.args.self.now in
    let new = c.close.new.self in
    let some = some_bytes old.lines.line (λ e. false≢true (c.if-is_between.ensures.1 e)) in
    if_ok c.close.result _ (λ event is bytes rows s.
    let read = subst (ReadsLineAt limits old.lines.begun (old.lines.line ++ []) old.content new.content) is c.close.ensures.read in
    let begun = ap (λ (l : Cut). l.begun) c.close.ensures.lines in
    subst (λ b. HasEnded limits new.content b bytes (rows_after event rows new.content.row)) (sym begun)
    (last_closed limits old new c.requires some event read bytes rows s))

pub returns-clause-fault : goal.returns-clause-fault
returns-clause-fault c =
    let limits = c.args.limits.now in
    let old = c.args.self.now in
    let new = c.close.new.self in
    let some = some_bytes old.lines.line (λ e. false≢true (c.if-is_between.ensures.1 e)) in
    if_err c.close.result _ (λ x is bytes rows s.
    let read = subst (ReadsLineAt limits old.lines.begun (old.lines.line ++ []) old.content new.content) is c.close.ensures.read in
    last_bad limits old new c.requires some x read.0 read.1 bytes rows s)

pub returns-clause-before : goal.returns-clause-before
returns-clause-before c =
    let limits = c.args.limits.now in
    let old = c.args.self.now in
    let new = c.close.new.self in
    let some = some_bytes old.lines.line (λ e. false≢true (c.if-is_between.ensures.1 e)) in
    if_err c.close.result _ (λ x is bytes rows s.
    let read = subst (ReadsLineAt limits old.lines.begun (old.lines.line ++ []) old.content new.content) is c.close.ensures.read in
    last_before limits old some x read.0 bytes rows s)

pub returns-clause-kind : goal.returns-clause-kind
returns-clause-kind c =
    if_err c.close.result _ (λ x is.
    let read = subst (ReadsLineAt c.args.limits.now c.args.self.now.lines.begun
    (c.args.self.now.lines.line ++ []) c.args.self.now.content c.close.new.self.content) is c.close.ensures.read in
    refused_kind read.1)
