use Rattle.std.proofs.Common.{false, [], ◌∷◌, ◌++◌, ◌+◌, take, drop, subst, append-nil}
use Rattle.std.proofs.lemmas.Result.{err_from_is_err_and}
use Rattle.trace_reader.proofs.FeedLemmas.{none-free, at-taken}
use Rattle.session_mux.specs.Taking.{IsTaking, IsInputStop}
use Rattle.session_mux.proofs.InputBytes.{with_feed, fed_stop, piece_parts, piece_front}
use Rattle.session_mux.proofs.input.Input.take_line.Goals as goal

pub returns-in_err-go_on-in-Some-clause-taken : goal.returns-in_err-go_on-in-Some-clause-taken
returns-in_err-go_on-in-Some-clause-taken c =
    let p = err_from_is_err_and c.from_residual.result c.from_residual.ensures.1 in
    let piece = c.args.piece.now in
    let at = c.in-Some.at in
    let h = c.in-Some.ensures in
    rw (p.1, p.2) (λ f bytes written k.
    subst (λ b. IsInputStop f b false (written ++ c.go_on.new.self.text) c.in_err-go_on-in-Some.field-0.0)
    (piece_parts piece at (at-taken piece at h.0 h.1) bytes)
    (c.in_err-go_on-in-Some.ensures f bytes written k false (10 ∷ drop (at + 1) piece)))

pub answer-requires : goal.answer-requires
answer-requires c =
    let r = c.requires in
    record {
      formula = r.formula;
      bytes = r.bytes ++ take c.in-Some.at c.args.piece.now;
      written = r.written;
      is = c.in_ok-go_on-in-Some.ensures r.formula r.bytes r.written r.is;
    }

pub returns-in_err-answer-in-Some-clause-taken : goal.returns-in_err-answer-in-Some-clause-taken
returns-in_err-answer-in-Some-clause-taken c =
    let p = err_from_is_err_and c.from_residual-in_err-answer-in-Some.result c.from_residual-in_err-answer-in-Some.ensures.1 in
    let piece = c.args.piece.now in
    let at = c.in-Some.at in
    let h = c.in-Some.ensures in
    let e = c.in_err-answer-in-Some.field-0.0 in
    rw (p.1, p.2) (λ f bytes written k.
    let mid = c.in_ok-go_on-in-Some.ensures f bytes written k in
    subst (λ b. IsInputStop f b false (written ++ c.answer.new.self.text) e) (piece_parts piece at (at-taken piece at h.0 h.1) bytes)
    (fed_stop f c.go_on.new.self (bytes ++ take at piece) written mid (drop (at + 1) piece) (written ++ c.answer.new.self.text) e
    (c.in_err-answer-in-Some.ensures.lines f (bytes ++ take at piece) written mid)))

pub go_on-requires-in-None-clause-free : goal.go_on-requires-in-None-clause-free
go_on-requires-in-None-clause-free c = none-free c.args.piece.now c.in-None.ensures

pub returns-in_err-go_on-in-None-clause-taken : goal.returns-in_err-go_on-in-None-clause-taken
returns-in_err-go_on-in-None-clause-taken c =
    let p = err_from_is_err_and c.from_residual-in_err-go_on-in-None.result c.from_residual-in_err-go_on-in-None.ensures.1 in
    let piece = c.args.piece.now in
    rw (p.1, p.2) (λ f bytes written k.
    subst (λ b. IsInputStop f b false (written ++ c.go_on-in-None.new.self.text) c.in_err-go_on-in-None.field-0.0) (append-nil (bytes ++ piece))
    (c.in_err-go_on-in-None.ensures f bytes written k false []))

pub returns-in_ok-answer-in-Some-clause-taken : goal.returns-in_ok-answer-in-Some-clause-taken
returns-in_ok-answer-in-Some-clause-taken c = λ f bytes written k.
    let piece = c.args.piece.now in
    let at = c.in-Some.at in
    let h = c.in-Some.ensures in
    let mid = c.in_ok-go_on-in-Some.ensures f bytes written k in
    let ok = c.in_ok-answer-in-Some.ensures.ok in
    subst (λ b. IsTaking f c.answer.new.self b written) (piece_front piece at (at-taken piece at h.0 h.1) bytes)
    (with_feed f c.go_on.new.self (bytes ++ take at piece) written mid c.answer.new.self ok.0 ok.1 ok.2
    (c.in_ok-answer-in-Some.ensures.lines f (bytes ++ take at piece) written mid))
