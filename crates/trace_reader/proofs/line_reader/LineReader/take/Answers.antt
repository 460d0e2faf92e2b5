-- Lines of a piece, up to the first that is the header or a row.
use Rattle.std.proofs.Common.{◌≡◌, ◌++◌, ◌+◌, ◌≤◌, ◌<◌, ℕ, List, length, take, drop, subst, sym, ap, ◌∙◌, arith, append_assoc}
use Rattle.std.proofs.lemmas.Result.{err_from_is_err_and}
use Rattle.std.proofs.lemmas.List.{take_rest, take-append-drop, length-drop}
use Rattle.stl_syntax.specs.Trace.{Row}
use Rattle.trace_reader.specs.Feeds.{rows_after, through_feed}
use Rattle.trace_reader.specs.Reader.{StandsFor, IsFaultOfAll, HasReadBefore, HasCome}
use Rattle.trace_reader.specs.LineReader.{state}
use Rattle.trace_reader.proofs.ReaderTakes.{through_parts, fault_on, before_on, come_on, take_on}
use Rattle.trace_reader.proofs.line_reader.LineReader.take.Goals as goal

pub returns-in_err-took-clause-fault : goal.returns-in_err-took-clause-fault
returns-in_err-took-clause-fault c =
    let p = err_from_is_err_and c.from_residual.result c.from_residual.ensures.1 in
    let piece = c.args.piece.now in
    let at = c.loop-at.at in
    let limits = c.args.limits.now in
    let old = c.args.self.now in
    let x = c.in_err-took.field-0.0 in
    let (others, e) = through_parts (drop at piece) in
    let whole : piece ≡ take at piece ++ (through_feed (drop at piece) ++ others) = sym (take-append-drop at piece) ∙ ap (λ t. take at piece ++ t) e in
    let f = rw take_rest at c.in_err-took.ensures.fault in
    rw (p.1, p.2) (λ bytes rows s. subst (λ l. IsFaultOfAll limits l (bytes ++ piece) x) c.loop-at.invariant.content.3
    (fault_on limits c.loop-at.self.content.least bytes (take at piece) (through_feed (drop at piece)) others x whole
    (f (bytes ++ take at piece) rows (c.loop-at.invariant.stands bytes rows s))))

pub returns-in_err-took-clause-before : goal.returns-in_err-took-clause-before
returns-in_err-took-clause-before c =
    let p = err_from_is_err_and c.from_residual.result c.from_residual.ensures.1 in
    let piece = c.args.piece.now in
    let at = c.loop-at.at in
    let x = c.in_err-took.field-0.0 in
    let i = c.loop-at.invariant in
    let content = c.loop-at.self.content in
    let (others, e) = through_parts (drop at piece) in
    let whole : piece ≡ take at piece ++ (through_feed (drop at piece) ++ others) = sym (take-append-drop at piece) ∙ ap (λ t. take at piece ++ t) e in
    let f = rw take_rest at c.in_err-took.ensures.before in
    rw (p.1, p.2) (λ bytes rows s. subst (λ h. HasReadBefore x.line h c.args.self.now.content.least (bytes ++ piece) rows) i.content.0
    (subst (λ l. HasReadBefore x.line content.heading l (bytes ++ piece) rows) i.content.3
    (before_on x.line content.heading content.least rows bytes (take at piece) (through_feed (drop at piece)) others whole
    (f (bytes ++ take at piece) rows (i.stands bytes rows s)))))

pub loop-at-preserved : goal.loop-at-preserved
loop-at-preserved c =
    let piece = c.args.piece.now in
    let at = c.loop-at.at in
    let n = c.in_ok-took.took.bytes in
    let limits = c.args.limits.now in
    let new = c.take_line.new.self in
    let e = c.in_ok-took.ensures in
    let i = c.loop-at.invariant in
    let size = rw take_rest at e.size in
    let within : at + n ≤ length piece = omega (arith, size.0, length-drop at piece, i.within) in
    let taken : take n (drop at piece) ≡ through_feed (drop at piece) = rw take_rest at e.bytes in
    let came =
    subst (λ v. HasCome v (state limits c.loop-at.self) (state limits new) (through_feed (drop at piece))) c.in-Nothing.is (rw take_rest at e.came) in
    let ok = subst (λ v. (bytes : List ℕ) (rows : List Row) → StandsFor (state limits c.loop-at.self) bytes rows
    → StandsFor (state limits new) (bytes ++ through_feed (drop at piece)) (rows_after v rows new.content.row))
    c.in-Nothing.is (rw take_rest at e.ok) in
    record {
      within = within;
      bounds = e.within;
      content = (came.0 ∙ i.content.0, came.1 ∙ i.content.1, came.2 ∙ i.content.2, e.least ∙ i.content.3);
      stands = λ bytes rows s. subst (λ t. StandsFor (state limits new) t rows) (append_assoc bytes (take at piece) (through_feed (drop at piece))
          ∙ ap (λ t. bytes ++ t) (sym (take_on at n piece (through_feed (drop at piece)) taken i.within size.0)))
          (ok (bytes ++ take at piece) rows (i.stands bytes rows s));
    }

pub returns-in_default : goal.returns-in_default
returns-in_default c =
    let piece = c.args.piece.now in
    let at = c.loop-at.at in
    let n = c.in_ok-took.took.bytes in
    let v = c.in_ok-took.took.event in
    let limits = c.args.limits.now in
    let old = c.args.self.now in
    let new = c.take_line.new.self in
    let e = c.in_ok-took.ensures in
    let i = c.loop-at.invariant in
    let size = rw take_rest at e.size in
    let within : at + n ≤ length piece = omega (arith, size.0, length-drop at piece, i.within) in
    let some : 0 < n = size.1 (omega (arith, length-drop at piece, c.loop-at-test.true)) in
    let taken : take n (drop at piece) ≡ through_feed (drop at piece) = rw take_rest at e.bytes in
    let longer : take (at + n) piece ≡ take at piece ++ through_feed (drop at piece) =
    take_on at n piece (through_feed (drop at piece)) taken i.within size.0 in
    let came = rw take_rest at e.came in
    let ok = rw take_rest at e.ok in
    record {
      size = (within, λ _. omega (arith, some));
      all = λ is. absurd (c.in_default.not-Nothing is);
      came = subst (HasCome v (state limits old) (state limits new)) (sym longer)
          (come_on v (state limits old) (state limits c.loop-at.self) (state limits new) (take at piece)
          (through_feed (drop at piece)) i.content.0 i.content.1 i.content.2 came);
      ok = λ bytes rows s. subst (λ t. StandsFor (state limits new) t (rows_after v rows new.content.row))
          (append_assoc bytes (take at piece) (through_feed (drop at piece)) ∙ ap (λ t. bytes ++ t) (sym longer))
          (ok (bytes ++ take at piece) rows (i.stands bytes rows s));
      within = e.within;
      fault = tt;
      before = tt;
      line = tt;
      content = tt;
      least = e.least ∙ i.content.3;
    }
