use Rattle.std.proofs.Common.{false, Some, ◌++◌, take, drop, refl, sym, subst}
use Rattle.std.proofs.lemmas.Result.{err_from_is_err_and}
use Rattle.std.specs.Prelude.{option_map}
use Rattle.stl_syntax.specs.Trace.{Row}
use Rattle.trace_stream.specs.Cases.{IsNoBegin, IsBegun, CanKeep, with_row}
use Rattle.trace_reader.specs.InputFaults.{of_trace}
use Rattle.trace_stream.specs.Kept.{StandsForCase}
use Rattle.trace_stream.proofs.KeptOfBytes.{Pushed, refused_next, stop_begin, header_step, row_step, nothing_step, kept_begun, kept_row}
use Rattle.trace_stream.proofs.RowsKept.{next_kept}
use Rattle.trace_stream.proofs.case_reader.CaseReader.step.Goals.{In-Ok}
use Rattle.trace_stream.proofs.case_reader.CaseReader.step.Goals as goal

-- what the push came to
pushed : (g : _) (c : In-Ok g) → Pushed c.args.self.now.rows c.push.new.self c.next_bytes.result.now c.in-Ok.took.bytes c.in-Ok.took.event
pushed g c =
    let ok = c.in-Ok.ensures in
    record { within = ok.within.0; came = ok.came; stands = ok.ok; next = ok.next; limits = ok.kept.0; least = ok.kept.1 }

pub returns-in-Err-clause-taken : goal.returns-in-Err-clause-taken
returns-in-Err-clause-taken g c = λ bytes k.
    let old = c.args.self.now.rows in
    let next = next_kept g.K.Keep.stands c.args.self.now.kept k.case c.args.piece.now c.next_bytes.result.now k.for_case c.next_bytes.ensures.line in (
      of_trace c.in-Err.refusal,
      refl,
      refused_next c.args.formula.now old k.case bytes c.args.piece.now c.next_bytes.result.now c.in-Err.refusal k.is next
          (c.in-Err.ensures.fault bytes k.is.rows k.is.stands),
    )

pub keep_on-requires : goal.keep_on-requires
keep_on-requires g c =
    let k = c.requires.is in
    let next = next_kept g.K.Keep.stands c.args.self.now.kept k.case c.args.piece.now c.next_bytes.result.now k.for_case c.next_bytes.ensures.line in
    let push = pushed g (goal.at.keep_on-requires g c).In-Ok in
    let s = header_step c.args.piece.now k.is push next c.in-Header.is c.header.ensures in
    (s.columns, s.is, s.ticks)

pub returns-in_err-keep_on-in-Header-clause-taken : goal.returns-in_err-keep_on-in-Header-clause-taken
returns-in_err-keep_on-in-Header-clause-taken g c =
    let p = err_from_is_err_and c.from_residual.result c.from_residual.ensures.1 in
    let push = pushed g (goal.at.returns-in_err-keep_on-in-Header-clause-taken g c).In-Ok in
    let piece = c.args.piece.now in
    let at = c.in-Ok.took.bytes in
    let stop = c.in_err-keep_on-in-Header.field-0.0 in
    rw (p.1, p.2) (λ bytes k.
    let next = next_kept g.K.Keep.stands c.args.self.now.kept k.case piece c.next_bytes.result.now k.for_case c.next_bytes.ensures.line in
    let s = header_step piece k.is push next c.in-Header.is c.header.ensures in
    stop_begin c.args.formula.now c.args.self.now.rows.limits false (bytes ++ take at piece) (drop at piece) (bytes ++ piece)
    c.push.new.self.begun s.columns stop s.left s.line
    (subst (λ n. IsNoBegin c.args.formula.now n s.columns stop) c.line.ensures (c.in_err-keep_on-in-Header.ensures s.columns s.is)))

pub keep_row-requires : goal.keep_row-requires
keep_row-requires g c =
    let k = c.requires.is in
    let next = next_kept g.K.Keep.stands c.args.self.now.kept k.case c.args.piece.now c.next_bytes.result.now k.for_case c.next_bytes.ensures.line in
    let push = pushed g (goal.at.keep_row-requires g c).In-Ok in
    let s = row_step c.args.piece.now k.is push next c.in-Row.is in
    (k.case, k.for_case, subst (λ (r : Row). CanKeep k.case r) (sym c.row.ensures) s.can)

pub returns-in-Nothing-clause-taken : goal.returns-in-Nothing-clause-taken
returns-in-Nothing-clause-taken g c = λ bytes k.
    let next = next_kept g.K.Keep.stands c.args.self.now.kept k.case c.args.piece.now c.next_bytes.result.now k.for_case c.next_bytes.ensures.line in
    let push = pushed g (goal.at.returns-in-Nothing-clause-taken g c).In-Ok in
    record { case = k.case; for_case = k.for_case; is = nothing_step c.args.piece.now k.is push next c.in-Nothing.is }

pub returns-in_ok-keep_on-in-Header-clause-taken : goal.returns-in_ok-keep_on-in-Header-clause-taken
returns-in_ok-keep_on-in-Header-clause-taken g c = λ bytes k.
    let next = next_kept g.K.Keep.stands c.args.self.now.kept k.case c.args.piece.now c.next_bytes.result.now k.for_case c.next_bytes.ensures.line in
    let push = pushed g (goal.at.returns-in_ok-keep_on-in-Header-clause-taken g c).In-Ok in
    let s = header_step c.args.piece.now k.is push next c.in-Header.is c.header.ensures in
    let (case, begun, stands) = c.in_ok-keep_on-in-Header.ensures s.columns s.is in
    record {
      case = Some case;
      for_case = stands;
      is = kept_begun k.is push s (subst (λ n. IsBegun c.args.formula.now n s.columns case) c.line.ensures begun);
    }

pub returns-in_ok-keep_row-in-Row-clause-taken : goal.returns-in_ok-keep_row-in-Row-clause-taken
returns-in_ok-keep_row-in-Row-clause-taken g c = λ bytes k.
    let next = next_kept g.K.Keep.stands c.args.self.now.kept k.case c.args.piece.now c.next_bytes.result.now k.for_case c.next_bytes.ensures.line in
    let push = pushed g (goal.at.returns-in_ok-keep_row-in-Row-clause-taken g c).In-Ok in
    let s = row_step c.args.piece.now k.is push next c.in-Row.is in
    let row = c.push.new.self.row in
    record {
      case = option_map (with_row row) k.case;
      for_case = subst (λ (r : Row). StandsForCase g.K.Keep.stands c.keep_row.new.kept (option_map (with_row r) k.case)) c.row.ensures
          (c.in_ok-keep_row-in-Row.ensures.ok k.case k.for_case (subst (λ (r : Row). CanKeep k.case r) (sym c.row.ensures) s.can));
      is = kept_row c.args.formula.now c.args.self.now.rows c.push.new.self k.case bytes
          (take c.in-Ok.took.bytes c.args.piece.now) row k.is s.stands push.least s.same s.can;
    }
