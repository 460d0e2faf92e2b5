use Rattle.std.proofs.Common.{Some, [], ◌++◌, take, drop, false, inl, inr, sym, ap, ◌∙◌, subst, append_assoc, take-append-drop}
use Rattle.std.proofs.lemmas.Result.{err_from_is_err_and}
use Rattle.std.specs.Prelude.{option_map}
use Rattle.std.proofs.lemmas.Bool.{false≢true}
use Rattle.stl_syntax.specs.Trace.{Row}
use Rattle.trace_reader.specs.declared.refusal.Limits.{Limits}
use Rattle.trace_stream.specs.Cases.{IsNoBegin, IsBegun, CanKeep, with_row}
use Rattle.trace_stream.specs.Following.{IsOpened, IsHeldUp, IsOpenStop}
use Rattle.trace_stream.specs.CaseReader.{IsKept}
use Rattle.trace_stream.specs.declared.fault.StreamStop.{StreamStop}
use Rattle.trace_stream.proofs.KeptOfBytes.{Pushed, header_step, row_step, nothing_step, kept_begun, kept_row}
use Rattle.trace_stream.proofs.ReaderSteps.{next_of, live_refused, live_lacks, none_open, open_of, held_fault, open_held, more_text}
use Rattle.trace_stream.proofs.WideRefused.{IsReadTo, read_of_kept, row_held}
use Rattle.trace_stream.proofs.live.Live.step.Goals.{In-Ok}
use Rattle.trace_stream.proofs.live.Live.step.Goals as goal

-- what the push came to
pushed : (g : _) (c : In-Ok g) → Pushed c.args.self.now.rows c.push.new.self c.next_bytes.result.now c.in-Ok.took.bytes c.in-Ok.took.event
pushed g c =
    let ok = c.in-Ok.ensures in
    record { within = ok.within.0; came = ok.came; stands = ok.ok; next = ok.next; limits = ok.kept.0; least = ok.kept.1 }

pub returns-in-Err-clause-taken : goal.returns-in-Err-clause-taken
returns-in-Err-clause-taken g c = λ bytes written k.
    live_refused g.F.Follow.stands g.F.Follow.owes g.F.Follow.kind c.args.self.now bytes written c.args.piece.now
    c.next_bytes.result.now c.in-Err.refusal k c.next_bytes.ensures.line
    (c.in-Err.ensures.fault bytes k.kept.rows k.kept.stands) (c.in-Err.ensures.before bytes k.kept.rows k.kept.stands)

pub follow_on-requires-clause-header : goal.follow_on-requires-clause-header
follow_on-requires-clause-header g c =
    let k = c.requires.is in
    let old = c.args.self.now in
    let next = next_of g.F.Follow.stands g.F.Follow.owes g.F.Follow.kind old.follower k.case
    (c.requires.written ++ old.text) c.args.piece.now c.next_bytes.result.now k.followed c.next_bytes.ensures.line in
    let push = pushed g (goal.at.follow_on-requires-clause-header g c).In-Ok in
    let s = header_step c.args.piece.now k.kept push next c.in-Header.is c.header.ensures in
    (s.columns, s.is, s.ticks)

pub follow_on-requires-clause-streamed : goal.follow_on-requires-clause-streamed
follow_on-requires-clause-streamed g c = c.requires.is.served

pub returns-in_err-follow_on-in-Header-clause-taken : goal.returns-in_err-follow_on-in-Header-clause-taken
returns-in_err-follow_on-in-Header-clause-taken g c =
    let p = err_from_is_err_and c.from_residual.result c.from_residual.ensures.1 in
    let push = pushed g (goal.at.returns-in_err-follow_on-in-Header-clause-taken g c).In-Ok in
    let old = c.args.self.now in
    rw (p.1, p.2) (λ bytes written k.
    let next = next_of g.F.Follow.stands g.F.Follow.owes g.F.Follow.kind old.follower k.case
    (written ++ old.text) c.args.piece.now c.next_bytes.result.now k.followed c.next_bytes.ensures.line in
    let s = header_step c.args.piece.now k.kept push next c.in-Header.is c.header.ensures in
    live_lacks g.F.Follow.stands g.F.Follow.owes g.F.Follow.kind c.in_err-follow_on-in-Header.field-0.0 s
    (subst (λ n. IsNoBegin old.formula n s.columns c.in_err-follow_on-in-Header.field-0.0) c.line.ensures
    (c.in_err-follow_on-in-Header.ensures.begun s.columns s.is))
    c.follow_on.new.follower k.case (written ++ old.text) k.kept.has_case
    (subst (λ x. IsOpened g.F.Follow.stands g.F.Follow.owes g.F.Follow.kind x k.case (written ++ old.text))
    (sym c.in_err-follow_on-in-Header.ensures.kept) k.followed))

pub take_row-requires : goal.take_row-requires
take_row-requires g c =
    let k = c.requires.is in
    let written = c.requires.written in
    let old = c.args.self.now in
    let next = next_of g.F.Follow.stands g.F.Follow.owes g.F.Follow.kind old.follower k.case
    (written ++ old.text) c.args.piece.now c.next_bytes.result.now k.followed c.next_bytes.ensures.line in
    let s = row_step c.args.piece.now k.kept (pushed g (goal.at.take_row-requires g c).In-Ok) next c.in-Row.is in
    (k.case, written ++ old.text, k.followed, subst (λ (r : Row). CanKeep k.case r) (sym c.row.ensures) s.can)

pub returns-in-Nothing-clause-taken : goal.returns-in-Nothing-clause-taken
returns-in-Nothing-clause-taken g c = λ bytes written k.
    let old = c.args.self.now in
    let next = next_of g.F.Follow.stands g.F.Follow.owes g.F.Follow.kind old.follower k.case
    (written ++ old.text) c.args.piece.now c.next_bytes.result.now k.followed c.next_bytes.ensures.line in
    record {
      served = k.served;
      case = k.case;
      kept = nothing_step c.args.piece.now k.kept (pushed g (goal.at.returns-in-Nothing-clause-taken g c).In-Ok) next c.in-Nothing.is;
      followed = k.followed;
    }

pub returns-in_ok-follow_on-in-Header-clause-taken : goal.returns-in_ok-follow_on-in-Header-clause-taken
returns-in_ok-follow_on-in-Header-clause-taken g c = λ bytes written k.
    let push = pushed g (goal.at.returns-in_ok-follow_on-in-Header-clause-taken g c).In-Ok in
    let old = c.args.self.now in
    let next = next_of g.F.Follow.stands g.F.Follow.owes g.F.Follow.kind old.follower k.case
    (written ++ old.text) c.args.piece.now c.next_bytes.result.now k.followed c.next_bytes.ensures.line in
    let s = header_step c.args.piece.now k.kept push next c.in-Header.is c.header.ensures in
    let (case, its, follows) = c.in_ok-follow_on-in-Header.ensures.begun s.columns s.is in
    let begun = subst (λ n. IsBegun old.formula n s.columns case) c.line.ensures its in
    let none = none_open g.F.Follow.stands g.F.Follow.owes g.F.Follow.kind old.follower old.formula old.rows.heading bytes
    k.kept.rows k.case (written ++ old.text) k.kept.has_case s.first k.followed in
    record {
      served = k.served;
      case = Some case;
      kept = kept_begun k.kept push s begun;
      followed = subst (λ made. IsOpened g.F.Follow.stands g.F.Follow.owes g.F.Follow.kind c.follow_on.new.follower (Some case) made) (sym none)
          (open_of g.F.Follow.stands g.F.Follow.owes g.F.Follow.kind c.follow_on.new.follower (Some case) [] follows);
    }

pub returns-in_ok-take_row-in-Row-clause-taken : goal.returns-in_ok-take_row-in-Row-clause-taken
returns-in_ok-take_row-in-Row-clause-taken g c = λ bytes written k.
    let push = pushed g (goal.at.returns-in_ok-take_row-in-Row-clause-taken g c).In-Ok in
    let old = c.args.self.now in
    let next = next_of g.F.Follow.stands g.F.Follow.owes g.F.Follow.kind old.follower k.case
    (written ++ old.text) c.args.piece.now c.next_bytes.result.now k.followed c.next_bytes.ensures.line in
    let s = row_step c.args.piece.now k.kept push next c.in-Row.is in
    let (grown, text, followed) =
    c.in_ok-take_row-in-Row.ensures.ok k.case (written ++ old.text) k.followed (subst (λ (r : Row). CanKeep k.case r) (sym c.row.ensures) s.can) in
    record {
      served = k.served;
      case = option_map (with_row c.push.new.self.row) k.case;
      kept = kept_row old.formula old.rows c.push.new.self k.case bytes
          (take c.in-Ok.took.bytes c.args.piece.now) c.push.new.self.row k.kept s.stands push.least s.same s.can;
      followed = subst (λ made. IsOpened g.F.Follow.stands g.F.Follow.owes g.F.Follow.kind c.take_row.new.follower
          (option_map (with_row c.push.new.self.row) k.case) made) (sym (more_text written old.text c.take_row.new.text grown text))
          (subst (λ (r : Row). IsOpened g.F.Follow.stands g.F.Follow.owes g.F.Follow.kind c.take_row.new.follower
          (option_map (with_row r) k.case) ((written ++ old.text) ++ grown)) c.row.ensures followed);
    }

pub returns-in_err-take_row-in-Row-clause-taken : goal.returns-in_err-take_row-in-Row-clause-taken
returns-in_err-take_row-in-Row-clause-taken g c =
    let p = err_from_is_err_and c.from_residual-in_err-take_row-in-Row.result c.from_residual-in_err-take_row-in-Row.ensures.1 in
    let push = pushed g (goal.at.returns-in_err-take_row-in-Row-clause-taken g c).In-Ok in
    let old = c.args.self.now in
    let piece = c.args.piece.now in
    let at = c.in-Ok.took.bytes in
    let row = c.push.new.self.row in
    rw (p.1, p.2) (λ bytes written k.
    let next = next_of g.F.Follow.stands g.F.Follow.owes g.F.Follow.kind old.follower k.case
    (written ++ old.text) piece c.next_bytes.result.now k.followed c.next_bytes.ensures.line in
    let s = row_step piece k.kept push next c.in-Row.is in
    let kept = kept_row old.formula old.rows c.push.new.self k.case bytes (take at piece) row k.kept s.stands push.least s.same s.can in
    let held = subst (λ (r : Row).
    IsHeldUp g.F.Follow.kind (option_map (with_row r) k.case) false old.text c.take_row.new.text c.in_err-take_row-in-Row.field-0.0) c.row.ensures
    (c.in_err-take_row-in-Row.ensures.err k.case (written ++ old.text) k.followed (subst (λ (r : Row). CanKeep k.case r) (sym c.row.ensures) s.can)) in
    let stop = c.in_err-take_row-in-Row.field-0.0 in
    let parts = sym (append_assoc bytes (take at piece) (drop at piece) ∙ ap (λ b. bytes ++ b) (take-append-drop at piece)) in
    elim (c.in_err-take_row-in-Row.ensures.owing k.case (written ++ old.text) k.followed) [
      | inl whole ↦
          let (fault, why) = held_fault g.F.Follow.kind (option_map (with_row row) k.case) false old.text c.take_row.new.text stop held in
          open_held g.F.Follow.stands g.F.Follow.owes g.F.Follow.kind old.rows.limits old.formula false (bytes ++ piece)
          c.take_row.new.follower (written ++ c.take_row.new.text) stop fault why
          (row_held g.F.Follow.stands g.F.Follow.kind old.rows.limits old.formula (bytes ++ piece) false (bytes ++ take at piece) (drop at piece)
          parts false (λ e. absurd (false≢true e)) old.follower k.case row written old.text c.take_row.new.text stop
          (λ case is. subst (λ (l : Limits). IsReadTo l old.formula (bytes ++ take at piece) false case) push.limits
          (read_of_kept old.formula c.push.new.self case (bytes ++ take at piece)
          (subst (λ o. IsKept old.formula c.push.new.self o (bytes ++ take at piece)) is kept)))
          whole held)
      | inr none ↦
          subst (λ (s : StreamStop). IsOpenStop g.F.Follow.stands g.F.Follow.owes g.F.Follow.kind old.rows.limits old.formula false (bytes ++ piece)
          c.take_row.new.follower (written ++ c.take_row.new.text) s) (sym none) tt
    ])
