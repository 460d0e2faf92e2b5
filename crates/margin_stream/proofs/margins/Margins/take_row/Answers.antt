use Rattle.std.proofs.Common.{false, sym, subst}
use Rattle.trace_stream.specs.Cases.{with_row}
use Rattle.margin_stream.specs.Margining.{past_of}
use Rattle.trace_stream.specs.Following.{IsFollowFault}
use Rattle.trace_stream.specs.Streams.{margins}
use Rattle.margin_stream.proofs.FollowedMargins.{of_first, fault_so, unwritten, fits_width, fits_time, given_on, row_followed}
use Rattle.margin_stream.proofs.margins.Margins.take_row.Goals as goal

pub feed-requires-clause-width : goal.feed-requires-clause-width
feed-requires-clause-width c = let (case, made, k, t) = c.requires in fits_width c.args.self.now case made k.stands c.args.row.now t

pub feed-requires-clause-later : goal.feed-requires-clause-later
feed-requires-clause-later c = let (case, made, k, t) = c.requires in fits_time c.args.self.now case made k.stands c.args.row.now t

pub first_fault-requires : goal.first_fault-requires
first_fault-requires c =
    let (case, made, k, t) = c.requires in
    of_first c.args.self.now.net c.feed.new.self c.in-Err.fault k.stands.stands.keeps.running k.stands.stands.keeps.closed c.in-Err.ensures.answer

pub returns-in-Err-clause-fault : goal.returns-in-Err-clause-fault
returns-in-Err-clause-fault c = λ case made k t.
    subst (IsFollowFault margins (with_row c.args.row.now case) false) (sym c.first_fault.ensures)
    (fault_so (with_row c.args.row.now case) false (past_of case false) c.in-Err.fault
    (c.in-Err.ensures.wide case.formula.nodes case.trace.header (past_of case false) k.stands.given k.stands.stands))

pub returns-in-Ok-take_all-clause-followed : goal.returns-in-Ok-take_all-clause-followed
returns-in-Ok-take_all-clause-followed c = λ case made k t.
    let (f, is) = k.fits in
    row_followed c.args.self.now case f made k.stands c.args.row.now c.take_all.new.self c.args.text.now c.take_all.new.text is
    c.in-Ok-take_all.ensures.formula
    (c.in-Ok-take_all.ensures.taken (given_on c.args.self.now case made k.stands (past_of (with_row c.args.row.now case) false))
    (c.in-Ok.ensures.stands case.formula.nodes case.trace.header (past_of case false) k.stands.given k.stands.stands))

pub returns-in-Err-clause-unwritten : goal.returns-in-Err-clause-unwritten
returns-in-Err-clause-unwritten c = unwritten c.args.text.now c.first_fault.result
