use Rattle.std.proofs.Common.{false, true, sym, subst}
use Rattle.margin_stream.specs.Margining.{past_of}
use Rattle.trace_stream.specs.Following.{IsFollowFault}
use Rattle.trace_stream.specs.Streams.{margins}
use Rattle.margin_stream.proofs.FollowedMargins.{of_first, fault_so, unwritten, may_end, given_on, end_followed}
use Rattle.margin_stream.proofs.margins.Margins.take_end.Goals as goal

pub close-requires : goal.close-requires
close-requires c = let (case, made, k, t) = c.requires in may_end c.args.self.now case made k.stands t

pub first_fault-requires : goal.first_fault-requires
first_fault-requires c =
    let (case, made, k, t) = c.requires in
    of_first c.args.self.now.net c.close.new.self c.in-Err.fault k.stands.stands.keeps.running k.stands.stands.keeps.closed c.in-Err.ensures.answer

pub returns-in-Err-clause-fault : goal.returns-in-Err-clause-fault
returns-in-Err-clause-fault c = λ case made k t.
    subst (IsFollowFault margins case true) (sym c.first_fault.ensures)
    (fault_so case true (past_of case false) c.in-Err.fault
    (c.in-Err.ensures.wide case.formula.nodes case.trace.header (past_of case false) k.stands.given k.stands.stands))

pub returns-in-Ok-take_all-clause-followed : goal.returns-in-Ok-take_all-clause-followed
returns-in-Ok-take_all-clause-followed c = λ case made k t.
    let (f, is) = k.fits in
    end_followed c.args.self.now case f made k.stands c.take_all.new.self c.args.text.now c.take_all.new.text is t
    c.in-Ok-take_all.ensures.formula
    (c.in-Ok-take_all.ensures.taken (given_on c.args.self.now case made k.stands (past_of case true))
    (c.in-Ok.ensures.stands case.formula.nodes case.trace.header (past_of case false) k.stands.given k.stands.stands))

pub returns-in-Err-clause-unwritten : goal.returns-in-Err-clause-unwritten
returns-in-Err-clause-unwritten c = unwritten c.args.text.now c.first_fault.result
