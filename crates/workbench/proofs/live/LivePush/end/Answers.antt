use Rattle.std.proofs.Common.{◌∙◌, ap, sym}
use Rattle.workbench.specs.Requests.{stream}
use Rattle.workbench.specs.Stopping.{outcome_of}
use Rattle.workbench.proofs.AtRest.{end_of, unwritten_alone}
use Rattle.workbench.proofs.live.LivePush.end.Goals as goal

pub finish-finished-requires : goal.finish-finished-requires
finish-finished-requires g c = let (bytes, text, p) = c.requires in record { bytes = bytes; written = text; is = p.stands.live_for }

pub returns-clause-ended : goal.returns-clause-ended
returns-clause-ended g c = λ bytes text p.
    end_of g.F.Follow.ended g.F.Follow.kind c.args.self.now.rows.limits c.args.self.now.formula c.finish-finished.new.self
    c.write_made-written.new.live _ _ bytes text p.owed p.stands.limits
    c.finish-finished.ensures.formula c.finish-finished.result c.write_made-written.result c.outcome_from.result c.outcome_from.ensures c.write_made-written.ensures.written
    (c.finish-finished.ensures.over bytes text p.stands.live_for) c.write_made-written.ensures.done

pub returns-clause-same : goal.returns-clause-same
returns-clause-same g c = ap (stream g.F.Follow.kind) (c.write_made-written.ensures.same ∙ c.finish-finished.ensures.formula)

pub returns-clause-cause : goal.returns-clause-cause
returns-clause-cause g c = λ e. c.write_made-written.ensures.cause (unwritten_alone c.write_made-written.result (sym c.outcome_from.ensures ∙ e))

pub returns-clause-still : goal.returns-clause-still
returns-clause-still g c = λ other. c.write_made-written.ensures.still (λ e. other (c.outcome_from.ensures ∙ ap outcome_of e))
