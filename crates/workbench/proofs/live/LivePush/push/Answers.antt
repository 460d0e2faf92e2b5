use Rattle.std.proofs.Common.{◌++◌, false, ◌∙◌, ap, subst, sym}
use Rattle.std.specs.Prelude.{MatchResult}
use Rattle.trace_reader.specs.declared.refusal.Limits.{Limits}
use Rattle.workbench.specs.Requests.{stream}
use Rattle.workbench.specs.Stopping.{outcome_of}
use Rattle.trace_stream.specs.Following.{IsLive, IsLiveStop}
use Rattle.workbench.proofs.AtRest.{push_of, unwritten_alone}
use Rattle.workbench.proofs.live.LivePush.push.Goals as goal

pub feed-fed-requires : goal.feed-fed-requires
feed-fed-requires g c = let (bytes, text, p) = c.requires in record { bytes = bytes; written = text; is = p.stands.live_for }

pub returns-clause-pushed : goal.returns-clause-pushed
returns-clause-pushed g c = λ bytes text p.
    let old = c.args.self.now in
    let mid = c.feed-fed.new.self in
    push_of g.F.Follow.stands g.F.Follow.kind old.formula mid c.write_made-written.new.live _ _ bytes c.args.piece.now text p.owed
    (c.feed-fed.ensures.limits ∙ p.stands.limits) c.feed-fed.ensures.formula
    c.feed-fed.result c.write_made-written.result c.outcome_from.result c.outcome_from.ensures c.write_made-written.ensures.written
    (subst (λ (l : Limits). MatchResult c.feed-fed.result (λ _. IsLive g.F.Follow.stands g.F.Follow.kind mid (bytes ++ c.args.piece.now) text)
    (λ e. IsLiveStop g.F.Follow.kind l old.formula false (bytes ++ c.args.piece.now) (text ++ mid.text) e))
    (sym c.feed-fed.ensures.limits) (c.feed-fed.ensures.taken bytes text p.stands.live_for))
    c.write_made-written.ensures.done

pub returns-clause-same : goal.returns-clause-same
returns-clause-same g c = ap (stream g.F.Follow.kind) (c.write_made-written.ensures.same ∙ c.feed-fed.ensures.formula)

pub returns-clause-cause : goal.returns-clause-cause
returns-clause-cause g c = λ e. c.write_made-written.ensures.cause (unwritten_alone c.write_made-written.result (sym c.outcome_from.ensures ∙ e))

pub returns-clause-still : goal.returns-clause-still
returns-clause-still g c = λ other. c.write_made-written.ensures.still (λ e. other (c.outcome_from.ensures ∙ ap outcome_of e))
