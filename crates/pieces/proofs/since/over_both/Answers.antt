use Rattle.std.proofs.Common.{inl, inr, sym, subst, ap}
use Rattle.std.specs.Prelude.{MatchBool}
use Rattle.std.proofs.lemmas.Option.{IfSome_then}
use Rattle.std.proofs.lemmas.Result.{IfOk-weaker, on_err_weaker}
use Rattle.rational.specs.Onward.{IsBelow}
use Rattle.rational.proofs.Lists.{on_err_anyway}
use Rattle.frac128.specs.Value.{value}
use Rattle.courses.proofs.CourseLemmas.{goes_below}
use Rattle.pieces.specs.Sinces.{GoesOver, IsTurning, Passes, from_on}
use Rattle.pieces.proofs.GoingOver.{first_gap, meets_of, second_gap, second_under}
use Rattle.pieces.proofs.since.over_both.Given.{Over}
use Rattle.pieces.proofs.since.over_both.Goals.{In_ok-here}
use Rattle.pieces.proofs.since.over_both.Goals as goal

pub follow-requires-clause-gap : goal.follow-requires-clause-gap
follow-requires-clause-gap g c =
    first_gap g.P.Shape c.args.gap.now c.args.turn.now.time c.requires.fit (meets_of c.args.turn.now c.requires.turn c.requires.met)

pub follow-requires-clause-under : goal.follow-requires-clause-under
follow-requires-clause-under g c =
    let gap = c.args.gap.now in
    let f = g.P.Shape.function gap.left in
    let h = g.P.Shape.function gap.right in
    let t = value c.args.turn.now.time in
    subst (λ b. MatchBool b (IsBelow f h (value gap.from) t) (IsBelow h f (value gap.from) t)) (sym c.is_under.ensures)
    (goes_below f h gap.from gap.to c.args.turn.now c.args.start c.args.end c.requires.turn c.requires.start c.requires.end)

pub returns-in_err-here-clause-wide : goal.returns-in_err-here-clause-wide
returns-in_err-here-clause-wide g c =
    on_err_anyway c.from_residual.result (IfSome_then c.follow.new.fault c.in_err-here.ensures.wide
    (λ pair w. inr (inr (inl (c.args.turn.now.time, meets_of c.args.turn.now c.requires.turn c.requires.met, w)))))

-- where the chain stands at the crossing
turning : (g : Over) (c : In_ok-here g)
    → IsTurning g.P.Shape c.args.gap.now c.args.built.now c.follow.new.built c.args.turn.now.time c.in_ok-here.here
turning g c = record { meets = meets_of c.args.turn.now c.requires.turn c.requires.met; first = c.in_ok-here.ensures.ok }

pub follow-requires-2-clause-begins : goal.follow-requires-2-clause-begins
follow-requires-2-clause-begins g c = sym (ap (λ s. s.at) c.in_ok-here.ensures.ok.ends)

pub follow-requires-2-clause-gap : goal.follow-requires-2-clause-gap
follow-requires-2-clause-gap g c =
    second_gap g.P.Shape c.args.gap.now c.args.turn.now.time c.in_ok-here.here c.requires.fit (meets_of c.args.turn.now c.requires.turn c.requires.met)
    c.in_ok-here.ensures.ok.here

pub follow-requires-2-clause-start : goal.follow-requires-2-clause-start
follow-requires-2-clause-start g c = (meets_of c.args.turn.now c.requires.turn c.requires.met).meet

pub follow-requires-2-clause-under : goal.follow-requires-2-clause-under
follow-requires-2-clause-under g c =
    let gap = c.args.gap.now in
    let f = g.P.Shape.function gap.left in
    let h = g.P.Shape.function gap.right in
    let t = value c.args.turn.now.time in
    subst (λ b. MatchBool b (IsBelow f h t (value gap.to)) (IsBelow h f t (value gap.to))) (sym c.is_under-2.ensures)
    (second_under g.P.Shape gap c.args.turn.now.time c.args.end (meets_of c.args.turn.now c.requires.turn c.requires.met) c.requires.end)

pub returns-clause-ok : goal.returns-clause-ok
returns-clause-ok g c =
    let at = turning g (goal.at.returns-clause-ok g c).In_ok-here in
    IfOk-weaker c.follow-2.result (GoesOver g.P.Shape (from_on c.args.gap.now c.args.turn.now.time c.in_ok-here.here) c.args.until.now
    c.follow.new.built c.follow-2.new.built)
    (Passes g.P.Shape c.args.gap.now c.args.until.now c.args.built.now c.follow-2.new.built)
    (λ last goes. inr (c.args.turn.now.time, c.in_ok-here.here, c.follow.new.built, at, goes)) c.follow-2.ensures.ok

pub returns-clause-wide : goal.returns-clause-wide
returns-clause-wide g c =
    let at = turning g (goal.at.returns-clause-wide g c).In_ok-here in
    on_err_weaker c.follow-2.result (λ some. IfSome_then c.follow-2.new.fault some
    (λ pair w. inr (inr (inr (c.args.turn.now.time, c.in_ok-here.here, c.follow.new.built, at, w))))) c.follow-2.ensures.wide
