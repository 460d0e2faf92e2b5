use Rattle.std.proofs.Common.{◌^◌, inl, inr, sym, subst}
use Rattle.std.specs.Prelude.{MatchBool}
use Rattle.std.proofs.lemmas.Option.{IfSome_then}
use Rattle.std.proofs.lemmas.Result.{IfOk-weaker, on_err_weaker}
use Rattle.rational.specs.Onward.{InOrder, IsBelow}
use Rattle.rational.proofs.Bounds.{level_bounded}
use Rattle.rational.proofs.Lists.{on_err_anyway}
use Rattle.frac128.specs.Value.{value}
use Rattle.courses.specs.Courses.{goes_under}
use Rattle.courses.proofs.CourseLemmas.{goes_below}
use Rattle.pieces.specs.Sinces.{GoesOver, Passes}
use Rattle.pieces.proofs.GoingOver.{ends_of, whole_gap}
use Rattle.pieces.proofs.since.over_gap.Goals as goal

pub turning-requires-clause-first : goal.turning-requires-clause-first
turning-requires-clause-first g c =
    level_bounded (2 ^ 31) (g.P.Shape.function c.args.gap.now.left) (value c.args.gap.now.from) c.requires.fit.left_small

pub turning-requires-clause-second : goal.turning-requires-clause-second
turning-requires-clause-second g c =
    level_bounded (2 ^ 31) (g.P.Shape.function c.args.gap.now.right) (value c.args.gap.now.from) c.requires.fit.right_small

pub returns-in_err-turn-clause-wide : goal.returns-in_err-turn-clause-wide
returns-in_err-turn-clause-wide g c =
    on_err_anyway c.from_residual.result (IfSome_then c.turning.new.fault c.in_err-turn.ensures.wide (λ pair h. inl h))

pub follow-requires-clause-gap : goal.follow-requires-clause-gap
follow-requires-clause-gap g c =
    let gap = c.args.gap.now in
    whole_gap g.P.Shape gap c.requires.fit c.requires.later
    (subst (λ t. InOrder (g.P.Shape.function gap.left) (g.P.Shape.function gap.right) (value gap.from) (value t))
    (ends_of c.in_ok-turn.turn c.in_ok-turn.ensures.ok c.if-turn.false) c.in_ok-turn.ensures.ok.in_order)

pub follow-requires-clause-under : goal.follow-requires-clause-under
follow-requires-clause-under g c =
    let gap = c.args.gap.now in
    let f = g.P.Shape.function gap.left in
    let h = g.P.Shape.function gap.right in
    subst (λ b. MatchBool b (IsBelow f h (value gap.from) (value gap.to)) (IsBelow h f (value gap.from) (value gap.to))) (sym c.is_under.ensures)
    (subst (λ t. MatchBool (goes_under c.cmp_at-start.result c.cmp_at-end.result) (IsBelow f h (value gap.from) (value t))
    (IsBelow h f (value gap.from) (value t)))
    (ends_of c.in_ok-turn.turn c.in_ok-turn.ensures.ok c.if-turn.false)
    (goes_below f h gap.from gap.to c.in_ok-turn.turn c.cmp_at-start.result c.cmp_at-end.result c.in_ok-turn.ensures.ok c.cmp_at-start.ensures
    c.cmp_at-end.ensures))

pub returns-clause-ok : goal.returns-clause-ok
returns-clause-ok g c =
    IfOk-weaker c.follow.result (GoesOver g.P.Shape c.args.gap.now c.args.until.now c.args.built.now c.follow.new.built)
    (Passes g.P.Shape c.args.gap.now c.args.until.now c.args.built.now c.follow.new.built) (λ last goes. inl goes) c.follow.ensures.ok

pub returns-clause-wide : goal.returns-clause-wide
returns-clause-wide g c =
    let gap = c.args.gap.now in
    let f = g.P.Shape.function gap.left in
    let h = g.P.Shape.function gap.right in
    let order = subst (λ t. InOrder f h (value gap.from) (value t)) (ends_of c.in_ok-turn.turn c.in_ok-turn.ensures.ok c.if-turn.false)
    c.in_ok-turn.ensures.ok.in_order in
    on_err_weaker c.follow.result (λ some. IfSome_then c.follow.new.fault some (λ pair w. inr (inl (order, w)))) c.follow.ensures.wide
