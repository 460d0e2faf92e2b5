use Rattle.std.proofs.Common.{◌≡◌, sym, subst, ap, ◌∙◌}
use Rattle.std.specs.Prelude.{IfSome, OnErr}
use Rattle.std.proofs.lemmas.Result.{on_ok_weaker}
use Rattle.rational.proofs.Lists.{on_err_anyway}
use Rattle.rational.specs.Time.{Rational, add, whole, ◌<ʳ◌}
use Rattle.rational.specs.Places.{AtMost}
use Rattle.frac128.specs.Cuts.{place}
use Rattle.pieces.specs.Causes.{IsCauseBelow, IsHeldCause}
use Rattle.pieces.specs.Chains.{Chain, stop}
use Rattle.pieces.specs.Streaming.{ComesNext, Follows, FollowsSteps, before_time}
use Rattle.pieces.proofs.BestEnd.{on_ok_two}
use Rattle.pieces.proofs.CountsInPlay.{none_refused}
use Rattle.pieces.proofs.FollowedConstants.{comes_same, follows_of_steps}
use Rattle.pieces.proofs.FollowedWindows.{told_below}
use Rattle.pieces.proofs.stream.Stream.meet.Given.{Over}
use Rattle.pieces.proofs.stream.Stream.meet.Goals.{Else-branch}
use Rattle.pieces.proofs.stream.Stream.meet.Goals as goal

pub meets_constant-requires : goal.meets_constant-requires
meets_constant-requires g c = record { next = c.requires.next }

pub returns-then-branch-clause-upto : goal.returns-then-branch-clause-upto
returns-then-branch-clause-upto g c s limit known next most comes = told_below c.args.self.now.way (place c.args.self.now.met)
    c.args.self.now.sliding c.meets_constant.new.self.sliding limit (c.in_ok-meets_constant.ensures.upto c.if-branch.true) most comes

pub returns-in_err-meets_constant-clause-wide : goal.returns-in_err-meets_constant-clause-wide
returns-in_err-meets_constant-clause-wide g c s limit known next after inside comes = on_err_anyway c.from_residual.result
    (none_refused c.args.fault.now (IsCauseBelow g.P.Shape s c.args.self.now.way.over limit) c.requires.none)

pub returns-in_err-meets_constant-clause-first : goal.returns-in_err-meets_constant-clause-first
returns-in_err-meets_constant-clause-first g c s known next some most comes = on_err_anyway c.from_residual.result
    (none_refused c.args.fault.now (IsHeldCause g.P.Shape s c.args.self.now.way.over (place c.args.self.now.met).at) c.requires.none)

-- it has steps by now
steps : (g : Over) (c : Else-branch g) (s : Chain g.row.P.Denot) → Follows g.P.Shape s c.args.self.now
    → ComesNext g.P.Shape s c.args.self.now c.args.piece.now → FollowsSteps g.P.Shape s c.meets_constant.new.self
steps g c s known next = c.in_ok-meets_constant.ensures.steps s known next c.if-branch.false

comes : (g : Over) (c : Else-branch g) (s : Chain g.row.P.Denot) → ComesNext g.P.Shape s c.args.self.now c.args.piece.now
    → ComesNext g.P.Shape s c.meets_constant.new.self c.args.piece.now
comes g c s next = comes_same g.P.Shape s c.args.self.now c.meets_constant.new.self c.args.piece.now
    (c.in_ok-meets_constant.ensures.same c.if-branch.false) c.in_ok-meets_constant.ensures.way next

-- up to where it had told, and met
told : (g : Over) (c : Else-branch g) → stop c.meets_constant.new.self.sliding.out ≡ stop c.args.self.now.sliding.out
told g c = ap (λ o. stop o) (c.in_ok-meets_constant.ensures.out c.if-branch.false)

reaches : (g : Over) (c : Else-branch g) (limit : Rational) → (place c.args.self.now.met).at <ʳ add limit (whole c.args.self.now.way.over.high)
    → (place c.meets_constant.new.self.met).at <ʳ add limit (whole c.meets_constant.new.self.way.over.high)
reaches g c limit h = subst (λ m. (place m).at <ʳ add limit (whole c.meets_constant.new.self.way.over.high))
    (sym (c.in_ok-meets_constant.ensures.same c.if-branch.false))
    (subst (λ x. (place c.args.self.now.met).at <ʳ add limit (whole x.over.high)) (sym c.in_ok-meets_constant.ensures.way) h)

pub meet_steps-requires-clause-next : goal.meet_steps-requires-clause-next
meet_steps-requires-clause-next g c =
    let (s, known, next) = c.requires.next in
    let k = (goal.at.meet_steps-requires-clause-next g c).Else-branch in
    (s, steps g k s known next, comes g k s next)

pub returns-clause-follows : goal.returns-clause-follows
returns-clause-follows g c s known next =
    let k = (goal.at.returns-clause-follows g c).Else-branch in
    on_ok_two c.meet_steps.result (λ follows range. follows_of_steps g.P.Shape s c.meet_steps.new.self
    (range ∙ c.in_ok-meets_constant.ensures.range c.if-branch.false) follows)
    (c.meet_steps.ensures.follows s (steps g k s known next) (comes g k s next)) c.meet_steps.ensures.range

pub returns-clause-way : goal.returns-clause-way
returns-clause-way g c = on_ok_weaker c.meet_steps.result (λ way. way ∙ c.in_ok-meets_constant.ensures.way) c.meet_steps.ensures.way

pub returns-clause-from : goal.returns-clause-from
returns-clause-from g c = on_ok_weaker c.meet_steps.result
    (λ from. from ∙ ap (λ o. o.from) (c.in_ok-meets_constant.ensures.out c.if-branch.false)) c.meet_steps.ensures.from

pub returns-clause-upto : goal.returns-clause-upto
returns-clause-upto g c s limit known next most later =
    let k = (goal.at.returns-clause-upto g c).Else-branch in
    c.meet_steps.ensures.upto s limit (steps g k s known next) (comes g k s next) (subst (λ x. AtMost x (before_time limit)) (sym (told g k)) most)
    (reaches g k limit later)

pub returns-clause-wide : goal.returns-clause-wide
returns-clause-wide g c s limit known next after inside later =
    let k = (goal.at.returns-clause-wide g c).Else-branch in
    subst (λ x. OnErr c.meet_steps.result (IfSome c.meet_steps.new.fault (IsCauseBelow g.P.Shape s x.over limit))) c.in_ok-meets_constant.ensures.way
    (c.meet_steps.ensures.wide s limit (steps g k s known next) (comes g k s next) after inside (reaches g k limit later))

pub returns-clause-first : goal.returns-clause-first
returns-clause-first g c s known next some most later =
    let k = (goal.at.returns-clause-first g c).Else-branch in
    subst (λ x. OnErr c.meet_steps.result (IfSome c.meet_steps.new.fault (IsHeldCause g.P.Shape s x.over (place c.args.self.now.met).at)))
    c.in_ok-meets_constant.ensures.way
    (subst (λ m. OnErr c.meet_steps.result (IfSome c.meet_steps.new.fault (IsHeldCause g.P.Shape s c.meets_constant.new.self.way.over (place m).at)))
    (c.in_ok-meets_constant.ensures.same c.if-branch.false)
    (c.meet_steps.ensures.first s (steps g k s known next) (comes g k s next) some (subst (λ x. AtMost x s.from) (sym (told g k)) most)
    (reaches g k s.from.at later)))

pub returns-clause-one : goal.returns-clause-one
returns-clause-one g c s known next one =
    let k = (goal.at.returns-clause-one g c).Else-branch in
    c.meet_steps.ensures.one s (steps g k s known next) (comes g k s next) one
