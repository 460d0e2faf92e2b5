use Rattle.std.proofs.Common.{sym, subst}
use Rattle.std.specs.Prelude.{IfOk}
use Rattle.truth_sets.specs.Nodes.{TellsBy}
use Rattle.truth_sets.proofs.TellingLemmas.{constant_tells, negation_tells, joined_tells, over_tells, reach_tells, if_two}
use Rattle.truth_sets.proofs.nodes.made_by.Goals as goal

pub returns-in-Const : goal.returns-in-Const
returns-in-Const c =
    let r = c.constant.result in
    subst (λ v. TellsBy c.args.on.now v c.args.p c.args.q r) (sym c.in-Const.is)
    (constant_tells c.args.on.now c.args.p c.args.q r (c.constant.ensures.of c.args.on.now) c.in-Const.holds c.constant.ensures.times)

pub returns-in-Atom : goal.returns-in-Atom
returns-in-Atom c = subst (λ v. TellsBy c.args.on.now v c.args.p c.args.q c.args.p) (sym c.in-Atom.is) (λ tr at over told. absurd (told.inner tt))

pub returns-in-Not : goal.returns-in-Not
returns-in-Not c =
    let r = c.complement.result in
    subst (λ v. TellsBy c.args.on.now v c.args.p c.args.q r) (sym c.in-Not.is)
    (negation_tells c.args.on.now c.args.p c.args.q r (c.complement.ensures.of c.args.on.now c.requires.first) c.in-Not.field-0 c.complement.ensures.times)

pub returns-in-Two : goal.returns-in-Two
returns-in-Two c = subst (λ v. IfOk c.joined.result (TellsBy c.args.on.now v c.args.p c.args.q)) (sym c.in-Two.is)
    (if_two c.joined.result (λ r of times. joined_tells c.args.on.now c.args.p c.args.q r (of c.args.on.now c.requires.first c.requires.second)
    c.in-Two.join c.in-Two.field-1 c.in-Two.field-2 times) c.joined.ensures.of c.joined.ensures.times)

pub returns-in-Over : goal.returns-in-Over
returns-in-Over c = subst (λ v. IfOk c.over.result (TellsBy c.args.on.now v c.args.p c.args.q)) (sym c.in-Over.is)
    (if_two c.over.result (λ r of times. over_tells c.args.on.now c.args.p c.args.q r of c.in-Over.w c.window_of.result c.window_of.ensures
    c.in-Over.asks c.in-Over.field-2 times) c.over.ensures.of c.over.ensures.times)

pub returns-in-Reach : goal.returns-in-Reach
returns-in-Reach c = subst (λ v. IfOk c.reach.result (TellsBy c.args.on.now v c.args.p c.args.q)) (sym c.in-Reach.is)
    (if_two c.reach.result (λ r of times. reach_tells c.args.on.now c.args.p c.args.q r of c.in-Reach.w c.window_of-in-Reach.result c.window_of-in-Reach.ensures
    c.in-Reach.field-0 c.in-Reach.field-2 c.in-Reach.field-3 times) c.reach.ensures.of c.reach.ensures.times)
