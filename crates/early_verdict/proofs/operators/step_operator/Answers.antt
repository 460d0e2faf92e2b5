use Rattle.std.proofs.Common.{subst, sym, length}
use Rattle.std.specs.Prelude.{OnOk}
use Rattle.stl_syntax.specs.Formula.{HasChildrenBelow}
use Rattle.early_verdict.specs.Fitting.{NegationFits, ConjunctionFits, DisjunctionFits, ImplicationFits, UntilFits, SinceFits}
use Rattle.early_verdict.specs.Standing.{GoesBy}
use Rattle.growing_sets.proofs.WindowLemmas.{on_good}
use Rattle.early_verdict.proofs.ChildLists.{one_list, two_lists}
use Rattle.early_verdict.proofs.operators.step_operator.Goals as goal

pub returns-in-Const-clause-fits : goal.returns-in-Const-clause-fits
returns-in-Const-clause-fits c =
    subst (λ n. OnOk c.step_constant.result (GoesBy n c.args.entry.now c.args.below.now c.args.own.now c.step_constant.new.own)) (sym c.in-Const.is)
    (on_good c.step_constant.result c.step_constant.ensures.fits (λ f old tr was h had parts w. f old tr h w))

pub returns-in-Not-clause-fits : goal.returns-in-Not-clause-fits
returns-in-Not-clause-fits c =
    let n = c.in-Not in
    let s = c.at.result.now in
    subst (λ m. OnOk c.step_negation.result (GoesBy m c.args.entry.now c.args.below.now c.args.own.now c.step_negation.new.own)) (sym n.is)
    (on_good c.step_negation.result c.step_negation.ensures.fits (λ f old tr was h had parts w.
    one_list (λ l. NegationFits l c.step_negation.new.own) c.args.below.now n.of s c.at.ensures.at (f old tr (was n.of) (had n.of s c.at.ensures.at) w)))

pub returns-in-And-clause-fits : goal.returns-in-And-clause-fits
returns-in-And-clause-fits c =
    let n = c.in-And in
    let l = c.at-in-And in
    let r = c.at-in-And-2 in
    subst (λ m. OnOk c.step_conjunction.result (GoesBy m c.args.entry.now c.args.below.now c.args.own.now c.step_conjunction.new.own)) (sym n.is)
    (on_good c.step_conjunction.result c.step_conjunction.ensures.fits (λ f old tr was h had parts w.
    two_lists (λ x y. ConjunctionFits x y c.step_conjunction.new.own) c.args.below.now n.left n.right l.result.now r.result.now l.ensures.at r.ensures.at
    (f old tr (was n.left) (was n.right) (had n.left l.result.now l.ensures.at) (had n.right r.result.now r.ensures.at) w)))

pub returns-in-Or-clause-fits : goal.returns-in-Or-clause-fits
returns-in-Or-clause-fits c =
    let n = c.in-Or in
    let l = c.at-in-Or in
    let r = c.at-in-Or-2 in
    subst (λ m. OnOk c.step_disjunction.result (GoesBy m c.args.entry.now c.args.below.now c.args.own.now c.step_disjunction.new.own)) (sym n.is)
    (on_good c.step_disjunction.result c.step_disjunction.ensures.fits (λ f old tr was h had parts w.
    two_lists (λ x y. DisjunctionFits x y c.step_disjunction.new.own) c.args.below.now n.left n.right l.result.now r.result.now l.ensures.at r.ensures.at
    (f old tr (was n.left) (was n.right) (had n.left l.result.now l.ensures.at) (had n.right r.result.now r.ensures.at) w)))

pub returns-in-Implies-clause-fits : goal.returns-in-Implies-clause-fits
returns-in-Implies-clause-fits c =
    let n = c.in-Implies in
    let l = c.at-in-Implies in
    let r = c.at-in-Implies-2 in
    subst (λ m. OnOk c.step_implication.result (GoesBy m c.args.entry.now c.args.below.now c.args.own.now c.step_implication.new.own)) (sym n.is)
    (on_good c.step_implication.result c.step_implication.ensures.fits (λ f old tr was h had parts w.
    two_lists (λ x y. ImplicationFits x y c.step_implication.new.own) c.args.below.now n.left n.right l.result.now r.result.now l.ensures.at r.ensures.at
    (f old tr (was n.left) (was n.right) (had n.left l.result.now l.ensures.at) (had n.right r.result.now r.ensures.at) w)))

pub returns-in-Until-clause-fits : goal.returns-in-Until-clause-fits
returns-in-Until-clause-fits c =
    let n = c.in-Until in
    let l = c.at-in-Until in
    let r = c.at-in-Until-2 in
    subst (λ m. OnOk c.step_until.result (GoesBy m c.args.entry.now c.args.below.now c.args.own.now c.step_until.new.own)) (sym n.is)
    (on_good c.step_until.result c.step_until.ensures.fits (λ f old tr was h had parts w.
    two_lists (λ x y. UntilFits c.args.entry.now.ended tr n.low n.high x y c.step_until.new.own) c.args.below.now
    n.left n.right l.result.now r.result.now l.ensures.at r.ensures.at
    (f old tr (was n.left) (was n.right) n.low n.high c.ahead-w.ensures c.ahead-up_to.ensures h
    (had n.left l.result.now l.ensures.at) (had n.right r.result.now r.ensures.at) (parts.1 l.result.now l.ensures.at) parts.0 w)))

pub returns-in-Since-clause-fits : goal.returns-in-Since-clause-fits
returns-in-Since-clause-fits c =
    let n = c.in-Since in
    let l = c.at-in-Since in
    let r = c.at-in-Since-2 in
    subst (λ m. OnOk c.step_since.result (GoesBy m c.args.entry.now c.args.below.now c.args.own.now c.step_since.new.own)) (sym n.is)
    (on_good c.step_since.result c.step_since.ensures.fits (λ f old tr was h had parts w.
    two_lists (λ x y. SinceFits tr n.low n.high x y c.step_since.new.own) c.args.below.now
    n.left n.right l.result.now r.result.now l.ensures.at r.ensures.at
    (f old tr (was n.left) (was n.right) n.low n.high c.behind-w.ensures c.behind-down_to.ensures h
    (had n.left l.result.now l.ensures.at) (had n.right r.result.now r.ensures.at) (parts.1 l.result.now l.ensures.at) parts.0 w)))

pub at-requires : goal.at-requires
at-requires c =
    let k = subst (HasChildrenBelow (length c.args.below.now)) c.in-Not.is c.requires.children in
    record { within = k; tidy = c.requires.below }

pub at-requires-in-And : goal.at-requires-in-And
at-requires-in-And c =
    let k = subst (HasChildrenBelow (length c.args.below.now)) c.in-And.is c.requires.children in
    record { within = k.0; tidy = c.requires.below }

pub at-requires-in-And-2 : goal.at-requires-in-And-2
at-requires-in-And-2 c =
    let k = subst (HasChildrenBelow (length c.args.below.now)) c.in-And.is c.requires.children in
    record { within = k.1; tidy = c.requires.below }

pub at-requires-in-Or : goal.at-requires-in-Or
at-requires-in-Or c =
    let k = subst (HasChildrenBelow (length c.args.below.now)) c.in-Or.is c.requires.children in
    record { within = k.0; tidy = c.requires.below }

pub at-requires-in-Or-2 : goal.at-requires-in-Or-2
at-requires-in-Or-2 c =
    let k = subst (HasChildrenBelow (length c.args.below.now)) c.in-Or.is c.requires.children in
    record { within = k.1; tidy = c.requires.below }

pub at-requires-in-Implies : goal.at-requires-in-Implies
at-requires-in-Implies c =
    let k = subst (HasChildrenBelow (length c.args.below.now)) c.in-Implies.is c.requires.children in
    record { within = k.0; tidy = c.requires.below }

pub at-requires-in-Implies-2 : goal.at-requires-in-Implies-2
at-requires-in-Implies-2 c =
    let k = subst (HasChildrenBelow (length c.args.below.now)) c.in-Implies.is c.requires.children in
    record { within = k.1; tidy = c.requires.below }

pub at-requires-in-Until : goal.at-requires-in-Until
at-requires-in-Until c =
    let k = subst (HasChildrenBelow (length c.args.below.now)) c.in-Until.is c.requires.children in
    record { within = k.0; tidy = c.requires.below }

pub at-requires-in-Until-2 : goal.at-requires-in-Until-2
at-requires-in-Until-2 c =
    let k = subst (HasChildrenBelow (length c.args.below.now)) c.in-Until.is c.requires.children in
    record { within = k.1; tidy = c.requires.below }

pub at-requires-in-Since : goal.at-requires-in-Since
at-requires-in-Since c =
    let k = subst (HasChildrenBelow (length c.args.below.now)) c.in-Since.is c.requires.children in
    record { within = k.0; tidy = c.requires.below }

pub at-requires-in-Since-2 : goal.at-requires-in-Since-2
at-requires-in-Since-2 c =
    let k = subst (HasChildrenBelow (length c.args.below.now)) c.in-Since.is c.requires.children in
    record { within = k.1; tidy = c.requires.below }

pub step_negation-requires : goal.step_negation-requires
step_negation-requires c = c.requires.own.tidy

pub step_conjunction-requires : goal.step_conjunction-requires
step_conjunction-requires c = record { own = c.requires.own.tidy; first = c.at-in-And.ensures.tidy; second = c.at-in-And-2.ensures.tidy }

pub step_disjunction-requires : goal.step_disjunction-requires
step_disjunction-requires c = record { own = c.requires.own.tidy; first = c.at-in-Or.ensures.tidy; second = c.at-in-Or-2.ensures.tidy }

pub step_implication-requires : goal.step_implication-requires
step_implication-requires c = record { own = c.requires.own.tidy; first = c.at-in-Implies.ensures.tidy; second = c.at-in-Implies-2.ensures.tidy }

pub step_until-requires : goal.step_until-requires
step_until-requires c = record {
  own = c.requires.own;
  left = c.at-in-Until.ensures.tidy;
  right = c.at-in-Until-2.ensures.tidy;
}

pub step_since-requires : goal.step_since-requires
step_since-requires c = record {
  own = c.requires.own;
  left = c.at-in-Since.ensures.tidy;
  right = c.at-in-Since-2.ensures.tidy;
}

pub step_constant-requires : goal.step_constant-requires
step_constant-requires c = c.requires.own.tidy

pub step_ahead-requires-clause-own : goal.step_ahead-requires-clause-own
step_ahead-requires-clause-own c = c.requires.own

pub step_ahead-requires-clause-below : goal.step_ahead-requires-clause-below
step_ahead-requires-clause-below c = c.requires.below

pub step_ahead-requires-clause-children : goal.step_ahead-requires-clause-children
step_ahead-requires-clause-children c = c.requires.children

pub step_behind-requires-clause-own : goal.step_behind-requires-clause-own
step_behind-requires-clause-own c = c.requires.own

pub step_behind-requires-clause-below : goal.step_behind-requires-clause-below
step_behind-requires-clause-below c = c.requires.below

pub step_behind-requires-clause-children : goal.step_behind-requires-clause-children
step_behind-requires-clause-children c = c.requires.children
