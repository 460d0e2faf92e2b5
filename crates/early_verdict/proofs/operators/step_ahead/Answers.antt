use Rattle.std.proofs.Common.{subst, sym, length}
use Rattle.std.specs.Prelude.{OnOk}
use Rattle.stl_syntax.specs.Formula.{HasChildrenBelow}
use Rattle.early_verdict.specs.Fitting.{EventuallyFits, AlwaysFits}
use Rattle.early_verdict.specs.Standing.{GoesBy}
use Rattle.growing_sets.proofs.WindowLemmas.{on_good}
use Rattle.early_verdict.proofs.ChildLists.{one_list}
use Rattle.early_verdict.proofs.operators.step_ahead.Goals as goal

pub returns-in-Eventually-clause-fits : goal.returns-in-Eventually-clause-fits
returns-in-Eventually-clause-fits c =
    let n = c.in-Eventually in
    let s = c.at.result.now in
    subst (λ m. OnOk c.step_eventually.result (GoesBy m c.args.entry.now c.args.below.now c.args.own.now c.step_eventually.new.own)) (sym n.is)
    (on_good c.step_eventually.result c.step_eventually.ensures.fits (λ f old tr was h had parts w.
    one_list (λ l. EventuallyFits c.args.entry.now.ended tr n.low n.high n.low_in n.high_in l c.step_eventually.new.own) c.args.below.now
    n.of s c.at.ensures.at
    (f old tr (was n.of) n.low n.high n.low_in n.high_in c.ahead-w.ensures h (had n.of s c.at.ensures.at) w)))

pub returns-in-Always-clause-fits : goal.returns-in-Always-clause-fits
returns-in-Always-clause-fits c =
    let n = c.in-Always in
    let s = c.at-in-Always.result.now in
    subst (λ m. OnOk c.step_always.result (GoesBy m c.args.entry.now c.args.below.now c.args.own.now c.step_always.new.own)) (sym n.is)
    (on_good c.step_always.result c.step_always.ensures.fits (λ f old tr was h had parts w.
    one_list (λ l. AlwaysFits c.args.entry.now.ended tr n.low n.high n.low_in n.high_in l c.step_always.new.own) c.args.below.now
    n.of s c.at-in-Always.ensures.at
    (f old tr (was n.of) n.low n.high n.low_in n.high_in c.ahead-w-in-Always.ensures h (had n.of s c.at-in-Always.ensures.at) w)))

pub at-requires : goal.at-requires
at-requires c = record {
  within = subst (HasChildrenBelow (length c.args.below.now)) c.in-Eventually.is c.requires.children;
  tidy = c.requires.below;
}

pub step_eventually-requires : goal.step_eventually-requires
step_eventually-requires c = record { own = c.requires.own; operand = c.at.ensures.tidy }

pub at-requires-in-Always : goal.at-requires-in-Always
at-requires-in-Always c = record {
  within = subst (HasChildrenBelow (length c.args.below.now)) c.in-Always.is c.requires.children;
  tidy = c.requires.below;
}

pub step_always-requires : goal.step_always-requires
step_always-requires c = record { own = c.requires.own; operand = c.at-in-Always.ensures.tidy }
