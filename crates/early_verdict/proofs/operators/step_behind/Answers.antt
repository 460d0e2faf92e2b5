use Rattle.std.proofs.Common.{subst, sym, length}
use Rattle.std.specs.Prelude.{OnOk}
use Rattle.stl_syntax.specs.Formula.{HasChildrenBelow}
use Rattle.early_verdict.specs.Fitting.{OnceFits, HistoricallyFits}
use Rattle.early_verdict.specs.Standing.{GoesBy}
use Rattle.growing_sets.proofs.WindowLemmas.{on_good}
use Rattle.early_verdict.proofs.ChildLists.{one_list}
use Rattle.early_verdict.proofs.operators.step_behind.Goals as goal

pub returns-in-Once-clause-fits : goal.returns-in-Once-clause-fits
returns-in-Once-clause-fits c =
    let n = c.in-Once in
    let s = c.at.result.now in
    subst (λ m. OnOk c.step_once.result (GoesBy m c.args.entry.now c.args.below.now c.args.own.now c.step_once.new.own)) (sym n.is)
    (on_good c.step_once.result c.step_once.ensures.fits (λ f old tr was h had parts w.
    one_list (λ l. OnceFits tr n.low n.high n.low_in n.high_in l c.step_once.new.own) c.args.below.now n.of s c.at.ensures.at
    (f old tr (was n.of) n.low n.high n.low_in n.high_in c.behind-w.ensures h (had n.of s c.at.ensures.at) w)))

pub returns-in-Historically-clause-fits : goal.returns-in-Historically-clause-fits
returns-in-Historically-clause-fits c =
    let n = c.in-Historically in
    let s = c.at-in-Historically.result.now in
    subst (λ m. OnOk c.step_historically.result (GoesBy m c.args.entry.now c.args.below.now c.args.own.now c.step_historically.new.own)) (sym n.is)
    (on_good c.step_historically.result c.step_historically.ensures.fits (λ f old tr was h had parts w.
    one_list (λ l. HistoricallyFits tr n.low n.high n.low_in n.high_in l c.step_historically.new.own) c.args.below.now n.of s c.at-in-Historically.ensures.at
    (f old tr (was n.of) n.low n.high n.low_in n.high_in c.behind-w-in-Historically.ensures h (had n.of s c.at-in-Historically.ensures.at) w)))

pub at-requires : goal.at-requires
at-requires c = record {
  within = subst (HasChildrenBelow (length c.args.below.now)) c.in-Once.is c.requires.children;
  tidy = c.requires.below;
}

pub step_once-requires : goal.step_once-requires
step_once-requires c = record { own = c.requires.own; operand = c.at.ensures.tidy }

pub at-requires-in-Historically : goal.at-requires-in-Historically
at-requires-in-Historically c = record {
  within = subst (HasChildrenBelow (length c.args.below.now)) c.in-Historically.is c.requires.children;
  tidy = c.requires.below;
}

pub step_historically-requires : goal.step_historically-requires
step_historically-requires c = record { own = c.requires.own; operand = c.at-in-Historically.ensures.tidy }
