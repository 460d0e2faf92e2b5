use Rattle.std.proofs.Common.{Bool, sym, subst}
use Rattle.frac128.specs.Cuts.{place}
use Rattle.growing_sets.specs.Steps.{SeesOnly}
use Rattle.growing_sets.proofs.WindowLemmas.{on_good}
use Rattle.early_verdict.specs.Fitting.{Says}
use Rattle.early_verdict.specs.Looking.{SeesOnlyTo}
use Rattle.early_verdict.proofs.FirstSets.{told_ended}
use Rattle.early_verdict.proofs.looks.each_ahead.Goals as goal

pub each_last-requires : goal.each_last-requires
each_last-requires c = record { own = c.requires.own.tidy; input = c.requires.input; near = c.requires.own.entry.near_sure }

pub each_open-requires : goal.each_open-requires
each_open-requires c = record { own = c.requires.own; input = c.requires.input }

pub returns-then-entry : goal.returns-then-entry
returns-then-entry c =
    let e = c.args.entry.now in
    record {
      tidy = c.each_last.ensures.tidy;
      bounds = c.each_last.ensures.bounds;
      gains = c.each_last.ensures.gains;
      tells = on_good c.each_last.result c.each_last.ensures.tells (λ f old tr was h gains none told.
          subst (λ (b : Bool). Says c.each_last.new.self (SeesOnlyTo b c.args.w.now (place e.start) (place e.sure) c.args.x.now.spans.items))
          (sym c.if-entry.true)
          (f was gains (told_ended e old tr h c.args.own.now (SeesOnly c.args.w.now (place e.start) was) told c.if-entry.true)));
    }

pub returns : goal.returns
returns c =
    let e = c.args.entry.now in
    record {
      tidy = c.each_open.ensures.tidy;
      bounds = c.each_open.ensures.bounds;
      gains = c.each_open.ensures.gains;
      tells = on_good c.each_open.result c.each_open.ensures.tells (λ f old tr was h gains none told.
          subst (λ (b : Bool). Says c.each_open.new.own (SeesOnlyTo b c.args.w.now (place e.start) (place e.sure) c.args.x.now.spans.items))
          (sym c.if-entry.false) (f old tr was h gains none told));
    }
