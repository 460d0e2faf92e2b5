use Rattle.frac128.specs.Cuts.{place}
use Rattle.growing_sets.specs.Steps.{SeesOnly}
use Rattle.growing_sets.proofs.WindowLemmas.{on_good}
use Rattle.early_verdict.proofs.FirstSets.{gained_all, told_later}
use Rattle.early_verdict.proofs.looks.each_open.Goals as goal

pub each_first-requires : goal.each_first-requires
each_first-requires c = record {
  own = c.requires.own.tidy;
  input = c.requires.input;
  none = c.requires.own.none c.if-entry.true;
  near = c.requires.own.entry.near_start;
}

pub each-requires : goal.each-requires
each-requires c = record { own = c.requires.own.tidy; input = c.requires.input }

pub returns-then-entry : goal.returns-then-entry
returns-then-entry c = record {
  tidy = c.each_first.ensures.tidy;
  bounds = c.each_first.ensures.bounds;
  gains = c.each_first.ensures.gains;
  tells = on_good c.each_first.result c.each_first.ensures.tells
      (λ f old tr was h gains none told. f (gained_all c.args.entry.now old tr h c.if-entry.true was none gains));
}

pub returns : goal.returns
returns c = record {
  tidy = c.each.ensures.tidy;
  bounds = c.each.ensures.bounds;
  gains = c.each.ensures.gains;
  tells = on_good c.each.result c.each.ensures.tells (λ f old tr was h gains none told. f was gains
      (told_later c.args.entry.now old tr h c.args.own.now (SeesOnly c.args.w.now (place c.args.entry.now.start) was) told c.if-entry.false));
}
