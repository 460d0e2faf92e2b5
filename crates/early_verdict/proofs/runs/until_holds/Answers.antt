use Rattle.std.proofs.Common.{true, false}
use Rattle.frac128.specs.Cuts.{place}
use Rattle.early_verdict.specs.Fitting.{sure_place}
use Rattle.early_verdict.proofs.SetsTell.{tells_as}
use Rattle.early_verdict.proofs.LookLemmas.{sure_step, only_step}
use Rattle.early_verdict.proofs.RunSets.{goes_on_is, until_held}
use Rattle.early_verdict.proofs.runs.until_holds.Goals as goal

pub returns-clause-fits : goal.returns-clause-fits
returns-clause-fits c = λ old tr p q a b is is_up h hp hq was.
    let e = c.args.entry.now in
    let x = c.args.own.now in
    let had = until_held e tr p q a old h b x hp.yes.first was in
    let both = c.in_ok-both.ensures.tells p.yes q.yes hp.yes.gains hq.yes.gains had.both in
    record {
      both = both;
      run = tells_as (goes_on_is c.args.p.now.yes.spans.items c.both.new.self.spans.items (place e.sure) (sure_place tr) h.sure_to)
          (c.in_ok-reach_sure.ensures.tells p.yes x.both.spans.items hp.yes.gains c.in_ok-both.ensures.gains (λ t o. (both.only t o).1.0) had.run);
      some = sure_step e tr old h c.args.w.now a b true true is q.yes c.args.q.now.yes x.some c.some_sure.new.self hq.yes had.some
          (c.in_ok-some_sure.ensures.tells q.yes hq.yes.gains);
      each = only_step e tr old h false c.args.up_to.now 0 a true true is_up x.run.spans.items c.reach_sure.new.self.spans.items
          x.each c.each_open.new.own had.each
          (c.in_ok-each_open.ensures.tells old tr x.run.spans.items h c.in_ok-reach_sure.ensures.gains had.no_run);
    }

pub both-requires : goal.both-requires
both-requires c = record { own = c.requires.own.tidy.both; first = c.requires.left.yes; second = c.requires.right.yes }

pub reach_sure-requires : goal.reach_sure-requires
reach_sure-requires c = record {
  own = c.requires.own.tidy.run;
  runs = c.requires.left.yes;
  input = c.in_ok-both.ensures.tidy;
  order = c.requires.own.entry.order;
}

pub some_sure-requires : goal.some_sure-requires
some_sure-requires c = record { own = c.requires.own.tidy.some; input = c.requires.right.yes; order = c.requires.own.entry.order }

pub each_open-requires : goal.each_open-requires
each_open-requires c = record {
  own = record { tidy = c.requires.own.tidy.each; entry = c.requires.own.entry; none = λ f. (c.requires.own.none f).each };
  input = c.in_ok-reach_sure.ensures.tidy;
}
