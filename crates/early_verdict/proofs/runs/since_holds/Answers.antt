use Rattle.std.proofs.Common.{true, Some}
use Rattle.early_verdict.proofs.LookLemmas.{one_step, back_step}
use Rattle.early_verdict.proofs.RunSets.{since_held}
use Rattle.early_verdict.proofs.runs.since_holds.Goals as goal

pub returns-clause-fits : goal.returns-clause-fits
returns-clause-fits c = λ old tr p q a b is is_down h hp hq was.
    let e = c.args.entry.now in
    let x = c.args.own.now in
    let had = since_held e tr p q a old b x hp.yes.first was in
    let both = c.in_ok-both.ensures.tells p.yes q.yes hp.yes.gains hq.yes.gains had.both in
    record {
      both = both;
      run = c.in_ok-reach_back.ensures.tells p.yes x.both.spans.items hp.yes.gains c.in_ok-both.ensures.gains (λ t o. (both.only t o).1.0) had.run;
      some = one_step e tr old h c.args.w.now a b true true is q.yes c.args.q.now.yes x.some c.some.new.self hq.yes had.some
          (c.in_ok-some.ensures.tells q.yes hq.yes.gains);
      each = back_step e tr old h c.args.down_to.now 0 (Some a) true true is_down x.run.spans.items c.reach_back.new.self.spans.items
          x.each c.each_open.new.own had.each
          (c.in_ok-each_open.ensures.tells old tr x.run.spans.items h c.in_ok-reach_back.ensures.gains had.no_run);
    }

pub both-requires : goal.both-requires
both-requires c = record { own = c.requires.own.tidy.both; first = c.requires.left.yes; second = c.requires.right.yes }

pub reach_back-requires : goal.reach_back-requires
reach_back-requires c = record { own = c.requires.own.tidy.run; runs = c.requires.left.yes; input = c.in_ok-both.ensures.tidy }

pub some-requires : goal.some-requires
some-requires c = c.requires.own.tidy.some

pub each_open-requires : goal.each_open-requires
each_open-requires c = record {
  own = record { tidy = c.requires.own.tidy.each; entry = c.requires.own.entry; none = λ f. (c.requires.own.none f).each };
  input = c.in_ok-reach_back.ensures.tidy;
}
