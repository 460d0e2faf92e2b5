use Rattle.early_verdict.proofs.Places.{item_at}
use Rattle.early_verdict.proofs.SplitLists.{at_split, changes_at}
use Rattle.early_verdict.proofs.letting.shed_at.Goals as goal

pub shed-requires-clause-tidy : goal.shed-requires-clause-tidy
shed-requires-clause-tidy c =
    let f = c.split_at_mut-from in
    c.requires.tidy _ (at_split c.args.live.now f.result.1.now c.args.i c.index-from-0.result f.ensures.back c.requires.live)

pub shed-requires-clause-inside : goal.shed-requires-clause-inside
shed-requires-clause-inside c =
    let f = c.split_at_mut-from in
    c.requires.inside _ (at_split c.args.live.now f.result.1.now c.args.i c.index-from-0.result f.ensures.back c.requires.live)

pub returns : goal.returns
returns c =
    let f = c.split_at_mut-from in
    changes_at c.index-from-0.result c.shed.new.own (record { front_is = f.ensures.front; back_is = f.ensures.back; within = c.requires.live }) (record {
      x = c.index-shown-i.result;
      at_shown = item_at c.args.shown.now c.args.i c.index-shown-i.result c.requires.shown c.index-shown-i.is;
      shed = c.shed.ensures;
    })
