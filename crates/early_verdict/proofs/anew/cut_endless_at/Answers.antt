use Rattle.early_verdict.proofs.SplitLists.{at_split, changes_at}
use Rattle.early_verdict.proofs.anew.cut_endless_at.Goals as goal

pub cut_endless-requires-clause-tidy : goal.cut_endless-requires-clause-tidy
cut_endless-requires-clause-tidy c =
    let f = c.split_at_mut-from in
    c.requires.tidy _ (at_split c.args.live.now f.result.1.now c.args.i c.index-from-0.result f.ensures.back c.requires.within)

pub cut_endless-requires-clause-inside : goal.cut_endless-requires-clause-inside
cut_endless-requires-clause-inside c =
    let f = c.split_at_mut-from in
    c.requires.inside _ (at_split c.args.live.now f.result.1.now c.args.i c.index-from-0.result f.ensures.back c.requires.within)

pub returns : goal.returns
returns c =
    let f = c.split_at_mut-from in
    changes_at c.index-from-0.result c.cut_endless.new.own
    (record { front_is = f.ensures.front; back_is = f.ensures.back; within = c.requires.within }) c.cut_endless.ensures
