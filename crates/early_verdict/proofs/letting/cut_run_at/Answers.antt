use Rattle.early_verdict.proofs.SplitLists.{at_split, changes_at}
use Rattle.early_verdict.proofs.letting.cut_run_at.Goals as goal

pub cut_run-requires-clause-tidy : goal.cut_run-requires-clause-tidy
cut_run-requires-clause-tidy c =
    let f = c.split_at_mut-from in
    c.requires.tidy _ (at_split c.args.live.now f.result.1.now c.args.i c.index-from-0.result f.ensures.back c.requires.within)

pub cut_run-requires-clause-inside : goal.cut_run-requires-clause-inside
cut_run-requires-clause-inside c =
    let f = c.split_at_mut-from in
    c.requires.inside _ (at_split c.args.live.now f.result.1.now c.args.i c.index-from-0.result f.ensures.back c.requires.within)

pub returns : goal.returns
returns c =
    let f = c.split_at_mut-from in
    changes_at c.index-from-0.result c.cut_run.new.own
    (record { front_is = f.ensures.front; back_is = f.ensures.back; within = c.requires.within }) c.cut_run.ensures
