use Rattle.early_verdict.proofs.SplitLists.{at_split, changes_at}
use Rattle.early_verdict.proofs.net.leaf_at.Goals as goal

pub step_leaf-requires-clause-own : goal.step_leaf-requires-clause-own
step_leaf-requires-clause-own c =
    let f = c.split_at_mut-from in
    c.requires.tidy c.args.i _ (at_split c.args.shown.now f.result.1.now c.args.i c.index-from-0.result f.ensures.back c.requires.within)

pub returns : goal.returns
returns c =
    let f = c.split_at_mut-from in
    let e = c.in_ok-step_leaf.ensures in (
      changes_at c.index-from-0.result c.step_leaf.new.own (record { front_is = f.ensures.front; back_is = f.ensures.back; within = c.requires.within })
          (e.stepped, e.shown),
      e.fits,
    )
