use Rattle.early_verdict.proofs.Places.{item_at}
use Rattle.early_verdict.proofs.SplitLists.{at_split, changes_at}
use Rattle.early_verdict.proofs.net.show_at.Goals as goal

pub show-requires : goal.show-requires
show-requires c =
    let f = c.split_at_mut-from in
    c.requires.tidy c.args.i _ (at_split c.args.shown.now f.result.1.now c.args.i c.index-from-0.result f.ensures.back c.requires.within)

pub returns : goal.returns
returns c =
    let f = c.split_at_mut-from in
    changes_at c.index-from-0.result c.show.new.shown (record { front_is = f.ensures.front; back_is = f.ensures.back; within = c.requires.within }) (record {
      own = c.index-live-i.result;
      at_live = item_at c.args.live.now c.args.i c.index-live-i.result c.requires.live_within c.index-live-i.is;
      shown = c.in_ok-show.ensures;
    })
