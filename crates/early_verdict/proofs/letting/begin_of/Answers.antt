use Rattle.std.proofs.Common.{Option, Some, None}
use Rattle.std.specs.Prelude.{IfSome}
use Rattle.frac128.specs.declared.cut.Cut.{Cut}
use Rattle.early_verdict.proofs.Places.{item_at}
use Rattle.early_verdict.proofs.letting.begin_of.Goals as goal

-- what follows of a place, where there is one
of_place : {P Q : Cut → Type 0} (o : Option Cut) → ((c : Cut) → P c → Q c) → IfSome o P → IfSome o Q
of_place None f h = tt
of_place (Some c) f h = f c h

pub decisive-requires : goal.decisive-requires
decisive-requires c =
    let own = c.index-live-i in
    let left = c.index-shown-since in
    record {
      own = c.requires.tidy own.result (item_at c.args.live.now c.args.i own.result c.requires.own own.is);
      left = c.requires.left_tidy c.args.since.now.left left.result
          (item_at c.args.shown.now c.args.since.now.left left.result c.requires.left left.is);
      near = c.requires.near;
    }

pub returns : goal.returns
returns c =
    let own = c.index-live-i in
    let left = c.index-shown-since in
    let right = c.index-shown-since-2 in
    of_place c.decisive.result (λ d h. (
      h.0,
      record {
        own = own.result;
        left = left.result;
        right = right.result;
        at_own = item_at c.args.live.now c.args.i own.result c.requires.own own.is;
        at_left = item_at c.args.shown.now c.args.since.now.left left.result c.requires.left left.is;
        at_right = item_at c.args.shown.now c.args.since.now.right right.result c.requires.right right.is;
        decides = h.1;
      },
    )) c.decisive.ensures
