use Rattle.std.proofs.Common.{refl, sym, subst, take}
use Rattle.stl_syntax.specs.Formula.{HasChildrenBelow}
use Rattle.early_verdict.proofs.SplitLists.{at_split, changes_at, front_tidy, length_front}
use Rattle.early_verdict.proofs.net.step_at.Goals as goal

pub step_operator-requires : goal.step_operator-requires
step_operator-requires c =
    let f = c.split_at_mut-from in
    let at = at_split c.args.live.now f.result.1.now c.args.i c.index-from-0.result f.ensures.back c.requires.within in
    record {
      own = record { tidy = c.requires.tidy _ at; entry = c.requires.entry; none = λ first. c.requires.none first _ at };
      below = front_tidy c.args.shown.now (take c.args.i c.args.shown.now) c.args.i refl c.requires.shown_tidy;
      children = subst (λ k. HasChildrenBelow k c.args.node.now) (sym (length_front c.args.shown.now c.args.i c.requires.shown_within)) c.requires.children;
      operator = c.requires.operator;
    }

pub returns : goal.returns
returns c =
    let f = c.split_at_mut-from in (
      changes_at c.index-from-0.result c.step_operator.new.own (record { front_is = f.ensures.front; back_is = f.ensures.back; within = c.requires.within })
          c.in_ok-step_operator.ensures.stepped,
      c.in_ok-step_operator.ensures.fits,
    )
