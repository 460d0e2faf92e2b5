use Rattle.std.proofs.Common.{◌≡◌, ◌+◌, ◌++◌, [], refl, sym, ap, ◌∙◌, append-nil, append_assoc, subst, arith, drop}
use Rattle.std.proofs.lemmas.List.{drop_all}
use Rattle.online_robust.specs.Putting.{HasPut}
use Rattle.online_robust.specs.ToldLines.{lines_told}
use Rattle.online_robust.proofs.LinesPut.{put_both, put_nothing, put_within}
use Rattle.online_robust.proofs.slide.put_gaps.Goals as goal

pub loop-i-init : goal.loop-i-init
loop-i-init c = record {
  within = c.requires;
  done = [];
  put = put_nothing c.args.node c.args.edges.now;
  all = refl;
}

pub loop-i-preserved : goal.loop-i-preserved
loop-i-preserved c =
    let now = c.loop-i.invariant in
    let (more, put, is) = c.in_ok-at.ensures in
    record {
      within = put_within c.args.node more c.loop-i.edges c.put_piece.new.edges put now.within;
      done = now.done ++ more;
      put = put_both c.args.node now.done more c.args.edges.now c.loop-i.edges c.put_piece.new.edges c.requires now.put put;
      all = now.all ∙ ap (λ l. now.done ++ l) is
          ∙ sym (append_assoc now.done more (lines_told c.in_ok-at.at (drop (c.loop-i.i + 1) c.args.told.now.pieces) c.args.point.now));
    }

pub returns : goal.returns
returns c =
    let now = c.loop-i.invariant in
    let pieces = c.args.told.now.pieces in
    let count = c.len-i-end.ensures.value in
    let past = c.loop-i-test.false in
    let none : drop c.loop-i.i pieces ≡ [] = drop_all c.loop-i.i pieces (omega (arith, count, past)) in
    subst (λ l. HasPut c.args.node l c.args.edges.now c.loop-i.edges)
    (sym (now.all ∙ ap (λ ps. now.done ++ lines_told c.loop-i.at ps c.args.point.now) none ∙ append-nil now.done)) now.put
