use Rattle.std.proofs.Common.{ℕ, List, ◌++◌, append_assoc, sym, subst, ap, ◌∙◌}
use Rattle.workload_summary.proofs.counts.text_left.Goals as goal

pub loop-text-init : goal.loop-text-init
loop-text-init g c = record {
  can = c.requires;
  so = λ later left. subst (λ (t : List ℕ). g.L.LinesLeft.is_left c.args.left.now (t ++ later)) (sym c.new-text.ensures) left;
}

pub loop-text-preserved : goal.loop-text-preserved
loop-text-preserved g c =
    let some = c.put_some-more.ensures in
    let room = c.put_some-more.new.room in
    record {
      can = some.goes_on c.if-not-more.false;
      so = λ later left. subst (λ (t : List ℕ). g.L.LinesLeft.is_left c.args.left.now (t ++ later))
          (sym (c.in_ok-push.ensures.ok ∙ ap (λ w. c.loop-text.text ++ w) c.bytes.ensures))
          (subst (g.L.LinesLeft.is_left c.args.left.now) (sym (append_assoc c.loop-text.text room later))
          (c.loop-text.invariant.so (room ++ later) (some.more c.if-not-more.false later left)));
    }

pub loop-text-smaller : goal.loop-text-smaller
loop-text-smaller g c = c.put_some-more.ensures.fewer c.if-not-more.false

pub returns-then-not-more : goal.returns-then-not-more
returns-then-not-more g c =
    let room = c.put_some-more.new.room in
    subst (g.L.LinesLeft.is_left c.args.left.now) (sym (c.in_ok-push.ensures.ok ∙ ap (λ w. c.loop-text.text ++ w) c.bytes.ensures))
    (c.loop-text.invariant.so room (c.put_some-more.ensures.last c.if-not-more.true))
