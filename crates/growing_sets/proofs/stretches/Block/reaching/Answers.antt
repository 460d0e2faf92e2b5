use Rattle.std.proofs.Common.{rules, ◌≡◌, ℕ, length, take, subst, sym, add-one, arith}
use Rattle.std.specs.Prelude.{Some, slice_get}
use Rattle.std.proofs.lemmas.Option.{slice_get_read}
use Rattle.frac128.specs.Cuts.{place}
use Rattle.growing_sets.specs.Spans.{EndBefore}
use Rattle.growing_sets.proofs.SpanLemmas.{front_more, rest_more}
use Rattle.growing_sets.proofs.stretches.Block.reaching.Goals as goal

pub loop-low-preserved-then-precedes : goal.loop-low-preserved-then-precedes
loop-low-preserved-then-precedes c =
    let i : ℕ = c.between-middle.result in
    let above = c.between-middle.ensures.above in
    let below = c.between-middle.ensures.below in
    let e : slice_get c.args.self.now.ring.items i ≡ Some c.index.result.now =
    slice_get_read c.args.self.now.ring.items (length c.args.self.now.ring.items) i c.index.result.now (search rules) (omega arith) c.index.ensures in
    record {
      order = omega arith;
      within = omega arith;
      front = subst (λ k. EndBefore (place c.args.cut.now) (take k c.args.self.now.ring.items)) (sym (add-one i))
          (front_more (place c.args.cut.now) c.args.self.now.ring.items i c.index.result.now c.requires e (c.precedes.ensures.0 c.if-precedes.true));
      rest = c.loop-low.invariant.rest;
    }

pub loop-low-preserved : goal.loop-low-preserved
loop-low-preserved c =
    let i : ℕ = c.between-middle.result in
    let above = c.between-middle.ensures.above in
    let below = c.between-middle.ensures.below in
    let e : slice_get c.args.self.now.ring.items i ≡ Some c.index.result.now =
    slice_get_read c.args.self.now.ring.items (length c.args.self.now.ring.items) i c.index.result.now (search rules) (omega arith) c.index.ensures in
    record {
      order = omega arith;
      within = omega arith;
      front = c.loop-low.invariant.front;
      rest = rest_more (place c.args.cut.now) c.args.self.now.ring.items i c.index.result.now c.requires e
          (λ b. let x = c.precedes.ensures.1 b in let y = c.if-precedes.false in cc);
    }
