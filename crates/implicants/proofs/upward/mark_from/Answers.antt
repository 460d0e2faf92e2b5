use Rattle.std.proofs.Common.{◌≡◌, ◌+◌, ◌-◌, suc, refl, subst, arith, ◌∙◌}
use Rattle.implicants.specs.Upward.{AreLostFrom}
use Rattle.implicants.proofs.LostWithout.{PutsFrom, puts_from_none, puts_from_more, puts_from_all, puts_count}
use Rattle.implicants.proofs.upward.mark_from.Goals as goal

pub loop-c-init : goal.loop-c-init
loop-c-init c = record {
  within = omega arith;
  count = refl;
  put = puts_from_none c.args.formula.now.nodes c.args.trace.now c.args.cells.now.all.items c.args.left c.args.marks.now.items;
  runs = c.requires.runs;
  lost = c.requires.lost;
  chains = c.in_ok-done.ensures;
}

pub loop-c-preserved : goal.loop-c-preserved
loop-c-preserved c =
    let nodes = c.args.formula.now.nodes in
    let tr = c.args.trace.now in
    let all = c.args.cells.now.all.items in
    let t = c.loop-c-test.true in
    let before = c.loop-c.invariant in
    let w = before.within in
    let put = c.in_ok-mark_lost.ensures.put in
    record {
      within = omega (arith, w);
      count = puts_count nodes tr all (c.loop-c.c - 1) c.loop-c.marks.items c.mark_lost.new.marks.items put ∙ before.count;
      put = puts_from_more nodes tr all c.args.left (c.loop-c.c - 1) c.args.marks.now.items c.loop-c.marks.items c.mark_lost.new.marks.items
          (omega (arith, t, w))
          (subst (λ k. PutsFrom nodes tr all c.args.left k c.args.marks.now.items c.loop-c.marks.items)
          (let e : c.loop-c.c ≡ suc (c.loop-c.c - 1) = omega (arith, t) in e) before.put) put;
      runs = c.mark_lost.ensures.runs ∙ before.runs;
      lost = c.in_ok-mark_lost.ensures.lost;
      chains = c.mark_lost.ensures.chains;
    }

pub blank-requires : goal.blank-requires
blank-requires c = c.requires.given.some

pub mark_lost-requires : goal.mark_lost-requires
mark_lost-requires c =
    let t = c.loop-c-test.true in
    let w = c.loop-c.invariant.within in
    let r = c.requires.left in
    record {
      given = record { some = c.requires.given.some; cells = c.requires.given.cells; count = c.loop-c.invariant.count ∙ c.requires.given.count };
      inside = omega (arith, t, w, r);
      signs = c.requires.signs;
      runs = c.loop-c.invariant.runs;
      lost = subst (λ k. AreLostFrom c.args.formula.now.nodes c.args.trace.now c.args.cells.now.all.items c.loop-c.marks.items k
          c.args.ground.now.signs.items c.loop-c.runs.items) (let e : c.loop-c.c ≡ c.loop-c.c - 1 + 1 = omega (arith, t) in e) c.loop-c.invariant.lost;
      chains = c.loop-c.invariant.chains;
    }

pub returns-clause-count : goal.returns-clause-count
returns-clause-count c = c.loop-c.invariant.count

pub returns-clause-needed : goal.returns-clause-needed
returns-clause-needed c = puts_from_all c.args.formula.now.nodes c.args.trace.now c.args.cells.now.all.items c.args.left c.loop-c.c c.args.marks.now.items
    c.loop-c.marks.items c.loop-c.invariant.put
