use Rattle.std.proofs.Common.{rules, ◌≡◌, ◌+◌, subst, sym, ap, length, take, add-one, arith}
use Rattle.std.specs.Prelude.{Some, slice_get}
use Rattle.std.proofs.lemmas.Option.{slice_get_read}
use Rattle.frac128.specs.Cuts.{place}
use Rattle.growing_sets.specs.Spans.{EndBefore}
use Rattle.growing_sets.specs.Listed.{joined}
use Rattle.growing_sets.proofs.BlockLemmas.{taken_count, all_before, tidy_block, counted, all_end_to, front_in, rest_in, ends_some, none_ends_behind}
use Rattle.growing_sets.proofs.stretches.reaching_in.Goals as goal
use Rattle.growing_sets.proofs.stretches.reaching_in.Goals.{After-index-one}

-- the block is there
there : (c : After-index-one) → slice_get c.args.blocks.now.items c.loop-block.block ≡ Some c.index-one.result.now
there c =
    slice_get_read c.args.blocks.now.items (length c.args.blocks.now.items) c.loop-block.block c.index-one.result.now (search rules)
    (omega arith) c.index-one.ensures

pub reaching-here-requires : goal.reaching-here-requires
reaching-here-requires c =
    tidy_block (place c.args.cut.now) c.args.blocks.now.items c.loop-block.block c.index-one.result.now
    (there (goal.at.reaching-here-requires c).After-index-one) c.requires.tidy

pub loop-block-init : goal.loop-block-init
loop-block-init c = record { seen = omega arith; within = omega arith; ends = tt }

pub loop-block-preserved : goal.loop-block-preserved
loop-block-preserved c =
    let ps = c.args.blocks.now.items in
    let k = c.loop-block.block in
    let p = c.index-one.result.now in
    let e = there (goal.at.loop-block-preserved c).After-index-one in
    let t = taken_count ps k p e in
    let l = c.len.ensures in
    let w = c.reaching-here.ensures.within in
    let i = c.loop-block.invariant.seen in
    record {
      seen = subst (λ n. c.loop-block.seen + c.reaching-here.result ≡ length (joined (take n ps))) (sym (add-one k)) (omega arith);
      within = omega arith;
      ends = subst (λ n. EndBefore (place c.args.cut.now) (joined (take n ps))) (sym (add-one k))
          (all_end_to (place c.args.cut.now) ps k p e c.requires.tidy c.loop-block.invariant.ends c.reaching-here.result c.reaching-here.ensures.front
          (omega arith));
    }

pub returns-then-here-len-clause-within : goal.returns-then-here-len-clause-within
returns-then-here-len-clause-within c =
    let ps = c.args.blocks.now.items in
    let e = there (goal.at.returns-then-here-len-clause-within c).After-index-one in
    let n = counted (place c.args.cut.now) ps c.loop-block.block c.index-one.result.now e c.requires.tidy in
    let w = c.reaching-here.ensures.within in
    let i = c.loop-block.invariant.seen in
    omega arith

pub returns-then-here-len-clause-front : goal.returns-then-here-len-clause-front
returns-then-here-len-clause-front c =
    let ps = c.args.blocks.now.items in
    let e = there (goal.at.returns-then-here-len-clause-front c).After-index-one in
    let l = c.len.ensures in
    let i = c.loop-block.invariant.seen in
    front_in (place c.args.cut.now) ps c.loop-block.block c.index-one.result.now e c.requires.tidy c.loop-block.invariant.ends c.reaching-here.result
    c.reaching-here.ensures.front (c.loop-block.seen + c.reaching-here.result) (omega arith) (omega arith)

pub returns-then-here-len-clause-rest : goal.returns-then-here-len-clause-rest
returns-then-here-len-clause-rest c =
    let ps = c.args.blocks.now.items in
    let e = there (goal.at.returns-then-here-len-clause-rest c).After-index-one in
    let l = c.len.ensures in
    let i = c.loop-block.invariant.seen in
    rest_in (place c.args.cut.now) ps c.loop-block.block c.index-one.result.now e c.requires.tidy c.loop-block.invariant.ends c.reaching-here.result
    c.reaching-here.ensures.front (c.loop-block.seen + c.reaching-here.result) (omega arith) (omega arith) c.reaching-here.ensures.rest

pub returns-clause-within : goal.returns-clause-within
returns-clause-within c =
    let ps = c.args.blocks.now.items in
    let is = ap (λ rs. length (joined rs)) (all_before ps c.loop-block.block (omega arith)) in
    let i = c.loop-block.invariant.seen in
    omega arith

pub returns-clause-front : goal.returns-clause-front
returns-clause-front c =
    let ps = c.args.blocks.now.items in
    ends_some (place c.args.cut.now) (joined ps) c.loop-block.seen
    (subst (λ rs. EndBefore (place c.args.cut.now) (joined rs)) (all_before ps c.loop-block.block (omega arith)) c.loop-block.invariant.ends)

pub returns-clause-rest : goal.returns-clause-rest
returns-clause-rest c =
    let ps = c.args.blocks.now.items in
    let is = ap (λ rs. length (joined rs)) (all_before ps c.loop-block.block (omega arith)) in
    let i = c.loop-block.invariant.seen in
    none_ends_behind (place c.args.cut.now) (joined ps) c.loop-block.seen (omega arith)

pub overflow_add-result : goal.overflow_add-result
overflow_add-result c =
    let e = there (goal.at.overflow_add-result c).After-index-one in
    let n = counted (place c.args.cut.now) c.args.blocks.now.items c.loop-block.block c.index-one.result.now e c.requires.tidy in
    let w = c.reaching-here.ensures.within in
    let i = c.loop-block.invariant.seen in
    let f = c.requires.few in
    omega arith

pub overflow_add-seen : goal.overflow_add-seen
overflow_add-seen c =
    let e = there (goal.at.overflow_add-seen c).After-index-one in
    let n = counted (place c.args.cut.now) c.args.blocks.now.items c.loop-block.block c.index-one.result.now e c.requires.tidy in
    let w = c.reaching-here.ensures.within in
    let i = c.loop-block.invariant.seen in
    let f = c.requires.few in
    omega arith
