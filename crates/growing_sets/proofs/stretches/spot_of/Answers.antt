use Rattle.std.proofs.Common.{rules, ◌≡◌, ◌+◌, ◌-◌, ◌<◌, subst, sym, length, take, drop, add-one, arith}
use Rattle.std.specs.Prelude.{Some, slice_get}
use Rattle.std.proofs.lemmas.Option.{slice_get_read}
use Rattle.growing_sets.specs.Listed.{joined}
use Rattle.growing_sets.proofs.BlockLemmas.{taken_count, dropped_count, none_behind}
use Rattle.growing_sets.proofs.stretches.spot_of.Goals as goal
use Rattle.growing_sets.proofs.stretches.spot_of.Goals.{After-index}

-- the block is there
there : (c : After-index) → slice_get c.args.blocks.now.items c.loop-block.block ≡ Some c.index.result.now
there c =
    slice_get_read c.args.blocks.now.items (length c.args.blocks.now.items) c.loop-block.block c.index.result.now (search rules) (omega arith) c.index.ensures

pub loop-block-init : goal.loop-block-init
loop-block-init c = record { before = omega arith; left = c.requires }

pub returns-then-index-len-clause-spot : goal.returns-then-index-len-clause-spot
returns-then-index-len-clause-spot c = record {
  held = c.index.result.now;
  there = there (goal.at.returns-then-index-len-clause-spot c).After-index;
  before = c.loop-block.invariant.before;
  within = let l = c.len-len.ensures in omega arith;
}

pub loop-block-preserved : goal.loop-block-preserved
loop-block-preserved c =
    let ps = c.args.blocks.now.items in
    let k = c.loop-block.block in
    let p = c.index.result.now in
    let e = there (goal.at.loop-block-preserved c).After-index in
    let t = taken_count ps k p e in
    let d = dropped_count ps k p e in
    let l = c.len-len.ensures in
    let b = c.loop-block.invariant.before in
    let r = c.loop-block.invariant.left in
    record {
      before = subst (λ n. c.args.at ≡ length (joined (take n ps)) + (c.loop-block.index - c.len-len.result)) (sym (add-one k)) (omega arith);
      left = subst (λ n. c.loop-block.index - c.len-len.result < length (joined (drop n ps))) (sym (add-one k)) (omega arith);
    }

pub unreachable-requires : goal.unreachable-requires
unreachable-requires c =
    let n = none_behind c.args.blocks.now.items c.loop-block.block (omega arith) in
    let l = c.loop-block.invariant.left in
    omega arith
