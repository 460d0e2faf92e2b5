use Rattle.std.proofs.Common.{◌≡◌, ◌∙◌, ◌-◌, sym, subst, refl, suc, length, arith}
use Rattle.std.specs.Prelude.{Some, slice_get, slice_set}
use Rattle.std.proofs.lemmas.List.{length-set}
use Rattle.std.proofs.lemmas.Option.{slice_get_read}
use Rattle.growing_sets.specs.Listed.{joined}
use Rattle.growing_sets.proofs.BlockLemmas.{joined_same, passed_back}
use Rattle.growing_sets.proofs.stretches.send_back.Goals as goal

pub returns-in_default : goal.returns-in_default
returns-in_default c =
    let ps = c.loop.blocks.items in
    let q = c.index_mut.result.now in
    let n = c.loop.invariant.count in
    let e : slice_get ps c.args.block ≡ Some q = slice_get_read ps (length ps) c.args.block q refl (omega arith) c.index_mut.ensures.value in
    joined_same ps c.args.block q c.take_first.new.self e c.in_default.ensures ∙ c.loop.invariant.same

pub loop-preserved : goal.loop-preserved
loop-preserved c =
    let ps = c.loop.blocks.items in
    let k = c.args.block - 1 in
    let q = c.index_mut.result.now in
    let q' = c.take_first.new.self in
    let p = c.index_mut-in-loop.result.now in
    let p' = c.put_last.new.self in
    let n = c.loop.invariant.count in
    let is : suc k ≡ c.args.block = omega arith in
    let e : slice_get ps c.args.block ≡ Some q = slice_get_read ps (length ps) c.args.block q refl (omega arith) c.index_mut.ensures.value in
    let m = length-set ps c.args.block q' in
    let f : slice_get (slice_set ps c.args.block q') k ≡ Some p =
    slice_get_read (slice_set ps c.args.block q') (length (slice_set ps c.args.block q')) k p refl (omega arith) c.index_mut-in-loop.ensures.value in
    record {
      same = subst (λ i. joined (slice_set (slice_set ps i q') k p') ≡ joined ps) is
          (passed_back ps k p p' q q' c.in-Some.one (subst (λ i. slice_get ps i ≡ Some q) (sym is) e) c.in-Some.ensures
          (subst (λ i. slice_get (slice_set ps i q') k ≡ Some p) (sym is) f) c.in_ok-put_last.ensures) ∙ c.loop.invariant.same;
      count = length-set (slice_set ps c.args.block q') k p' ∙ m ∙ n;
    }
