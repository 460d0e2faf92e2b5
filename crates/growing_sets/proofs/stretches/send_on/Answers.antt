use Rattle.std.proofs.Common.{◌≡◌, ◌∙◌, ◌+◌, sym, subst, refl, suc, length, add-one, arith}
use Rattle.std.specs.Prelude.{Some, slice_get, slice_set, slice_index_or}
use Rattle.std.proofs.lemmas.List.{length-set}
use Rattle.std.proofs.lemmas.Option.{slice_get_read}
use Rattle.growing_sets.specs.Listed.{joined}
use Rattle.growing_sets.proofs.BlockLemmas.{joined_same, passed_on}
use Rattle.growing_sets.proofs.stretches.send_on.Goals as goal

pub returns-in_default-clause-same : goal.returns-in_default-clause-same
returns-in_default-clause-same c =
    let ps = c.loop.blocks.items in
    let p = c.index_mut.result.now in
    let n = c.loop.invariant.count in
    let e : slice_get ps c.args.block ≡ Some p = slice_get_read ps (length ps) c.args.block p refl (omega arith) c.index_mut.ensures.value in
    joined_same ps c.args.block p c.take_last.new.self e c.in_default.ensures ∙ c.loop.invariant.same

pub returns-in_default-clause-count : goal.returns-in_default-clause-count
returns-in_default-clause-count c = length-set c.loop.blocks.items c.args.block c.take_last.new.self ∙ c.loop.invariant.count

pub loop-preserved : goal.loop-preserved
loop-preserved c =
    let ps = c.loop.blocks.items in
    let k = c.args.block in
    let p = c.index_mut.result.now in
    let p' = c.take_last.new.self in
    let q = c.index_mut-in-loop.result.now in
    let q' = c.put_first.new.self in
    let n = c.loop.invariant.count in
    let e : slice_get ps k ≡ Some p = slice_get_read ps (length ps) k p refl (omega arith) c.index_mut.ensures.value in
    let m = length-set ps k p' in
    let f : slice_get (slice_set ps k p') (suc k) ≡ Some q = slice_get_read (slice_set ps k p') (length (slice_set ps k p')) (suc k) q refl (omega arith)
    (subst (λ i. q ≡ slice_index_or (slice_set ps k p') i q) (add-one k) c.index_mut-in-loop.ensures.value) in
    record {
      same = subst (λ i. joined (slice_set (slice_set ps k p') i q') ≡ joined ps) (sym (add-one k))
          (passed_on ps k p p' q q' c.in-Some.one e c.in-Some.ensures f c.in_ok-put_first.ensures) ∙ c.loop.invariant.same;
      count = length-set (slice_set ps k p') (k + 1) q' ∙ m ∙ n;
    }
