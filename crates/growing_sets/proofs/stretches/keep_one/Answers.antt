use Rattle.std.proofs.Common.{◌≡◌, suc, sym, subst, ap, ◌∙◌, refl, length, take, add-one}
use Rattle.std.specs.Prelude.{Some, slice_get, slice_set, slice_index_or}
use Rattle.std.proofs.lemmas.Option.{slice_get_read}
use Rattle.growing_sets.specs.Listed.{joined}
use Rattle.growing_sets.proofs.BlockLemmas.{kept_one, taken_block}
use Rattle.growing_sets.proofs.stretches.keep_one.Goals as goal

pub returns : goal.returns
returns c =
    let ps = c.args.blocks.now.items in
    let is = c.spot_of-here.ensures.spot in
    let k = c.spot_of-here.result.block in
    let r = c.index_mut.result.now in
    let q = c.keep_one.new.self in
    let t : c.truncate.new.self.items ≡ take (suc k) ps = c.truncate.ensures.items ∙ ap (λ n. take n ps) (add-one k) in
    let f : slice_get (take (suc k) ps) k ≡ Some r = slice_get_read (take (suc k) ps) (length (take (suc k) ps)) k r refl (taken_block ps k is.held is.there)
    (subst (λ xs. r ≡ slice_index_or xs k r) t c.index_mut.ensures.value) in
    subst (λ xs. joined (slice_set xs k q) ≡ take 1 (joined ps)) (sym t)
    (kept_one ps k c.spot_of-here.result.index is.held r q is.there is.within (sym is.before) f c.keep_one.ensures)
