use Rattle.std.proofs.Common.{◌≡◌, ◌∙◌, ap, List, [], ◌∷◌, refl, drop, arith}
use Rattle.std.specs.Prelude.{remove}
use Rattle.growing_sets.specs.declared.stretch.Stretch.{Stretch}
use Rattle.growing_sets.proofs.BlockLemmas.{spot_remove}
use Rattle.growing_sets.proofs.stretches.take_front.Goals as goal

-- what is left without the first one
first_out : (xs : List Stretch) → drop 1 xs ≡ remove xs 0
first_out [] = refl
first_out (x ∷ xs) = refl

pub returns : goal.returns
returns c =
    let is = c.spot_of-here.ensures.spot in
    let r = c.index_mut.result.now in
    let first : 0 ≡ c.spot_of-here.result.index = let b = is.before in omega (arith, b) in
    spot_remove is r c.index_mut.ensures.value c.drop_first.new.self
    (c.drop_first.ensures ∙ first_out r.ring.items ∙ ap (λ n. remove r.ring.items n) first)
