use Rattle.std.proofs.Common.{◌++◌, ◌+◌, codes, sym, ap, ◌∙◌, arith}
use Rattle.session_mux.proofs.NearLemmas.{loaded_front}
use Rattle.session_mux.proofs.tag.Tag.loaded.Goals as goal

pub invariant_of-result : goal.invariant_of-result
invariant_of-result c =
    let t = c.self.inside in
    let few = c.self.invariant.0 in
    let front = loaded_front t.bytes c.bytes_at.result c.bytes_at.ensures t.len (omega (arith, few)) (omega arith) in
    let all = loaded_front t.bytes c.bytes_at.result c.bytes_at.ensures (t.len + 1) (omega (arith, few)) (omega arith) in
    (few, all ∙ c.self.invariant.1 ∙ ap (λ w. w ++ codes " ") (sym front))

pub returns : goal.returns
returns c =
    let t = c.self.inside in
    let few = c.self.invariant.0 in
    loaded_front t.bytes c.bytes_at.result c.bytes_at.ensures t.len (omega (arith, few)) (omega arith) ∙ c.self.view_is
