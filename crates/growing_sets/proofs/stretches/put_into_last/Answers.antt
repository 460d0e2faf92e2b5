use Rattle.std.proofs.Common.{rules, ◌≡◌, ◌-◌, length, refl, arith}
use Rattle.std.specs.Prelude.{Some, slice_get}
use Rattle.std.proofs.lemmas.Option.{slice_get_read}
use Rattle.growing_sets.proofs.BlockLemmas.{joined_last}
use Rattle.growing_sets.proofs.WindowLemmas.{on_good}
use Rattle.growing_sets.proofs.stretches.put_into_last.Goals as goal

pub returns : goal.returns
returns c =
    let ps = c.args.blocks.now.items in
    let last = c.len-last.result - 1 in
    let n : c.len-last.result ≡ length ps = search rules in
    let p = c.index_mut.result.now in
    let there : slice_get ps last ≡ Some p = slice_get_read ps (length ps) last p refl (omega (arith, c.requires, n)) c.index_mut.ensures.value in
    on_good c.put_last.result c.put_last.ensures (λ e.
    joined_last ps last p c.put_last.new.self c.args.stretch there (omega (arith, c.requires, n)) e)
