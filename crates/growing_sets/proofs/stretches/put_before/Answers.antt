use Rattle.std.proofs.Common.{◌∙◌, sym, ap, subst, length, ◌<◌, arith}
use Rattle.std.specs.Prelude.{insert}
use Rattle.growing_sets.proofs.BlockLemmas.{here, spot_insert}
use Rattle.growing_sets.proofs.WindowLemmas.{on_good}
use Rattle.growing_sets.proofs.stretches.put_before.Goals as goal

pub spot_of-here-requires : goal.spot_of-here-requires
spot_of-here-requires c = subst (λ xs. c.args.at < length xs) (sym c.in_ok-bring.ensures) c.requires

pub insert-requires : goal.insert-requires
insert-requires c = let h = here c.spot_of-here.ensures.spot c.index_mut.result.now c.index_mut.ensures.value in omega arith

pub returns : goal.returns
returns c =
    on_good c.insert.result c.insert.ensures (λ e.
    spot_insert c.spot_of-here.ensures.spot c.index_mut.result.now c.index_mut.ensures.value c.insert.new.self c.args.stretch e
    ∙ ap (λ xs. insert xs c.args.at c.args.stretch) c.in_ok-bring.ensures)
