use Rattle.std.proofs.Common.{◌≡◌, Some, ap, slice_get, sym, ◌∙◌, arith}
use Rattle.std.specs.Option.{option_copied}
use Rattle.node_edges.specs.Queues.{first_blocks, list_of, seen_list, waiting_list}
use Rattle.node_edges.proofs.FarSteps.{first_of_block, gone_below, item_copied}
use Rattle.node_edges.proofs.far.first_far.Goals as goal

pub returns : goal.returns
returns g c =
    let old = list_of c.args.pool.now.all (seen_list c.args.edge) in
    let waiting = list_of c.args.pool.now.all (waiting_list c.args.edge) in
    let b = c.in-Some.block.now in
    let far = c.args.far.now in
    let first : slice_get (first_blocks old waiting) 0 ≡ Some b = sym c.first_block.ensures ∙ ap option_copied c.in-Some.is in
    let read : option_copied c.get.result ≡ slice_get b.items far.gone =
    item_copied b.items far.gone c.get.result (λ below. c.get.ensures.variant.1 (omega (arith, below, b.ok.0))) c.get.ensures.lookup
    (gone_below old waiting b far c.requires.is first) in
    read ∙ first_of_block old waiting b far c.requires.is first
