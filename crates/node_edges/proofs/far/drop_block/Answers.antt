use Rattle.std.proofs.Common.{◌≡◌, ◌+◌, ◌-◌, ◌<◌, Some, ap, length, slice_get, sym, ◌∙◌, arith}
use Rattle.std.specs.Option.{option_copied}
use Rattle.rational.specs.Rational.{◌<ʳ◌}
use Rattle.frac128.specs.Value.{value}
use Rattle.rational.proofs.Lists.{empty_of_none}
use Rattle.node_edges.specs.Queues.{first_blocks, list_of, seen_list, waiting_list}
use Rattle.std.proofs.lemmas.Bool.{eqb-false}
use Rattle.node_edges.proofs.FarLemmas.{less_of_not}
use Rattle.node_edges.proofs.FarSteps.{block_gone, block_rest, fits_first, gone_below, some_first}
use Rattle.node_edges.proofs.far.drop_block.Given.{Over}
use Rattle.node_edges.proofs.far.drop_block.Goals as goal
use Rattle.node_edges.proofs.far.drop_block.Goals.{In-Some}

-- the first block
first_is : (g : Over) (c : In-Some g)
    → slice_get (first_blocks (list_of c.args.pool.now.all (seen_list c.args.edge)) (list_of c.args.pool.now.all (waiting_list c.args.edge))) 0
    ≡ Some c.in-Some.block.now
first_is g c = sym c.first_block.ensures ∙ ap option_copied c.in-Some.is

below : (g : Over) (c : In-Some g) → c.args.far.now.gone < length c.in-Some.block.now.items
below g c = gone_below _ _ c.in-Some.block.now c.args.far.now c.requires.far.is (first_is g c)

pub unreachable-requires : goal.unreachable-requires
unreachable-requires g c =
    let old = list_of c.args.pool.now.all (seen_list c.args.edge) in
    let waiting = list_of c.args.pool.now.all (waiting_list c.args.edge) in
    let there = some_first old waiting c.args.far.now c.requires.far.is c.requires.some in
    absurd (omega (arith, there, ap length (empty_of_none (first_blocks old waiting) (sym c.first_block.ensures ∙ ap option_copied c.in_default.is))))

pub gone_by-gone-requires : goal.gone_by-gone-requires
gone_by-gone-requires g c = let within = below g ((goal.at.gone_by-gone-requires g c).In-Some) in omega (arith, within)

pub skip-requires-clause-fits : goal.skip-requires-clause-fits
skip-requires-clause-fits g c =
    let here = (goal.at.skip-requires-clause-fits g c).In-Some in
    fits_first _ c.in-Some.block.now (c.args.far.now.gone + (c.gone_by-gone.result - c.args.far.now.gone)) (first_is g here)
    (omega (arith, c.gone_by-gone.ensures.from, c.gone_by-gone.ensures.within))

pub returns-clause-gone : goal.returns-clause-gone
returns-clause-gone g c =
    let here = (goal.at.returns-clause-gone g c).In-Some in
    block_gone _ _ c.in-Some.block.now c.args.far.now c.requires.far.is (first_is g here) c.gone_by-gone.result c.gone_by-gone.ensures.from _
    c.skip.ensures.gone (value c.args.end.now) c.gone_by-gone.ensures.within c.gone_by-gone.ensures.ended

pub returns-clause-rest : goal.returns-clause-rest
returns-clause-rest g c part =
    let here = (goal.at.returns-clause-rest g c).In-Some in
    block_rest _ _ c.in-Some.block.now c.args.far.now c.requires.far.is (first_is g here) c.gone_by-gone.result c.gone_by-gone.ensures.from _
    c.skip.ensures.gone (λ v. value c.args.end.now <ʳ g.T.Part.end v)
    (less_of_not c.gone_by-gone.result (length c.in-Some.block.now.items) c.gone_by-gone.ensures.within
    (λ e. eqb-false c.gone_by-gone.result c.len.result part (e ∙ sym (c.len.ensures ∙ c.in-Some.block.now.ok.0)))) c.gone_by-gone.ensures.rest
