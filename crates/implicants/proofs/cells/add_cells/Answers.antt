use Rattle.std.proofs.Common.{◌++◌, ◌∷◌, [], sym, ap, subst, ◌∙◌, arith}
use Rattle.std.proofs.lemmas.List.{take_all}
use Rattle.frac128.specs.Value.{value}
use Rattle.stl_syntax.specs.Cells.{cells}
use Rattle.stl_syntax.specs.Kept.{ItemsOn}
use Rattle.implicants.specs.Cuts.{times_of}
use Rattle.implicants.proofs.HandedDown.{rise_of}
use Rattle.implicants.proofs.NodeCells.{listed_first, listed_on, step_of, step_up_to, step_within}
use Rattle.implicants.proofs.cells.add_cells.Goals as goal

pub loop-k-init : goal.loop-k-init
loop-k-init c =
    let p = c.in_ok-push_item.ensures in
    listed_first c.args.formula.now.nodes c.args.trace.now c.args.node c.args.signal.now c.requires.values c.requires.told c.args.times.now
    c.args.items.now.items
    c.index-times-0.result c.knot.result p.0 c.push_item.new.items.items c.requires.inside
    (rise_of c.args.trace.now (c.rows.ensures.trace (let n = c.rows.ensures.count in let s = c.requires.some in omega (arith, n, s))))
    c.requires.cuts c.index-times-0.is c.knot.ensures p.1
    (record { node = p.2; on_is = p.3 ∙ c.instant.ensures; holds = p.4 ∙ c.holds.ensures })

pub gap_between-requires : goal.gap_between-requires
gap_between-requires c =
    (step_of c.args.formula.now.nodes c.args.trace.now c.args.node c.args.signal.now c.requires.values c.requires.told c.args.times.now
    c.args.items.now.items c.loop-k.k c.loop-k.place c.loop-k.items.items
    c.index-times-k.result c.index-times-k-in-loop-k.result c.len.ensures.well_formed.nodes.post_order c.requires.inside
    (rise_of c.args.trace.now (c.rows.ensures.trace (let n = c.rows.ensures.count in let s = c.requires.some in omega (arith, n, s))))
    c.requires.cuts c.loop-k.invariant
    (record { more = c.loop-k-test.true; first_is = sym c.index-times-k.is; second_is = sym c.index-times-k-in-loop-k.is })).rises

pub place_at-place-requires-clause-up_to : goal.place_at-place-requires-clause-up_to
place_at-place-requires-clause-up_to c =
    let step = step_of c.args.formula.now.nodes c.args.trace.now c.args.node c.args.signal.now c.requires.values c.requires.told c.args.times.now
    c.args.items.now.items c.loop-k.k c.loop-k.place
    c.loop-k.items.items c.index-times-k.result c.index-times-k-in-loop-k.result c.len.ensures.well_formed.nodes.post_order c.requires.inside
    (rise_of c.args.trace.now (c.rows.ensures.trace (let n = c.rows.ensures.count in let s = c.requires.some in omega (arith, n, s))))
    c.requires.cuts c.loop-k.invariant
    (record { more = c.loop-k-test.true; first_is = sym c.index-times-k.is; second_is = sym c.index-times-k-in-loop-k.is }) in
    step_up_to c.args.formula.now.nodes c.args.trace.now c.args.node c.args.signal.now c.requires.values c.requires.told c.loop-k.place
    (value c.index-times-k.result) (value c.index-times-k-in-loop-k.result) step

pub truth_at-here-requires-clause-within : goal.truth_at-here-requires-clause-within
truth_at-here-requires-clause-within c =
    let step = step_of c.args.formula.now.nodes c.args.trace.now c.args.node c.args.signal.now c.requires.values c.requires.told c.args.times.now
    c.args.items.now.items c.loop-k.k c.loop-k.place
    c.loop-k.items.items c.index-times-k.result c.index-times-k-in-loop-k.result c.len.ensures.well_formed.nodes.post_order c.requires.inside
    (rise_of c.args.trace.now (c.rows.ensures.trace (let n = c.rows.ensures.count in let s = c.requires.some in omega (arith, n, s))))
    c.requires.cuts c.loop-k.invariant
    (record { more = c.loop-k-test.true; first_is = sym c.index-times-k.is; second_is = sym c.index-times-k-in-loop-k.is }) in
    step_within c.args.formula.now.nodes c.args.trace.now c.args.node c.args.signal.now c.requires.values c.requires.told c.loop-k.place
    (value c.index-times-k.result) (value c.index-times-k-in-loop-k.result) step

pub loop-k-preserved : goal.loop-k-preserved
loop-k-preserved c =
    let step = step_of c.args.formula.now.nodes c.args.trace.now c.args.node c.args.signal.now c.requires.values c.requires.told c.args.times.now
    c.args.items.now.items c.loop-k.k c.loop-k.place
    c.loop-k.items.items c.index-times-k.result c.index-times-k-in-loop-k.result c.len.ensures.well_formed.nodes.post_order c.requires.inside
    (rise_of c.args.trace.now (c.rows.ensures.trace (let n = c.rows.ensures.count in let s = c.requires.some in omega (arith, n, s))))
    c.requires.cuts c.loop-k.invariant
    (record { more = c.loop-k-test.true; first_is = sym c.index-times-k.is; second_is = sym c.index-times-k-in-loop-k.is }) in
    let p = c.in_ok-push_item-2.ensures in
    let q = c.in_ok-push_item-3.ensures in
    let here = c.truth_at-here.ensures in
    listed_on c.args.formula.now.nodes c.args.trace.now c.args.node c.args.signal.now c.requires.values c.requires.told c.args.times.now c.args.items.now.items
    c.loop-k.k c.loop-k.place c.place_at-place.result c.loop-k.items.items c.push_item-in-loop-k-2.new.items.items c.index-times-k.result
    c.index-times-k-in-loop-k.result
    (record { more = c.loop-k-test.true; first_is = sym c.index-times-k.is; second_is = sym c.index-times-k-in-loop-k.is })
    step c.loop-k.invariant (record {
      knot = c.knot-in-loop-k.result;
      shape = here.0;
      between = p.0;
      point = q.0;
      at = c.knot-in-loop-k.ensures;
      inside = c.place_at-place.ensures.inside;
      place_of = c.place_at-place.ensures.place;
      gap_is = record { node = p.2; on_is = p.3 ∙ c.gap_between.ensures; holds = p.4 ∙ c.holds-after.ensures };
      worth = here.2;
      point_is = record { node = q.2; on_is = q.3 ∙ c.instant-in-loop-k.ensures; holds = q.4 ∙ sym here.1 };
      grew = q.1 ∙ ap (λ xs. xs ++ q.0 ∷ []) p.1;
    })

pub bounds-times-0 : goal.bounds-times-0
bounds-times-0 c = c.requires.many

pub bounds-times-k : goal.bounds-times-k
bounds-times-k c = let t = c.loop-k-test.true in omega (arith, t)

pub bounds-times-k-in-loop-k : goal.bounds-times-k-in-loop-k
bounds-times-k-in-loop-k c = c.loop-k-test.true

pub knot-requires-in-loop-k : goal.knot-requires-in-loop-k
knot-requires-in-loop-k c = c.loop-k.invariant.inside

pub place_at-place-requires-clause-inside : goal.place_at-place-requires-clause-inside
place_at-place-requires-clause-inside c = c.loop-k.invariant.inside

pub truth_at-here-requires-clause-inside : goal.truth_at-here-requires-clause-inside
truth_at-here-requires-clause-inside c = c.place_at-place.ensures.inside

pub truth_at-here-requires-clause-place : goal.truth_at-here-requires-clause-place
truth_at-here-requires-clause-place c = c.place_at-place.ensures.place

pub returns : goal.returns
returns c =
    let listed = c.loop-k.invariant in (
      listed.here,
      listed.all,
      subst (λ ts. ItemsOn c.args.formula.now.nodes c.args.trace.now c.args.node (cells (times_of ts)) listed.here)
          (take_all c.loop-k.k c.args.times.now c.loop-k-test.false) listed.cells_are,
    )
