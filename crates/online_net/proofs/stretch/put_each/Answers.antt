use Rattle.std.proofs.Common.{◌≡◌, ◌<◌, refl, sym, subst, arith}
use Rattle.rational.proofs.Order.{same_refl}
use Rattle.stl_syntax.specs.Trace.{row_time}
use Rattle.atom_lines.specs.Growing.{IsReachAt}
use Rattle.atom_lines.specs.Rows.{row_of}
use Rattle.atom_lines.proofs.WayLemmas.{sum_read}
use Rattle.online_net.specs.Stretches.{HasPutRows}
use Rattle.online_net.proofs.EdgeRows.{none_put, rows_count}
use Rattle.online_net.proofs.stretch.put_each.Goals as goal

pub loop-here-init : goal.loop-here-init
loop-here-init c =
    let b = c.args.bound.now in
    let block = c.args.block.now in
    let reaches = c.standing-sum.ensures.sum in
    let o = c.requires.order in (
      record {
        order = omega arith;
        put = none_put b block c.args.node c.args.edges.now c.args.from c.args.from refl;
        sum = subst (IsReachAt b c.args.node block c.args.from)
            (sym (sum_read b c.args.node block c.args.from c.standing-sum.result.0 c.requires.atom reaches)) reaches;
        holds = λ a tr for has. c.standing-sum.ensures.holds a tr (row_time (row_of block c.args.from)) for has (same_refl (row_time (row_of block c.args.from)));
      },
      omega (arith, o),
    )

pub put_way-requires-clause-edge : goal.put_way-requires-clause-edge
put_way-requires-clause-edge c =
    subst (λ n. c.args.node < n) (sym (rows_count c.args.bound.now c.args.block.now c.args.node c.loop-here.invariant.0.put)) c.requires.edge

pub put_way-requires-clause-trace : goal.put_way-requires-clause-trace
put_way-requires-clause-trace c =
    let w = c.requires.within in
    let n = c.rows-rows.ensures.count in
    c.rows-rows.ensures.trace (omega (arith, w, n))

pub put_way-requires-clause-come : goal.put_way-requires-clause-come
put_way-requires-clause-come c = (c.args.from, c.args.edges.now, c.loop-here.invariant.0)

pub loop-here-preserved : goal.loop-here-preserved
loop-here-preserved c = (c.in_ok-here.ensures.come c.args.from c.args.edges.now c.loop-here.invariant.0, c.in_ok-here.ensures.within)

pub loop-here-smaller : goal.loop-here-smaller
loop-here-smaller c = let on = c.in_ok-here.ensures.on in omega (arith, on, c.loop-here-test.true)

pub returns : goal.returns
returns c =
    let m = c.loop-here.invariant.1 in
    let end : c.loop-here.here.at ≡ c.args.to = omega (arith, m, c.loop-here-test.false) in
    subst (λ n. HasPutRows c.args.bound.now c.args.block.now c.args.from n c.args.node c.args.edges.now c.loop-here.edges) end c.loop-here.invariant.0.put
