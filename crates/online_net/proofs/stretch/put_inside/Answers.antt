use Rattle.std.proofs.Common.{◌≡◌, ◌+◌, ◌<◌, ◌≤◌, sym, subst, ◌∙◌, arith}
use Rattle.online_net.specs.Stretches.{HasPutRows}
use Rattle.online_net.proofs.EdgeRows.{each_more, rows_count, stays_between}
use Rattle.online_net.proofs.stretch.put_inside.Goals as goal

pub loop-r-init : goal.loop-r-init
loop-r-init c = λ b first e can. can.put

pub put_steady-requires-clause-edge : goal.put_steady-requires-clause-edge
put_steady-requires-clause-edge c =
    let (b, first, e, can) = c.requires.before in
    subst (λ n. c.args.node < n) (rows_count b c.args.block.now c.args.node can.put
    ∙ sym (rows_count b c.args.block.now c.args.node (c.loop-r.invariant b first e can))) c.requires.edge

pub put_steady-requires-clause-within : goal.put_steady-requires-clause-within
put_steady-requires-clause-within c = let t = c.loop-r-test.true in let w = c.requires.within in omega (arith, t, w)

pub loop-r-preserved : goal.loop-r-preserved
loop-r-preserved c = λ b first e can.
    let block = c.args.block.now in
    let r = c.loop-r.r in
    let t = c.loop-r-test.true in
    let w = c.requires.within in
    let from : c.args.from ≤ r = c.loop-r.auto.r in
    let o = can.order in
    each_more b block c.args.node first r (omega (arith, o, from)) (omega (arith, t, w)) (c.loop-r.invariant b first e can)
    (c.in_ok-put_steady.ensures b
    (stays_between b c.args.node block c.requires.trace c.args.from c.args.to r (r + 1) c.args.holds from (omega arith) (omega (arith, t)) w can.stays))

pub returns : goal.returns
returns c = λ b first e can.
    let end : c.loop-r.r ≡ c.args.to =
    (let t = c.loop-r-test.false in let o = c.requires.order in let m = c.loop-r.auto.r-end (omega (arith, o)) in omega (arith, t, m)) in
    subst (λ n. HasPutRows b c.args.block.now first n c.args.node e c.loop-r.edges) end (c.loop-r.invariant b first e can)
