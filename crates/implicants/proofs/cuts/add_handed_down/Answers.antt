use Rattle.std.proofs.Common.{◌≡◌, ◌-◌, ◌+◌, length, ap, arith, sym, subst, ◌∙◌}
use Rattle.frac128.specs.Value.{value}
use Rattle.stl_syntax.specs.Cells.{shifts}
use Rattle.implicants.specs.Cuts.{times_of, cuts_at, Adds, IsMovedBy}
use Rattle.implicants.proofs.HandedDown.{IsHandedBefore, handed_none, handed_child, handed_other, handed_all, cuts_at_is}
use Rattle.implicants.proofs.cuts.add_handed_down.Goals as goal
use Rattle.implicants.proofs.cuts.add_handed_down.Goals.{then-is_child+in_ok-add_from, else-is_child}

pub loop-j-init : goal.loop-j-init
loop-j-init c =
    handed_none c.args.formula.now.nodes (value c.args.from.now) (value c.args.to.now) (cuts_at (length c.args.formula.now.nodes) c.args.done.now)
    c.args.i (times_of c.args.times.now.items)
    c.len-count.ensures.well_formed.nodes.post_order

pub loop-j-preserved : goal.loop-j-preserved
loop-j-preserved c =
    let nodes = c.args.formula.now.nodes in
    let from = value c.args.from.now in
    let to = value c.args.to.now in
    let cuts = cuts_at (length nodes) c.args.done.now in
    let old = times_of c.args.times.now.items in
    let n = c.node-node.result.now in
    elim c.if-is_child.branch [
      | then-is_child+in_ok-add_from w ↦
          let v = w.index-done-count.result in
          let count = c.len-count.ensures.count in
          let is : cuts c.loop-j.j ≡ times_of v.items =
          cuts_at_is (length nodes) c.args.done.now c.loop-j.j (c.len-count.result - 1 - c.loop-j.j) v (ap (λ k. k - 1 - c.loop-j.j) count)
          (let l = c.loop-j-test.true in let first = c.loop-j.auto.j in let all = c.requires.count in omega (arith, l, first, all, count))
          (sym w.index-done-count.is) in
          subst (λ ts. Adds (IsHandedBefore nodes from to cuts c.args.i (c.loop-j.j + 1)) old (times_of ts.items)) (sym w.times-is)
          (handed_child nodes from to cuts c.args.i c.loop-j.j n old (times_of c.loop-j.times.items) (times_of w.add_from.new.times.items)
          c.node-node.ensures.node (c.is_child.ensures.0 w.if-is_child.true) c.loop-j.invariant
          (subst (λ ts. Adds (IsMovedBy from to ts (shifts n)) (times_of c.loop-j.times.items) (times_of w.add_from.new.times.items))
          (ap times_of w.deref.ensures.value ∙ sym is) w.in_ok-add_from.ensures))
      | else-is_child w ↦
          subst (λ ts. Adds (IsHandedBefore nodes from to cuts c.args.i (c.loop-j.j + 1)) old (times_of ts.items)) (sym w.times-is)
          (handed_other nodes from to cuts c.args.i c.loop-j.j n old (times_of c.loop-j.times.items) c.node-node.ensures.node
          (λ child. let yes = c.is_child.ensures.1 child in let no = w.if-is_child.false in absurd (cc)) c.loop-j.invariant)
    ]

pub returns : goal.returns
returns c =
    handed_all c.args.formula.now.nodes (value c.args.from.now) (value c.args.to.now) (cuts_at (length c.args.formula.now.nodes) c.args.done.now)
    c.args.i c.loop-j.j
    (times_of c.args.times.now.items) (times_of c.loop-j.times.items)
    (let t = c.loop-j-test.false in let n = c.len-count.ensures.count in omega (arith, t, n)) c.loop-j.invariant

pub bounds-done-count : goal.bounds-done-count
bounds-done-count c =
    let l = c.loop-j-test.true in
    let first = c.loop-j.auto.j in
    let all = c.requires.count in
    let n = c.len-count.ensures.count in
    omega (arith, l, first, all, n)

pub node-node-requires : goal.node-node-requires
node-node-requires c = let l = c.loop-j-test.true in let n = c.len-count.ensures.count in omega (arith, l, n)
