use Rattle.std.proofs.Common.{rules, ◌≡◌, ◌+◌, ◌-◌, ◌*◌, ◌++◌, ◌∷◌, [], length, subst, sym, ap, ◌∙◌, arith}
use Rattle.std.proofs.lemmas.List.{length-map}
use Rattle.frac128.specs.Value.{value}
use Rattle.stl_syntax.specs.Cells.{AreCuts}
use Rattle.implicants.specs.Cuts.{times_of, AreCutsFrom}
use Rattle.implicants.proofs.HandedDown.{AreCutsTo, cuts_begin, some_cut, cuts_on, passed, cuts_end, IsNextCount}
use Rattle.implicants.proofs.cuts.all_cuts.Goals as goal

pub loop-depth-init : goal.loop-depth-init
loop-depth-init c = cuts_begin c.args.formula.now.nodes c.args.trace.now c.new-done.result.items c.new-done.ensures.items

pub cuts_of-requires-clause-done : goal.cuts_of-requires-clause-done
cuts_of-requires-clause-done c =
    let nodes = c.args.formula.now.nodes in
    let count = c.len-len.ensures.count in
    let place : length nodes - c.loop-depth.depth ≡ c.len-len.result - 1 - c.loop-depth.depth + 1 =
    (let l = c.loop-depth-test.true in omega (arith, l, count)) in
    subst (AreCutsFrom nodes c.args.trace.now (c.len-len.result - 1 - c.loop-depth.depth + 1)) (sym c.deref.ensures.value)
    (subst (λ n. AreCutsFrom nodes c.args.trace.now n c.loop-depth.done.items) place c.loop-depth.invariant.cuts)

pub overflow_sub-count : goal.overflow_sub-count
overflow_sub-count c =
    let nodes = c.args.formula.now.nodes in
    let count = c.len-len.ensures.count in
    let l = some_cut nodes c.args.trace.now (c.len-len.result - 1 - c.loop-depth.depth) (times_of c.in-Ok.times.items)
    (let t = c.loop-depth-test.true in omega (arith, t, count)) c.in-Ok.ensures in
    let e : c.len.result ≡ length c.in-Ok.times.items = (let k = c.in-Ok.times.ok in c.len.ensures ∙ k.0) in
    let m = length-map c.in-Ok.times.items value in
    omega (arith, l, e, m)

pub returns-then-count-gt-MOST_CELLS : goal.returns-then-count-gt-MOST_CELLS
returns-then-count-gt-MOST_CELLS c =
    let nodes = c.args.formula.now.nodes in
    let tr = c.args.trace.now in
    let depth = c.loop-depth.depth in
    let v = c.in-Ok.times in
    let count = c.len-len.ensures.count in
    let many : c.len.result ≡ length v.items = (let k = c.in-Ok.times.ok in c.len.ensures ∙ k.0) in
    let next : IsNextCount nodes tr c.loop-depth.depth c.loop-depth.count c.loop-depth.done.items c.in-Ok.times
    (c.loop-depth.count + (2 * c.len.result - 1)) = (record {
      inside = (let t = c.loop-depth-test.true in omega (arith, t, count));
      before = c.loop-depth.invariant;
      cuts = subst (λ n. AreCuts nodes tr (n - 1 - depth) (times_of v.items)) count c.in-Ok.ensures;
      is = ap (λ n. c.loop-depth.count + (2 * n - 1)) many;
    }) in
    passed nodes tr c.loop-depth.depth c.loop-depth.count c.loop-depth.done.items c.in-Ok.times (c.loop-depth.count + (2 * c.len.result - 1)) next
    c.if-count-gt-MOST_CELLS.true

pub loop-depth-preserved : goal.loop-depth-preserved
loop-depth-preserved c =
    let nodes = c.args.formula.now.nodes in
    let tr = c.args.trace.now in
    let depth = c.loop-depth.depth in
    let v = c.in-Ok.times in
    let count = c.len-len.ensures.count in
    let sum = c.loop-depth.count + (2 * c.len.result - 1) in
    let many : c.len.result ≡ length v.items = (let k = c.in-Ok.times.ok in c.len.ensures ∙ k.0) in
    let next : IsNextCount nodes tr c.loop-depth.depth c.loop-depth.count c.loop-depth.done.items c.in-Ok.times
    (c.loop-depth.count + (2 * c.len.result - 1)) = (record {
      inside = (let t = c.loop-depth-test.true in omega (arith, t, count));
      before = c.loop-depth.invariant;
      cuts = subst (λ n. AreCuts nodes tr (n - 1 - depth) (times_of v.items)) count c.in-Ok.ensures;
      is = ap (λ n. c.loop-depth.count + (2 * n - 1)) many;
    }) in
    let pushed : c.push.new.self.items ≡ c.loop-depth.done.items ++ c.in-Ok.times ∷ [] = search rules in
    subst (λ done. AreCutsTo nodes tr (depth + 1) done sum) (sym pushed)
    (cuts_on nodes tr c.loop-depth.depth c.loop-depth.count c.loop-depth.done.items c.in-Ok.times (c.loop-depth.count + (2 * c.len.result - 1)) next
    (let f = c.if-count-gt-MOST_CELLS.false in omega (arith, f)))

pub returns : goal.returns
returns c =
    cuts_end c.args.formula.now.nodes c.args.trace.now c.loop-depth.depth c.loop-depth.count c.loop-depth.done.items
    (let f = c.loop-depth-test.false in let count = c.len-len.ensures.count in omega (arith, f, count)) c.loop-depth.invariant
