use Rattle.std.proofs.Common.{rules, ◌≡◌, ◌+◌, ◌-◌, sym, subst, length, to_z, of_z, arith}
use Rattle.std.specs.Int.{w64}
use Rattle.std.proofs.lemmas.Int.{to_z-of_z}
use Rattle.atom_lines.specs.Growing.{IsReachAt, HasGrown}
use Rattle.atom_lines.proofs.signal.signal_of.Goals as goal

pub loop-r-init : goal.loop-r-init
loop-r-init g c =
    let same : to_z w64 (of_z w64 c.first_sum-from.result) ≡ c.first_sum-from.result = search (rules, to_z-of_z) in
    record {
      sum = subst (IsReachAt c.args.bound.now c.args.node c.args.trace.now 0) (sym same) c.first_sum-from.ensures;
      grown = c.in_ok-signal.ensures;
    }

pub advance-requires-clause-from : goal.advance-requires-clause-from
advance-requires-clause-from g c = c.loop-r.invariant.sum

pub advance-requires-clause-grown : goal.advance-requires-clause-grown
advance-requires-clause-grown g c = c.loop-r.invariant.grown

pub loop-r-preserved : goal.loop-r-preserved
loop-r-preserved g c =
    let e : c.loop-r.r + 1 - 1 ≡ c.loop-r.r = omega arith in
    let same : to_z w64 (of_z w64 c.in_ok-from.from) ≡ c.in_ok-from.from = search (rules, to_z-of_z) in
    record {
      sum = subst (λ m. IsReachAt c.args.bound.now c.args.node c.args.trace.now m (to_z w64 (of_z w64 c.in_ok-from.from))) (sym e)
          (subst (IsReachAt c.args.bound.now c.args.node c.args.trace.now c.loop-r.r) (sym same) c.in_ok-from.ensures.next);
      grown = subst (λ m. HasGrown g.P.Shape g.P.Piecewise.read_as c.args.bound.now c.args.node c.args.trace.now m c.advance.new.signal)
          (sym e) c.in_ok-from.ensures.grown;
    }

pub finished-requires-clause-from : goal.finished-requires-clause-from
finished-requires-clause-from g c =
    let e : c.loop-r.r - 1 ≡ length c.args.trace.now.rows - 1 =
    (let a = c.rows-r-end.ensures.count in let b = c.loop-r-test.false in let d = c.loop-r.auto.r-end in
    let f = c.loop-r.auto.r in let h = c.requires.some in omega arith) in
    subst (λ m. IsReachAt c.args.bound.now c.args.node c.args.trace.now m (to_z w64 c.loop-r.from-bits)) e c.loop-r.invariant.sum

pub finished-requires-clause-grown : goal.finished-requires-clause-grown
finished-requires-clause-grown g c =
    let e : c.loop-r.r - 1 ≡ length c.args.trace.now.rows - 1 =
    (let a = c.rows-r-end.ensures.count in let b = c.loop-r-test.false in let d = c.loop-r.auto.r-end in
    let f = c.loop-r.auto.r in let h = c.requires.some in omega arith) in
    subst (λ m. HasGrown g.P.Shape g.P.Piecewise.read_as c.args.bound.now c.args.node c.args.trace.now m c.loop-r.signal) e c.loop-r.invariant.grown
