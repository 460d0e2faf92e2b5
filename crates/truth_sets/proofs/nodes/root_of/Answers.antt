use Rattle.std.proofs.Common.{◌≡◌, ◌++◌, ◌∷◌, [], length, subst, arith}
use Rattle.truth_sets.specs.Nodes.{AreReady}
use Rattle.truth_sets.proofs.ReadyLemmas.{root_told}
use Rattle.truth_sets.proofs.nodes.root_of.Goals as goal

pub returns : goal.returns
returns c = λ tr over r.
    let nodes = c.args.formula.now.nodes in
    let sets = c.loop-i.sets.items in
    let well = c.len-i-end.ensures.well_formed in
    let done : c.loop-i.i ≡ length nodes = let t = c.loop-i-test.false in let e = c.len-i-end.ensures.count in let m = c.loop-i.auto.i-end in omega arith in
    let last : sets ≡ c.pop.new.self.items ++ c.in-Some.root ∷ [] = rw c.in-Some.is at c.pop.ensures.items in
    root_told c.args.on.now tr nodes sets c.pop.new.self.items c.in-Some.root well.some well.root last
    (subst (λ k. AreReady c.args.on.now tr nodes k sets) done (c.loop-i.invariant.ready tr over r))
