use Rattle.std.proofs.Common.{rules, ◌≡◌, ◌≤◌, ◌-◌, ◌+◌, ◌++◌, ◌∙◌, ap, sym, subst, ℕ, List, length, take, drop, arith}
use Rattle.std.proofs.lemmas.List.{length-replicate}
use Rattle.early_verdict.specs.Standing.{AsksBelow, top_at}
use Rattle.early_verdict.specs.Tops.{AreUpTo, rest_reach}
use Rattle.early_verdict.proofs.Places.{written}
use Rattle.std.proofs.lemmas.Option.{slice_get_within}
use Rattle.early_verdict.proofs.TopsLemmas.{raised, zeros_at}
use Rattle.early_verdict.proofs.tops.tops_of.Goals as goal

pub loop-i-init : goal.loop-i-init
loop-i-init c =
    let nodes = c.args.formula.now.nodes in
    let count = c.len-count.ensures.count in
    let e = c.in_ok-tops.ensures in
    let long : length c.in_ok-tops.tops.items ≡ length nodes = ap length e ∙ length-replicate c.len-count.result 0 ∙ count in
    record {
      within = omega (arith, count);
      count = long;
      asks = λ j n above at. let h = slice_get_within nodes j n at in absurd (omega (arith, h, above, count));
      most = λ j. subst (λ (xs : List ℕ). top_at xs j ≤ rest_reach nodes c.len-count.result) (sym e)
          (let z = zeros_at c.len-count.result j in omega (arith, z));
    }

pub loop-i-preserved : goal.loop-i-preserved
loop-i-preserved c =
    let nodes = c.args.formula.now.nodes in
    let old = c.deref_mut.result.now in
    let new = c.raise_at.new.tops in
    let k : ℕ = c.loop-i.i - 1 in
    let i : c.loop-i.i ≡ k + 1 = omega arith in
    let was : old ≡ c.loop-i.tops.items = c.deref_mut.ensures.value in
    let len : length new ≡ c.loop-i.tops.len = search rules in
    let kept : length new ≡ length c.loop-i.tops.items = search rules in
    let is : new ≡ take c.loop-i.tops.len (new ++ drop (length new) c.loop-i.tops.items) = written new c.loop-i.tops.items c.loop-i.tops.len len in
    let all = raised nodes k old new c.raise_at.ensures.asks c.raise_at.ensures.rises c.raise_at.ensures.others
    (λ j n below e. subst (λ (xs : List ℕ). AsksBelow (top_at xs) (top_at xs j) n) (sym was) (c.loop-i.invariant.asks j n (omega arith) e)) in
    record {
      within = omega arith;
      count = subst (λ (xs : List ℕ). length xs ≡ length nodes) is (omega arith);
      asks = λ j n below e. subst (λ (xs : List ℕ). AsksBelow (top_at xs) (top_at xs j) n) is (all j n below e);
      most = subst (λ (xs : List ℕ). AreUpTo (rest_reach nodes k) xs) is c.raise_at.ensures.most;
    }
