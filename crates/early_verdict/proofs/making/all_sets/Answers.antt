use Rattle.std.proofs.Common.{rules, ◌≡◌, ◌∙◌, ◌+◌, ◌<◌, ◌++◌, ◌∷◌, [], refl, sym, subst, ap, ℕ, pos, List, length, take, arith}
use Rattle.std.proofs.lemmas.List.{length-append}
use Rattle.std.proofs.lemmas.Option.{slice_get_read}
use Rattle.std.specs.Prelude.{slice_get, Some}
use Rattle.rational.specs.Rational.{whole}
use Rattle.stl_syntax.specs.declared.node.Node.{Node}
use Rattle.early_verdict.specs.Standing.{top_at}
use Rattle.early_verdict.specs.Making.{IsMade}
use Rattle.early_verdict.specs.declared.sets.Sets.{Sets}
use Rattle.early_verdict.proofs.MadeLemmas.{all_made, one_more, top_of}
use Rattle.early_verdict.proofs.making.all_sets.Goals as goal

pub loop-i-preserved : goal.loop-i-preserved
loop-i-preserved c =
    let nodes = c.args.formula.now.nodes in
    let from = whole (pos c.args.start) in
    let tops = c.in_ok-tops.tops.items in
    let all = c.loop-i.all.items in
    let more = c.make_at-sets.result in
    let count : length all ≡ c.loop-i.i = c.loop-i.invariant.count in
    let known : length tops ≡ length nodes = c.in_ok-tops.ensures.count in
    let below : c.loop-i.i < length tops = omega arith in
    let read : slice_get tops c.loop-i.i ≡ Some c.index.result.now =
    slice_get_read tops (length tops) c.loop-i.i c.index.result.now refl below c.index.ensures in
    let top = top_of tops c.loop-i.i c.index.result.now read in
    let last : (n : Node) → slice_get nodes (length all) ≡ Some n → IsMade from (top_at tops (length all)) n all more = λ n e.
    subst (λ k. IsMade from (top_at tops k) n all more) (sym count)
    (subst (λ t. IsMade from t n all more) top
    (subst (λ xs. IsMade from c.index.result.now n xs more) c.deref.ensures.value
    (c.make_at-sets.ensures n (subst (λ k. slice_get nodes k ≡ Some n) count e)))) in
    let pushed : c.add_sets.new.all.items ≡ all ++ more ∷ [] = c.in_ok-add_sets.ensures in
    record {
      count = subst (λ xs. length xs ≡ c.loop-i.i + 1) (sym pushed) (length-append all (more ∷ []) ∙ ap (λ k. k + 1) count);
      made = subst (λ (xs : List Sets). (j : ℕ) (n : Node) (s : Sets) → slice_get nodes j ≡ Some n → slice_get xs j ≡ Some s
          → IsMade from (top_at tops j) n (take j xs) s) (sym pushed) (one_more nodes from tops all more c.loop-i.invariant.made last);
    }

pub returns : goal.returns
returns c =
    let nodes = c.args.formula.now.nodes in
    let count : length c.loop-i.all.items ≡ length nodes = search rules in
    all_made nodes (whole (pos c.args.start)) c.in_ok-tops.tops.items c.loop-i.all.items c.loop-i.invariant.made count c.in_ok-tops.ensures
