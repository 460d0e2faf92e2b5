use Rattle.std.proofs.Common.{◌≡◌, ◌∙◌, ◌+◌, ◌++◌, ◌∷◌, [], refl, sym, subst, ap, ℕ, List, None, Some, length, arith}
use Rattle.std.proofs.lemmas.List.{length-append}
use Rattle.std.proofs.lemmas.Option.{slice_get_read}
use Rattle.std.specs.Prelude.{slice_get}
use Rattle.early_verdict.specs.declared.sets.Sets.{Sets}
use Rattle.early_verdict.proofs.MadeLemmas.{IsEmptyIn, shown_more}
use Rattle.early_verdict.proofs.making.shown_of.Goals as goal

nothing_at : (xs : List Sets) (i : ℕ) (x : Sets) → xs ≡ [] → slice_get xs i ≡ Some x → ⊥
nothing_at [] i x e f = let g : None ≡ Some x = f in cc
nothing_at (y ∷ xs) i x e f = let g : y ∷ xs ≡ [] = e in cc

pub loop-own-init : goal.loop-own-init
loop-own-init c = record {
  count = ap (λ (xs : List Sets). length xs) c.new-all.ensures.items;
  has = λ i s x e f. absurd (nothing_at c.new-all.result.items i x c.new-all.ensures.items f);
}

pub loop-own-preserved : goal.loop-own-preserved
loop-own-preserved c =
    let all = c.loop-own.all.items in
    let more = c.new.result in
    let own = c.own-item.result in
    let pushed : c.add_sets.new.all.items ≡ all ++ more ∷ [] = c.in_ok-add_sets.ensures in
    let read = slice_get_read c.args.live.now (length c.args.live.now) c.loop-own.own-index own refl c.loop-own-test.true c.own-item.is in
    record {
      count = subst (λ xs. length xs ≡ c.loop-own.own-index + 1) (sym pushed) (length-append all (more ∷ []) ∙ ap (λ k. k + 1) c.loop-own.invariant.count);
      has = subst (λ (xs : List Sets). (i : ℕ) (s x : Sets) → slice_get c.args.live.now i ≡ Some s → slice_get xs i ≡ Some x
          → IsEmptyIn s x) (sym pushed)
          (shown_more c.args.live.now all more read c.loop-own.invariant.count c.loop-own.invariant.has
          (c.new.ensures.yes ∙ c.bounds.ensures, c.new.ensures.no ∙ c.bounds.ensures, c.new.ensures.empty));
    }

pub returns : goal.returns
returns c = record {
  count = omega (arith, c.loop-own-test.false, c.loop-own.auto.own-index-end, c.loop-own.invariant.count);
  has = c.loop-own.invariant.has;
}
