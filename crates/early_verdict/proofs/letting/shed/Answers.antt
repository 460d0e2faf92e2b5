use Rattle.std.proofs.Common.{◌⊎◌, inl, inr, sym, subst}
use Rattle.growing_sets.specs.Spans.{IsOn, Lies}
use Rattle.early_verdict.proofs.LettingLemmas.{told_early}
use Rattle.early_verdict.proofs.letting.shed.Goals as goal

pub narrow_both-requires-clause-yes : goal.narrow_both-requires-clause-yes
narrow_both-requires-clause-yes c = λ t o. c.bounds_from.ensures.ends t (subst (λ b. Lies b t) (sym c.bounds-within.ensures) (c.requires.inside.yes t o))

pub narrow_both-requires-clause-no : goal.narrow_both-requires-clause-no
narrow_both-requires-clause-no c = λ t o. c.bounds_from.ensures.ends t (subst (λ b. Lies b t) (sym c.bounds-within.ensures) (c.requires.inside.no t o))

pub returns : goal.returns
returns c =
    let own = c.args.own.now in
    record {
      bounds = c.bounds_from.result;
      narrowed = c.narrow_both.ensures;
      less = λ t l. subst (λ b. Lies b t) c.bounds-within.ensures (c.bounds_from.ensures.within t l);
      told = λ t k l. let m = subst (λ b. Lies b t) (sym c.bounds-within.ensures) l in elim (c.bounds_from.ensures.left t m) [
        | inl b ↦ inl b
        | inr b ↦ inr (told_early c.bounds-within.result c.bounds.result c.told_to-told.result c.later-from.result
            (λ u. IsOn own.yes.spans.items u ⊎ IsOn own.no.spans.items u) c.told_to-told.ensures c.later-from.ensures.one t
            (subst (λ s. Lies s t) (sym c.bounds.ensures) k) m b)
      ];
    }
