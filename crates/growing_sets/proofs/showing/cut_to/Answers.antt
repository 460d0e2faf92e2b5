use Rattle.std.proofs.Common.{inl, inr, sym, subst}
use Rattle.rational.proofs.Order.{not_lt_of_le}
use Rattle.growing_sets.specs.Spans.{Lies}
use Rattle.growing_sets.proofs.showing.cut_to.Goals as goal

pub narrow-requires-clause-ends : goal.narrow-requires-clause-ends
narrow-requires-clause-ends c = λ t o. c.bounds_from.ensures.ends t (subst (λ b. Lies b t) (sym c.bounds-within.ensures) (c.requires.inside t o))

pub returns : goal.returns
returns c =
    let b = c.bounds_from.ensures in
    let is = c.narrow.ensures.bounds in
    let was = c.bounds-within.ensures in
    record {
      tidy = c.narrow.ensures.tidy;
      less = λ t l. subst (λ x. Lies x t) was (b.within t (subst (λ x. Lies x t) is l));
      left = λ t l f. subst (λ x. Lies x t) (sym is) (elim (b.left t (subst (λ x. Lies x t) (sym was) l)) [
        | inl m ↦ m
        | inr m ↦ absurd (not_lt_of_le f m)
      ]);
      after = λ t l f u k. b.after t (subst (λ x. Lies x t) (sym was) l) f u (subst (λ x. Lies x u) is k);
      has = λ t l o. c.narrow.ensures.left t (subst (λ x. Lies x t) is l) o;
      only = λ t o. let k = c.narrow.ensures.kept t o in (k.0, subst (λ x. Lies x t) (sym is) k.1);
    }
