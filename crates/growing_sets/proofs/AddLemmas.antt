-- What a set is that had times added, one thing after another.
use Rattle.std.proofs.Common.{◌≡◌, ◌⊎◌, inl, inr, refl, sym, subst, ◌∙◌, ℕ, ◌+◌, ◌≤◌, List, [], ◌++◌, Some, length, take, add-one}
use Rattle.std.specs.Prelude.{slice_get}
use Rattle.std.proofs.lemmas.List.{take_all}
use Rattle.rational.specs.Time.{Rational}
use Rattle.growing_sets.specs.Spans.{Lies, IsOn, AreTidy, Grows, IsPutIn}
use Rattle.growing_sets.specs.Growing.{Adds}
use Rattle.growing_sets.specs.Steps.{BySome, Gains, Tells}
use Rattle.growing_sets.specs.declared.stretch.Stretch.{Stretch}
use Rattle.growing_sets.specs.declared.grown.Grown.{Grown}
use Rattle.growing_sets.proofs.GrowingLemmas.{grows_not}
use Rattle.growing_sets.proofs.LoopLemmas.{grows_then, grows_alike, by_more, by_less}
use Rattle.growing_sets.proofs.EndingLemmas.{grows_within}

-- a set that has none of the times within its bounds stays as it is
pub adds_none : {own : Grown} (P : Rational → Type 0) → AreTidy own.spans.items → ((t : Rational) → Lies own.bounds t → P t → ⊥) → Adds own own P
adds_none P tidy none = record { tidy = tidy; bounds = refl; grows = grows_not P none }

-- it adds the same however the times are said
pub adds_alike : {old new : Grown} {P Q : Rational → Type 0} → Adds old new P → ((t : Rational) → Lies old.bounds t → P t → Q t)
    → ((t : Rational) → Lies old.bounds t → Q t → P t) → Adds old new Q
adds_alike a f g = record { tidy = a.tidy; bounds = a.bounds; grows = grows_alike f g a.grows }

-- what it added is among what it has
pub adds_some : {old new : Grown} {P : Rational → Type 0} → Adds old new P → Adds old new (IsOn new.spans.items)
adds_some a = record {
  tidy = a.tidy;
  bounds = a.bounds;
  grows = record {
    more = a.grows.more;
    noted = a.grows.noted;
    keeps = a.grows.keeps;
    adds = λ t b o. o;
    only = λ t o. elim (a.grows.only t o) [ inl k ↦ inl k | inr p ↦ inr (p.0, o) ];
    gained = a.grows.gained;
    news = a.grows.news;
  };
}

-- by whatever list they are said that is the same
pub adds_as : {old new : Grown} (F : List Stretch → Rational → Type 0) {xs ys : List Stretch} → xs ≡ ys → Adds old new (F xs) → Adds old new (F ys)
adds_as {old} {new} F e a = subst (λ l. Adds old new (F l)) e a

-- what is added after the bounds stayed is within the same bounds
pub grows_after : {bounds : Stretch} {mid new : Grown} {Q : Rational → Type 0} → mid.bounds ≡ bounds → Adds mid new Q
    → Grows bounds mid.spans.items new.spans.items mid.fresh.items new.fresh.items Q
grows_after {mid = mid} {new = new} {Q = Q} e a = subst (λ b. Grows b mid.spans.items new.spans.items mid.fresh.items new.fresh.items Q) e a.grows

-- what is added after something else is added with it
pub adds_then : {old mid new : Grown} {P Q : Rational → Type 0} → Adds old mid P → Adds mid new Q → Adds old new (λ t. P t ⊎ Q t)
adds_then f g = record {
  tidy = g.tidy;
  bounds = g.bounds ∙ f.bounds;
  grows = grows_then f.grows (grows_after f.bounds g);
}

-- in whichever order
pub adds_swapped : {old new : Grown} {P Q : Rational → Type 0} → Adds old new (λ t. P t ⊎ Q t) → Adds old new (λ t. Q t ⊎ P t)
adds_swapped a = adds_alike a (λ t b h. elim h [ inl p ↦ inr p | inr q ↦ inl q ]) (λ t b h. elim h [ inl q ↦ inr q | inr p ↦ inl p ])

-- a set that added the first of some stretches adds one more of them
pub adds_on : {old mid new : Grown} {s : Stretch} (Q : Stretch → Rational → Type 0) (xs : List Stretch) (i : ℕ) → slice_get xs i ≡ Some s
    → Adds old mid (BySome Q (take i xs)) → Adds mid new (Q s) → Adds old new (BySome Q (take (i + 1) xs))
adds_on {old} {new = new} {s = s} Q xs i e f g =
    subst (λ k. Adds old new (BySome Q (take k xs))) (sym (add-one i))
    (adds_alike (adds_then f g) (λ t b h. by_more Q xs i s t e h) (λ t b h. by_less Q xs i s t e h))

-- and has added all, once none is left
pub adds_all : {old new : Grown} (Q : Stretch → Rational → Type 0) (xs : List Stretch) (i : ℕ) → length xs ≤ i
    → Adds old new (BySome Q (take i xs)) → Adds old new (BySome Q xs)
adds_all {old} {new} Q xs i h a = subst (λ l. Adds old new (BySome Q l)) (take_all i xs h) a

-- a part of its bounds that is put into a set's list is added to the set
pub adds_part : {old new : Grown} {part : Stretch} {P : Rational → Type 0}
    → IsPutIn part old.spans.items new.spans.items old.fresh.items new.fresh.items → new.bounds ≡ old.bounds
    → ((t : Rational) → Lies part t → Lies old.bounds t × P t) → ((t : Rational) → Lies old.bounds t → P t → Lies part t) → Adds old new P
adds_part p is out into = record { tidy = p.tidy; bounds = is; grows = grows_within out into p.grows }

-- what a set tells within the bounds that it had, it tells within its own
pub tells_still : {old new : Grown} {P R : Rational → Type 0} → Adds old new P → Tells old.bounds new.spans.items R → Tells new.bounds new.spans.items R
tells_still {new = new} {R = R} a h = subst (λ b. Tells b new.spans.items R) (sym a.bounds) h

-- where nothing was noted before, what is noted is what was gained
pub gains_of : {old new : Grown} {P : Rational → Type 0} → old.fresh.items ≡ [] → Adds old new P → Gains old.spans.items new.spans.items new.fresh.items
gains_of {new = new} none a = record {
  kept = a.grows.keeps;
  gained = λ t n. elim (a.grows.gained t n) [ inl o ↦ inl o | inr m ↦ inr (subst (λ xs. IsOn xs t) (sym all) m) ];
  own = λ t m. (a.grows.news t (subst (λ xs. IsOn xs t) all m)).0;
}
  where
    all : new.fresh.items ≡ a.grows.more
    all = a.grows.noted ∙ subst (λ xs. xs ++ a.grows.more ≡ a.grows.more) (sym none) refl
