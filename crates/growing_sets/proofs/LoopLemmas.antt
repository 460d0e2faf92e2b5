-- How a list grows as stretches are added one after another.
use Rattle.std.proofs.Common.{◌≡◌, ◌⊎◌, inl, inr, sym, ap, subst, ◌∙◌, ℕ, zero, suc, List, [], ◌∷◌, ◌++◌, Some, take, append_assoc}
use Rattle.std.specs.Prelude.{slice_get}
use Rattle.std.proofs.lemmas.Option.{same_Some}
use Rattle.rational.specs.Time.{Rational}
use Rattle.growing_sets.specs.Spans.{Lies, Grows}
use Rattle.growing_sets.specs.Steps.{BySome}
use Rattle.growing_sets.specs.declared.stretch.Stretch.{Stretch}
use Rattle.growing_sets.proofs.StretchesJoin.{on_append, on_first, on_second}
use Rattle.growing_sets.proofs.SpanLemmas.{no_stretch}

-- what is added after something else is added with it
pub grows_then : {bounds : Stretch} {old mid new told some fresh : List Stretch} {P Q : Rational → Type 0}
    → Grows bounds old mid told some P → Grows bounds mid new some fresh Q → Grows bounds old new told fresh (λ t. P t ⊎ Q t)
grows_then {told = told} f g = record {
  more = f.more ++ g.more;
  noted = g.noted ∙ ap (λ xs. xs ++ g.more) f.noted ∙ append_assoc told f.more g.more;
  keeps = λ t h. g.keeps t (f.keeps t h);
  adds = λ t b r. elim r [ inl p ↦ g.keeps t (f.adds t b p) | inr q ↦ g.adds t b q ];
  only = λ t h. elim (g.only t h) [
    | inl m ↦ elim (f.only t m) [ inl o ↦ inl o | inr p ↦ inr (p.0, inl p.1) ]
    | inr q ↦ inr (q.0, inr q.1)
  ];
  gained = λ t h. elim (g.gained t h) [
    | inl m ↦ elim (f.gained t m) [ inl o ↦ inl o | inr k ↦ inr (on_first f.more g.more t k) ]
    | inr k ↦ inr (on_second f.more g.more t k)
  ];
  news = λ t h. elim (on_append f.more g.more t h) [
    | inl k ↦ (g.keeps t (f.news t k).0, (f.news t k).1)
    | inr k ↦ ((g.news t k).0, λ o. (g.news t k).1 (f.keeps t o))
  ];
}

-- what grows by some times grows by those, however they are said
pub grows_alike : {bounds : Stretch} {old new told fresh : List Stretch} {P Q : Rational → Type 0} → ((t : Rational) → Lies bounds t → P t → Q t)
    → ((t : Rational) → Lies bounds t → Q t → P t) → Grows bounds old new told fresh P → Grows bounds old new told fresh Q
grows_alike f g a = record {
  more = a.more;
  noted = a.noted;
  keeps = a.keeps;
  adds = λ t b q. a.adds t b (g t b q);
  only = λ t h. elim (a.only t h) [ inl o ↦ inl o | inr p ↦ inr (p.0, f t p.0 p.1) ];
  gained = a.gained;
  news = a.news;
}

-- one more of a list
pub by_more : (Q : Stretch → Rational → Type 0) (xs : List Stretch) (i : ℕ) (s : Stretch) (t : Rational) → slice_get xs i ≡ Some s
    → BySome Q (take i xs) t ⊎ Q s t → BySome Q (take (suc i) xs) t
by_more Q [] i s t e h = absurd (no_stretch s e)
by_more Q (x ∷ xs) zero s t e (inl h) = absurd h
by_more Q (x ∷ xs) zero s t e (inr h) = inl (subst (λ r. Q r t) (sym (same_Some x s e)) h)
by_more Q (x ∷ xs) (suc i) s t e (inl (inl h)) = inl h
by_more Q (x ∷ xs) (suc i) s t e (inl (inr h)) = inr (by_more Q xs i s t e (inl h))
by_more Q (x ∷ xs) (suc i) s t e (inr h) = inr (by_more Q xs i s t e (inr h))

-- what one of some stretches says one of the first says, or the last
pub by_less : (Q : Stretch → Rational → Type 0) (xs : List Stretch) (i : ℕ) (s : Stretch) (t : Rational) → slice_get xs i ≡ Some s
    → BySome Q (take (suc i) xs) t → BySome Q (take i xs) t ⊎ Q s t
by_less Q [] i s t e h = absurd (no_stretch s e)
by_less Q (x ∷ xs) zero s t e (inl h) = inr (subst (λ r. Q r t) (same_Some x s e) h)
by_less Q (x ∷ xs) zero s t e (inr h) = absurd h
by_less Q (x ∷ xs) (suc i) s t e (inl h) = inl (inl h)
by_less Q (x ∷ xs) (suc i) s t e (inr h) = elim (by_less Q xs i s t e h) [ inl k ↦ inl (inr k) | inr k ↦ inr k ]
