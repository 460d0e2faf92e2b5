-- Lists that let go of their first stretches, and those that take in what others gained.
use Rattle.std.proofs.Common.{◌≡◌, ◌⊎◌, inl, inr, sym, subst, Some, None, List, [], ◌∷◌, drop, length, ◌<◌, arith}
use Rattle.std.specs.Prelude.{◌↔◌, slice_get, slice_index_or, slice_set}
use Rattle.std.proofs.lemmas.Option.{same_Some}
use Rattle.rational.specs.Time.{Rational}
use Rattle.rational.specs.Places.{Place, After, Upto, Before}
use Rattle.frac128.specs.Cuts.{place}
use Rattle.growing_sets.specs.Spans.{IsOn, Lies, AreTidy}
use Rattle.growing_sets.specs.Growing.{Adds}
use Rattle.growing_sets.specs.Steps.{BySome}
use Rattle.growing_sets.specs.Showing.{EndsAfter, TakesIn}
use Rattle.growing_sets.specs.declared.stretch.Stretch.{Stretch}
use Rattle.growing_sets.specs.declared.grown.Grown.{Grown}
use Rattle.rational.proofs.PlaceLemmas.{after_of_before, at_most_of_not_before, before_trans, between, sides, le_through}
use Rattle.rational.proofs.PlaceLemmas.{after_later}
use Rattle.growing_sets.proofs.RunLemmas.{among_after, one_of, on_one}
use Rattle.growing_sets.proofs.SetLaws.{by_some, some_by}
use Rattle.growing_sets.proofs.StretchLemmas.{rises}

-- what was fresh in another list was taken in
pub takes_of : {old new : Grown} {fx : List Stretch} → Adds old new (BySome Lies fx) → TakesIn old.bounds old.spans.items new.spans.items fx
takes_of {fx = fx} a = record {
  has = λ t b o. let p = one_of fx t o in a.grows.adds t b (by_some Lies fx p.0 t p.1 p.2);
  only = λ t n. elim (a.grows.only t n) [
    | inl o ↦ inl o
    | inr (b, k) ↦ let s = some_by Lies fx t k in inr (b, on_one fx s.0 t s.1 s.2)
  ];
}

-- what a list has without those of its first stretches that end by the place
pub record Dropped (c : Place) (first xs : List Stretch) : Type 0 where
  -- the list is tidy
  pub tidy : AreTidy xs
  -- what is left was there
  pub kept : (t : Rational) → IsOn xs t → IsOn first t
  -- what was there is left, or ends by the place
  pub left : (t : Rational) → IsOn first t → IsOn xs t ⊎ Upto c t

-- nothing was let go
pub none_dropped : (c : Place) (xs : List Stretch) → AreTidy xs → Dropped c xs xs
none_dropped c xs tidy = record { tidy = tidy; kept = λ t h. h; left = λ t h. inl h }

-- the first stretch is let go where it ends by the place
pub one_dropped : (c : Place) (first xs ys : List Stretch) (s : Stretch) → slice_get xs 0 ≡ Some s → ys ≡ drop 1 xs
    → ¬ (Before c (place s.to)) → Dropped c first xs
    → Dropped c first ys
one_dropped c first [] ys s e d n h = absurd (let f : None ≡ Some s = e in cc)
one_dropped c first (x ∷ xs) ys s e d n h = subst (λ l. Dropped c first l) (sym d) (record {
  tidy = h.tidy.1;
  kept = λ t o. h.kept t (inr o);
  left = λ t o. elim (h.left t o) [
    | inl k ↦ elim k [
      | inl l ↦ inr (at_most_of_not_before (place s.to) c n t (subst (λ r. Upto (place r.to) t) (same_Some x s e) l.1))
      | inr r ↦ inl r
    ]
    | inr u ↦ inr u
  ];
})

-- then there is one fewer
pub fewer : (xs ys : List Stretch) (s : Stretch) → slice_get xs 0 ≡ Some s → ys ≡ drop 1 xs → length ys < length xs
fewer [] ys s e d = absurd (let f : None ≡ Some s = e in cc)
fewer (x ∷ xs) ys s e d = subst (λ l. length l < length (x ∷ xs)) (sym d) (omega arith)

-- a first stretch that ends later ends it
pub ends_after : (c : Place) (xs : List Stretch) (s : Stretch) → slice_get xs 0 ≡ Some s → Before c (place s.to) → EndsAfter c xs
ends_after c [] s e h = tt
ends_after c (x ∷ xs) s e h = subst (λ r. Before c (place r.to)) (sym (same_Some x s e)) h

-- an empty list ends behind each place
pub ends_none : (c : Place) (xs : List Stretch) → xs ≡ [] → EndsAfter c xs
ends_none c xs e = subst (λ l. EndsAfter c l) (sym e) tt

-- the first of a list that goes on past the place ends after it
pub first_ends : (c : Place) (xs : List Stretch) (s : Stretch) → 0 < length xs → s ≡ slice_index_or xs 0 s → EndsAfter c xs → Before c (place s.to)
first_ends c [] s h e b = absurd (omega (arith, h))
first_ends c (x ∷ xs) s h e b = subst (λ r. Before c (place r.to)) (sym e) b

-- what a list has of its first stretch from a place on, and of the others
pub cut_kept : (c : Place) (xs : List Stretch) (s r : Stretch) → 0 < length xs → s ≡ slice_index_or xs 0 s → AreTidy xs → EndsAfter c xs
    → ((t : Rational) → Lies r t → Lies s t × After c t) → (t : Rational) → IsOn (slice_set xs 0 r) t → IsOn xs t × After c t
cut_kept c [] s r h e tidy b f t o = absurd (omega (arith, h))
cut_kept c (x ∷ xs) s r h e tidy b f t (inl l) = let k = f t l in (inl (subst (λ z. Lies z t) e k.0), k.1)
cut_kept c (x ∷ xs) s r h e tidy b f t (inr o) =
    let p = one_of xs t o in
    (inr o, after_of_before c (place (p.0).from) t (before_trans c (place x.to) (place (p.0).from) b (among_after (place x.to) xs p.0 tidy.0 tidy.1 p.1)) p.2.0)

-- where the bounds from a place on end, the bounds end
pub ends_of : (first to : Place) (bounds rest : Stretch) → ((t : Rational) → Lies rest t ↔ (After first t × Upto to t × Lies bounds t))
    → ((t : Rational) → Lies bounds t → Upto to t) → (t : Rational) → Lies bounds t → Upto (place rest.to) t
ends_of first to bounds rest is ends t l = elim (sides (place rest.to) t) [
  | inl u ↦ u
  | inr a ↦
      let m = between (place rest.from) (place rest.to) (rises rest) in
      let k = (is m.0).0 (m.1, m.2) in
      ((is t).1 (after_later first m.0 t (le_through (place rest.to) m.0 t m.2 a) k.0, ends t l, l)).1
]
