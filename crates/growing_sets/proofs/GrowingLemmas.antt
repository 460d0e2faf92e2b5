-- How a set grows as a stretch is added.
use Rattle.std.proofs.Common.{◌≡◌, ◌⊎◌, inl, inr, sym, subst, ℕ, ◌≤◌, List, [], ◌∷◌, ◌++◌, length, take, drop}
use Rattle.rational.specs.Time.{Rational}
use Rattle.frac128.specs.Cuts.{place}
use Rattle.growing_sets.specs.Spans.{Lies, IsOn, AreTidy, BeginsAfter, EndBefore, Grows, IsPutIn}
use Rattle.growing_sets.specs.declared.stretch.Stretch.{Stretch}
use Rattle.growing_sets.proofs.StretchesJoin.{Absorbs, no_more}
use Rattle.rational.proofs.PlaceLemmas.{not_both}
use Rattle.growing_sets.proofs.SpanLemmas.{with_one, on_with, on_with_new, on_with_old, tidy_with, on_parts, front_upto, rest_after, tidy_drop}

-- with no times in the bounds nothing grows
pub grows_not : {bounds : Stretch} {spans fresh : List Stretch} (P : Rational → Type 0) → ((t : Rational) → Lies bounds t → P t → ⊥)
    → Grows bounds spans spans fresh fresh P
grows_not {fresh = fresh} P none = record {
  more = [];
  noted = no_more fresh;
  keeps = λ t h. h;
  adds = λ t b p. absurd (none t b p);
  only = λ t h. inl h;
  gained = λ t h. inl h;
  news = λ t h. absurd h;
}

-- a part that touches no stretch of the list is joined with none
pub absorbs_none : (at : ℕ) (part : Stretch) (old told fresh : List Stretch) → AreTidy old → at ≤ length old → EndBefore (place part.from) (take at old)
    → BeginsAfter (place part.to) (drop at old) → fresh ≡ told ++ part ∷ [] → Absorbs at part part old old told fresh
absorbs_none at part old told fresh tidy within front rest noted = record {
  more = part ∷ [];
  noted = noted;
  within = within;
  front = front;
  rest = rest;
  kept = λ t h. h;
  left = λ t h. inl h;
  covers = λ t h. h;
  only = λ t h. inr h;
  gained = λ t h. inr (inl h);
  news = λ t h. elim h [
    | inl l ↦ (
      l,
      λ o. elim (on_parts old at t o) [
        | inl f ↦ not_both (place part.from) t (front_upto (place part.from) (take at old) t front f) l.0
        | inr k ↦ not_both (place part.to) t l.1 (rest_after (place part.to) (drop at old) t (tidy_drop old at tidy) rest k)
      ],
    )
    | inr n ↦ absurd n
  ];
}

-- with the joined stretch in the room that was made for it the list has the part in it
pub put_in_by : {at : ℕ} {part joined : Stretch} {old left new told fresh : List Stretch} → AreTidy left
    → Absorbs at part joined old left told fresh → new ≡ with_one left at joined → IsPutIn part old new told fresh
put_in_by {at = at} {joined = joined} {left = left} {new = new} tidy a is = record {
  tidy = subst AreTidy (sym is) (tidy_with left at joined tidy a.front a.rest);
  grows = record {
    more = a.more;
    noted = a.noted;
    keeps = λ t h. there t (elim (a.left t h) [ inl k ↦ on_with_old left at joined t k | inr k ↦ on_with_new left at joined t k ]);
    adds = λ t b p. there t (on_with_new left at joined t (a.covers t p));
    only = λ t h. elim (here t h) [
      | inl k ↦ inl (a.kept t k)
      | inr k ↦ elim (a.only t k) [ inl o ↦ inl o | inr p ↦ inr (p, p) ]
    ];
    gained = λ t h. elim (here t h) [
      | inl k ↦ inl (a.kept t k)
      | inr k ↦ elim (a.only t k) [ inl o ↦ inl o | inr p ↦ a.gained t p ]
    ];
    news = λ t h. (there t (on_with_new left at joined t (a.covers t (a.news t h).0)), (a.news t h).1);
  };
}
  where
    there : (t : Rational) → IsOn (with_one left at joined) t → IsOn new t
    there t h = subst (λ xs. IsOn xs t) (sym is) h

    here : (t : Rational) → IsOn new t → IsOn left t ⊎ Lies joined t
    here t h = on_with left at joined t (subst (λ xs. IsOn xs t) is h)
