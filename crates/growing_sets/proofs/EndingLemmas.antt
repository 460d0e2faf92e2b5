-- Lists that end with a stretch: what is put behind it, and what lengthens it.
use Rattle.std.proofs.Common.{◌≡◌, ◌⊎◌, inl, inr, refl, sym, ap, subst, ◌∙◌, ℕ, suc, ◌-◌, List, [], ◌∷◌, ◌++◌, length, arith}
use Rattle.std.specs.Prelude.{slice_set}
use Rattle.rational.specs.Time.{Rational}
use Rattle.rational.specs.Places.{Place, After, Upto, Before}
use Rattle.frac128.specs.Cuts.{place}
use Rattle.growing_sets.specs.Spans.{Lies, IsOn, BeginsAfter, AreTidy, EndBefore, Grows, IsPutIn}
use Rattle.growing_sets.specs.Ending.{IsLast}
use Rattle.growing_sets.specs.declared.stretch.Stretch.{Stretch}
use Rattle.rational.proofs.PlaceLemmas.{sides, not_both, upto_of_before, after_of_before, at_most_of_not_before, before_trans}
use Rattle.rational.proofs.PlaceLemmas.{after_at_most}
use Rattle.growing_sets.proofs.StretchLemmas.{rises}
use Rattle.growing_sets.proofs.StretchesJoin.{no_more, on_append, on_first, on_second}
use Rattle.growing_sets.proofs.SpanLemmas.{begins_through, front_upto}

one_more : (front : List Stretch) (last : Stretch) → length (front ++ last ∷ []) ≡ suc (length front)
one_more [] last = refl
one_more (x ∷ xs) last = ap (λ n. suc n) (one_more xs last)

-- a list with a last is not empty
pub none_last : (xs front : List Stretch) (last : Stretch) → length xs ≡ 0 → xs ≡ front ++ last ∷ [] → ⊥
none_last xs front last n e = let m : length xs ≡ suc (length front) = ap (λ l. length l) e ∙ one_more front last in omega arith

set_at : (front : List Stretch) (last s : Stretch) (n : ℕ) → n ≡ length front → slice_set (front ++ last ∷ []) n s ≡ front ++ s ∷ []
set_at [] last s n e = subst (λ k. slice_set (last ∷ []) k s ≡ s ∷ []) (sym e) refl
set_at (x ∷ xs) last s n e =
    subst (λ k. slice_set (x ∷ (xs ++ last ∷ [])) k s ≡ x ∷ (xs ++ s ∷ [])) (sym e) (ap (λ r. x ∷ r) (set_at xs last s (length xs) refl))

-- a list that is changed at its last place ends with what was put there
pub set_last_is : (xs front : List Stretch) (last s : Stretch) (n : ℕ) → n ≡ length xs → xs ≡ front ++ last ∷ [] → slice_set xs (n - 1) s ≡ front ++ s ∷ []
set_last_is xs front last s n e f =
    let m : length xs ≡ suc (length front) = ap (λ l. length l) f ∙ one_more front last in
    subst (λ l. slice_set l (n - 1) s ≡ front ++ s ∷ []) (sym f) (set_at front last s (n - 1) (omega (arith, e, m)))

-- those before the last end before it begins
begins_last : (c : Place) (front : List Stretch) (s : Stretch) → BeginsAfter c (front ++ s ∷ []) → AreTidy (front ++ s ∷ []) → Before c (place s.from)
begins_last c [] s b h = b
begins_last c (x ∷ xs) s b h = begins_last c xs s (begins_through c x (xs ++ s ∷ []) b h.0) h.1

front_ends : (front : List Stretch) (s : Stretch) → AreTidy (front ++ s ∷ []) → EndBefore (place s.from) front
front_ends [] s h = tt
front_ends (x ∷ xs) s h = (begins_last (place x.to) xs s h.0 h.1, front_ends xs s h.1)

ends_through : (c d : Place) (xs : List Stretch) → Before c d → EndBefore c xs → EndBefore d xs
ends_through c d [] b h = tt
ends_through c d (x ∷ xs) b h = (before_trans (place x.to) c d h.0 b, ends_through c d xs b h.1)

ends_with : (c : Place) (front : List Stretch) (s : Stretch) → EndBefore c front → Before (place s.to) c → EndBefore c (front ++ s ∷ [])
ends_with c [] s h b = (b, tt)
ends_with c (x ∷ xs) s h b = (h.0, ends_with c xs s h.1 b)

-- where the last ends before a place, all do
pub all_end : (c : Place) (xs : List Stretch) (s : Stretch) → AreTidy xs → IsLast s xs → Before (place s.to) c → EndBefore c xs
all_end c xs s tidy (front, e) b =
    let h = subst AreTidy e tidy in
    subst (λ l. EndBefore c l) (sym e)
    (ends_with c front s (ends_through (place s.from) c front (before_trans (place s.from) (place s.to) c (rises s) b) (front_ends front s h)) b)

-- all of none do
pub none_end : (c : Place) (xs : List Stretch) → xs ≡ [] → EndBefore c xs
none_end c xs e = subst (λ l. EndBefore c l) (sym e) tt

begins_with_last : (c : Place) (xs : List Stretch) (s : Stretch) → BeginsAfter c xs → Before c (place s.from) → BeginsAfter c (xs ++ s ∷ [])
begins_with_last c [] s b h = h
begins_with_last c (x ∷ xs) s b h = b

-- with one behind those that end before it the list rises
pub tidy_behind : (xs : List Stretch) (s : Stretch) → AreTidy xs → EndBefore (place s.from) xs → AreTidy (xs ++ s ∷ [])
tidy_behind [] s h e = (tt, tt)
tidy_behind (x ∷ xs) s h e = (begins_with_last (place x.to) xs s h.0 e.0, tidy_behind xs s h.1 e.1)

-- and it has the one put in
pub put_behind : {part : Stretch} {old new told fresh : List Stretch} → AreTidy old → EndBefore (place part.from) old → new ≡ old ++ part ∷ []
    → fresh ≡ told ++ part ∷ [] → IsPutIn part old new told fresh
put_behind {part} {old} {told = told} {fresh = fresh} tidy ends is noted = subst (λ xs. IsPutIn part old xs told fresh) (sym is) (record {
  tidy = tidy_behind old part tidy ends;
  grows = record {
    more = part ∷ [];
    noted = noted;
    keeps = λ t h. on_first old (part ∷ []) t h;
    adds = λ t l p. on_second old (part ∷ []) t (inl l);
    only = λ t h. elim (on_append old (part ∷ []) t h) [ inl o ↦ inl o | inr k ↦ elim k [ inl l ↦ inr (l, l) | inr n ↦ absurd n ] ];
    gained = λ t h. on_append old (part ∷ []) t h;
    news = λ t h. (
      on_second old (part ∷ []) t h,
      λ o. elim h [ inl l ↦ not_both (place part.from) t (front_upto (place part.from) old t ends o) l.0 | inr n ↦ n ],
    );
  };
})

-- a list whose last stretch holds all of a part has it in it
pub put_within : {part last : Stretch} {old told : List Stretch} → AreTidy old → IsLast last old → ¬ (Before (place part.from) (place last.from))
    → ¬ (Before (place last.to) (place part.to)) → IsPutIn part old old told told
put_within {part} {last} {told = told} tidy (front, e) begins ends = record {
  tidy = tidy;
  grows = record {
    more = [];
    noted = no_more told;
    keeps = λ t h. h;
    adds = λ t l p. subst (λ xs. IsOn xs t) (sym e) (on_second front (last ∷ []) t (inl (
      after_at_most (place last.from) (place part.from) t (at_most_of_not_before (place last.from) (place part.from) begins) l.0,
      at_most_of_not_before (place part.to) (place last.to) ends t l.1,
    )));
    only = λ t h. inl h;
    gained = λ t h. inl h;
    news = λ t h. absurd h;
  };
}

tidy_front : (xs : List Stretch) (s : Stretch) → AreTidy (xs ++ s ∷ []) → AreTidy xs
tidy_front [] s h = tt
tidy_front (x ∷ []) s h = (tt, tt)
tidy_front (x ∷ y ∷ rest) s h = (h.0, tidy_front (y ∷ rest) s h.1)

-- a stretch is lengthened up to the end of a part that reaches it: `gap` is what is new of it
pub record IsLonger (part last gap longer : Stretch) : Type 0 where
  -- the longer one begins where the last begins
  pub from : longer.from ≡ last.from
  -- and ends where the part ends
  pub to : longer.to ≡ part.to
  -- what is new begins where the last ends
  pub gap_from : gap.from ≡ last.to
  -- and ends where the part ends
  pub gap_to : gap.to ≡ part.to
  -- the part does not begin before the last
  pub begins : ¬ (Before (place part.from) (place last.from))
  -- nor behind it
  pub reaches : ¬ (Before (place last.to) (place part.from))
  -- and ends behind it
  pub ends : Before (place last.to) (place part.to)

-- the list that ends with it has grown by the part
module _ {part last gap longer : Stretch} (front : List Stretch) (tidy : AreTidy (front ++ last ∷ [])) (is : IsLonger part last gap longer) where
  after_last : (t : Rational) → After (place part.from) t → After (place last.from) t
  after_last t a = after_at_most (place last.from) (place part.from) t (at_most_of_not_before (place last.from) (place part.from) is.begins) a

  in_longer : (t : Rational) → After (place last.from) t → Upto (place part.to) t → Lies longer t
  in_longer t a u = (subst (λ c. After (place c) t) (sym is.from) a, subst (λ c. Upto (place c) t) (sym is.to) u)

  of_longer : (t : Rational) → Lies longer t → Lies last t ⊎ Lies gap t
  of_longer t l = elim (sides (place last.to) t) [
    | inl u ↦ inl (subst (λ c. After (place c) t) is.from l.0, u)
    | inr a ↦ inr (subst (λ c. After (place c) t) (sym is.gap_from) a, subst (λ c. Upto (place c) t) (is.to ∙ sym is.gap_to) l.1)
  ]

  -- what is new lies after the last stretch, and in the part
  past_last : (t : Rational) → Lies gap t → After (place last.to) t × Upto (place part.to) t
  past_last t l = (subst (λ c. After (place c) t) is.gap_from l.0, subst (λ c. Upto (place c) t) is.gap_to l.1)

  grows_longer : (told fresh : List Stretch) → fresh ≡ told ++ gap ∷ [] → Grows part (front ++ last ∷ []) (front ++ longer ∷ []) told fresh (Lies part)
  grows_longer told fresh noted = record {
    more = gap ∷ [];
    noted = noted;
    keeps = λ t h. elim (on_append front (last ∷ []) t h) [
      | inl f ↦ on_first front (longer ∷ []) t f
      | inr k ↦ elim k [
        | inl l ↦ on_second front (longer ∷ []) t (inl (in_longer t l.0 (upto_of_before (place last.to) (place part.to) t is.ends l.1)))
        | inr n ↦ absurd n
      ]
    ];
    adds = λ t l p. on_second front (longer ∷ []) t (inl (in_longer t (after_last t l.0) l.1));
    only = λ t h. elim (parted t h) [
      | inl o ↦ inl o
      | inr l ↦ let k = past_last t l in let p : Lies part t =
          (after_at_most (place part.from) (place last.to) t (at_most_of_not_before (place part.from) (place last.to) is.reaches) k.0, k.1) in inr (p, p)
    ];
    gained = λ t h. elim (parted t h) [ inl o ↦ inl o | inr l ↦ inr (inl l) ];
    news = λ t h. elim h [
      | inl l ↦
          let k = past_last t l in (
            on_second front (longer ∷ []) t (inl (in_longer t (after_of_before (place last.from) (place last.to) t (rises last) k.0) k.1)),
            λ o. elim (on_append front (last ∷ []) t o) [
              | inl f ↦ not_both (place last.from) t (front_upto (place last.from) front t (front_ends front last tidy) f)
                  (after_of_before (place last.from) (place last.to) t (rises last) k.0)
              | inr m ↦ elim m [ inl i ↦ not_both (place last.to) t i.1 k.0 | inr n ↦ n ]
            ],
          )
      | inr n ↦ absurd n
    ];
  }
    where
      parted : (t : Rational) → IsOn (front ++ longer ∷ []) t → IsOn (front ++ last ∷ []) t ⊎ Lies gap t
      parted t h = elim (on_append front (longer ∷ []) t h) [
        | inl f ↦ inl (on_first front (last ∷ []) t f)
        | inr k ↦ elim k [
          | inl l ↦ elim (of_longer t l) [ inl i ↦ inl (on_second front (last ∷ []) t (inl i)) | inr g ↦ inr g ]
          | inr n ↦ absurd n
        ]
      ]

-- so a list whose last stretch is lengthened has the part in it
pub lengthened : {part last longer gap : Stretch} {old new told fresh : List Stretch} (front : List Stretch) → old ≡ front ++ last ∷ []
    → new ≡ front ++ longer ∷ [] → fresh ≡ told ++ gap ∷ [] → AreTidy old → IsLonger part last gap longer → IsPutIn part old new told fresh
lengthened {part} {last} {longer} {old = old} {new = new} {told = told} {fresh = fresh} front e f noted tidy is =
    subst (λ xs. IsPutIn part xs new told fresh) (sym e) (subst (λ xs. IsPutIn part (front ++ last ∷ []) xs told fresh) (sym f) (record {
      tidy = tidy_behind front longer (tidy_front front last rises_still)
          (subst (λ c. EndBefore (place c) front) (sym is.from) (front_ends front last rises_still));
      grows = grows_longer front rises_still is told fresh noted;
    }))
  where
    rises_still : AreTidy (front ++ last ∷ [])
    rises_still = subst AreTidy e tidy

-- what a set grows by within a part of its bounds, it grows by within them
pub grows_within : {bounds part : Stretch} {old new told fresh : List Stretch} {P : Rational → Type 0} → ((t : Rational) → Lies part t → Lies bounds t × P t)
    → ((t : Rational) → Lies bounds t → P t → Lies part t) → Grows part old new told fresh (Lies part) → Grows bounds old new told fresh P
grows_within out into g = record {
  more = g.more;
  noted = g.noted;
  keeps = g.keeps;
  adds = λ t b p. let l = into t b p in g.adds t l l;
  only = λ t h. elim (g.only t h) [ inl o ↦ inl o | inr l ↦ inr (out t l.0) ];
  gained = g.gained;
  news = g.news;
}
