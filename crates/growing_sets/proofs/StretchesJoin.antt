-- How a list goes on as one stretch after another is joined with the part that touches it.
use Rattle.std.proofs.Common.{◌≡◌, ◌⊎◌, inl, inr, refl, sym, ap, subst, ◌∙◌, ℕ, ◌≤◌, List, [], ◌∷◌, ◌++◌, Some, length, take, drop, append_assoc}
use Rattle.std.specs.Prelude.{slice_get}
use Rattle.rational.specs.Time.{Rational}
use Rattle.rational.specs.Places.{After, Upto, Before, AtMost}
use Rattle.frac128.specs.Cuts.{place}
use Rattle.growing_sets.specs.Spans.{Lies, IsOn, BeginsAfter, AreTidy, EndBefore, NoneEndsBefore}
use Rattle.growing_sets.specs.Joining.{Notes}
use Rattle.frac128.specs.declared.cut.Cut.{Cut}
use Rattle.growing_sets.specs.declared.stretch.Stretch.{Stretch}
use Rattle.rational.proofs.PlaceLemmas.{sides, not_both, before_through, before_of_at_most, before_at_most, not_before_itself}
use Rattle.growing_sets.proofs.SpanLemmas.{without, on_without, on_left, on_at, tidy_without, front_of, front_without}
use Rattle.growing_sets.proofs.SpanLemmas.{rest_without, begins_next, begins_still, reaches_at, within_without, on_parts}
use Rattle.growing_sets.proofs.SpanLemmas.{front_upto, rest_after, tidy_drop, none_ends, from_one_on}

-- of the stretches of `old` some went into `joined` and the others stand in `new`; the part was seen up to `seen`
pub record Absorbing (at : ℕ) (part joined : Stretch) (seen : Cut) (old new told fresh : List Stretch) : Type 0 where
  -- what was noted as new
  pub more : List Stretch
  -- it stands behind what was noted before
  pub noted : fresh ≡ told ++ more
  -- the list rises without touching stretches
  pub tidy : AreTidy new
  -- the place is one of the list
  pub within : at ≤ length new
  -- what stands before it ends before the joined stretch
  pub front : EndBefore (place joined.from) (take at new)
  -- what stands behind it does not end before the part
  pub reach : NoneEndsBefore (place part.from) (drop at new)
  -- nor before what was seen
  pub ahead : NoneEndsBefore (place seen) (drop at new)
  -- the joined stretch ends as the part, or before all behind it
  pub rest : (joined.to ≡ part.to) ⊎ BeginsAfter (place joined.to) (drop at new)
  -- it begins no later than the part
  pub low : AtMost (place joined.from) (place part.from)
  -- and ends no earlier
  pub high : AtMost (place part.to) (place joined.to)
  -- the part begins no later than what was seen
  pub first : AtMost (place part.from) (place seen)
  -- what is left was there
  pub kept : (t : Rational) → IsOn new t → IsOn old t
  -- what was there is left, or in the joined stretch
  pub left : (t : Rational) → IsOn old t → IsOn new t ⊎ Lies joined t
  -- the part is in the joined stretch
  pub covers : (t : Rational) → Lies part t → Lies joined t
  -- which has nothing but the part and what was there
  pub only : (t : Rational) → Lies joined t → IsOn old t ⊎ Lies part t
  -- what was there is left, or lies before what was seen
  pub passed : (t : Rational) → IsOn old t → IsOn new t ⊎ Upto (place seen) t
  -- what the part has up to there was there, or is noted
  pub gained : (t : Rational) → Lies part t → Upto (place seen) t → IsOn old t ⊎ IsOn more t
  -- what is noted is of the part, and was not there
  pub news : (t : Rational) → IsOn more t → Lies part t × ¬ (IsOn old t)

-- the stretches of `old` that the part touches went into `joined`; `new` has the others, with room at the place; and what was told
-- grew by the times of the part that `old` has not
pub record Absorbs (at : ℕ) (part joined : Stretch) (old new told fresh : List Stretch) : Type 0 where
  -- what was noted as new
  pub more : List Stretch
  -- it stands behind what was noted before
  pub noted : fresh ≡ told ++ more
  -- the place is one of the list, or its end
  pub within : at ≤ length new
  -- what stands before it ends before the joined stretch
  pub front : EndBefore (place joined.from) (take at new)
  -- what stands from it on begins behind the joined stretch
  pub rest : BeginsAfter (place joined.to) (drop at new)
  -- what is left was there
  pub kept : (t : Rational) → IsOn new t → IsOn old t
  -- what was there is left, or in the joined stretch
  pub left : (t : Rational) → IsOn old t → IsOn new t ⊎ Lies joined t
  -- the part is in the joined stretch
  pub covers : (t : Rational) → Lies part t → Lies joined t
  -- which has nothing but the part and what was there
  pub only : (t : Rational) → Lies joined t → IsOn old t ⊎ Lies part t
  -- what the part has was there, or is noted
  pub gained : (t : Rational) → Lies part t → IsOn old t ⊎ IsOn more t
  -- what is noted is of the part, and was not there
  pub news : (t : Rational) → IsOn more t → Lies part t × ¬ (IsOn old t)

-- a list with nothing behind it
pub no_more : (xs : List Stretch) → xs ≡ xs ++ []
no_more [] = refl
no_more (x ∷ xs) = ap (λ r. x ∷ r) (no_more xs)

-- a time on two lists is on one of them
pub on_append : (xs ys : List Stretch) (t : Rational) → IsOn (xs ++ ys) t → IsOn xs t ⊎ IsOn ys t
on_append [] ys t h = inr h
on_append (x ∷ xs) ys t (inl h) = inl (inl h)
on_append (x ∷ xs) ys t (inr h) = elim (on_append xs ys t h) [ inl k ↦ inl (inr k) | inr k ↦ inr k ]

-- a time on the first is on both
pub on_first : (xs ys : List Stretch) (t : Rational) → IsOn xs t → IsOn (xs ++ ys) t
on_first [] ys t h = absurd h
on_first (x ∷ xs) ys t (inl h) = inl h
on_first (x ∷ xs) ys t (inr h) = inr (on_first xs ys t h)

-- a time on the second of two lists is on both together
pub on_second : (xs ys : List Stretch) (t : Rational) → IsOn ys t → IsOn (xs ++ ys) t
on_second [] ys t h = h
on_second (x ∷ xs) ys t h = inr (on_second xs ys t h)

-- before the first stretch the part alone is joined
pub absorb_first : (at : ℕ) (part : Stretch) (old told : List Stretch) → AreTidy old → at ≤ length old → EndBefore (place part.from) (take at old)
    → NoneEndsBefore (place part.from) (drop at old) → Absorbing at part part part.from old old told told
absorb_first at part old told tidy within front reach = record {
  more = [];
  noted = no_more told;
  tidy = tidy;
  within = within;
  front = front;
  reach = reach;
  ahead = reach;
  rest = inl refl;
  low = λ t u. u;
  high = λ t u. u;
  first = λ t u. u;
  kept = λ t h. h;
  left = λ t h. inl h;
  covers = λ t h. h;
  only = λ t h. inr h;
  passed = λ t h. inl h;
  gained = λ t h u. absurd (not_both (place part.from) t u h.0);
  news = λ t h. absurd h;
}

module _ (at : ℕ) (part joined : Stretch) (seen : Cut) (old new told fresh : List Stretch) (a : Absorbing at part joined seen old new told fresh) where
  -- the next that the part touches touches what it was joined to
  pub touches_first : (next : Stretch) → ¬ (Before (place part.to) (place next.from)) → ¬ (Before (place joined.to) (place next.from))
  touches_first next n b = n (before_of_at_most (place part.to) (place joined.to) (place next.from) a.high b)

  -- the next stretch does not end before the joined one begins
  pub touches_second : (next : Stretch) → slice_get new at ≡ Some next → ¬ (Before (place next.to) (place joined.from))
  touches_second next e b = reaches_at (place part.from) new at next a.reach e (before_at_most (place next.to) (place joined.from) (place part.from) b a.low)

  -- what lies behind what was seen, before what is still in the list, is not in the old list
  apart : (t : Rational) → After (place seen) t → (IsOn (drop at new) t → ⊥) → IsOn old t → ⊥
  apart t s r h = elim (a.passed t h) [
    | inl n ↦ elim (on_parts new at t n) [
      | inl f ↦ not_both (place seen) t (a.first t (a.low t (front_upto (place joined.from) (take at new) t a.front f))) s
      | inr k ↦ r k
    ]
    | inr u ↦ not_both (place seen) t u s
  ]

  module _ (fresh' : List Stretch) (limit : Cut) (notes : Notes (place seen) (place limit) part fresh fresh') where
    noted' : fresh' ≡ told ++ (a.more ++ notes.more)
    noted' = notes.noted ∙ ap (λ xs. xs ++ notes.more) a.noted ∙ append_assoc told a.more notes.more

    module _ (clear : (t : Rational) → Upto (place limit) t → IsOn (drop at new) t → ⊥) where
      news' : (t : Rational) → IsOn (a.more ++ notes.more) t → Lies part t × ¬ (IsOn old t)
      news' t h = elim (on_append a.more notes.more t h) [
        | inl k ↦ a.news t k
        | inr k ↦ let x = (notes.on t).0 k in (x.2, apart t x.0 (clear t x.1))
      ]

      gained' : (t : Rational) → Lies part t → Upto (place limit) t → IsOn old t ⊎ IsOn (a.more ++ notes.more) t
      gained' t p u = elim (sides (place seen) t) [
        | inl s ↦ elim (a.gained t p s) [ inl h ↦ inl h | inr h ↦ inr (on_first a.more notes.more t h) ]
        | inr s ↦ inr (on_second a.more notes.more t ((notes.on t).1 (s, u, p)))
      ]

    -- the last gap
    pub absorb_last : BeginsAfter (place part.to) (drop at new) → limit ≡ part.to → Absorbs at part joined old new told fresh'
    absorb_last b is = record {
      more = a.more ++ notes.more;
      noted = noted';
      within = a.within;
      front = a.front;
      rest = elim a.rest [ inl e ↦ subst (λ c. BeginsAfter (place c) (drop at new)) (sym e) b | inr r ↦ r ];
      kept = a.kept;
      left = a.left;
      covers = a.covers;
      only = a.only;
      gained = λ t p. gained' clear t p (subst (λ c. Upto (place c) t) (sym is) p.1);
      news = news' clear;
    }
      where
        clear : (t : Rational) → Upto (place limit) t → IsOn (drop at new) t → ⊥
        clear t u h = not_both (place part.to) t (subst (λ c. Upto (place c) t) is u) (rest_after (place part.to) (drop at new) t (tidy_drop new at a.tidy) b h)

    -- one more is joined
    pub absorb_next : (next joined' : Stretch) → slice_get new at ≡ Some next → limit ≡ next.from
        → ((t : Rational) → Lies joined' t → Lies joined t ⊎ Lies next t) → ((t : Rational) → Lies joined t ⊎ Lies next t → Lies joined' t)
        → AtMost (place joined'.from) (place joined.from) → AtMost (place joined.to) (place joined'.to)
        → (joined'.from ≡ joined.from) ⊎ (joined'.from ≡ next.from) → (joined'.to ≡ joined.to) ⊎ (joined'.to ≡ next.to)
        → Absorbing at part joined' next.to old (without new at) told fresh'
    absorb_next next joined' e is out into begins ends from to = record {
      more = a.more ++ notes.more;
      noted = noted';
      tidy = tidy_without new at a.tidy;
      within = within_without new at next e;
      front = elim from [
        | inl s ↦ front_without (place joined'.from) new at (subst (λ c. EndBefore (place c) (take at new)) (sym s) a.front)
        | inr s ↦ front_without (place joined'.from) new at (subst (λ c. EndBefore (place c) (take at new)) (sym s) (front_of new at next a.tidy e))
      ];
      reach = rest_without (place part.from) new at a.reach;
      ahead = none_ends (place next.to) (place next.to) (drop at (without new at)) (not_before_itself (place next.to)) (begins_next new at next a.tidy e)
          (tidy_drop (without new at) at (tidy_without new at a.tidy));
      rest = elim to [
        | inl s ↦ elim a.rest [
          | inl r ↦ inl (s ∙ r)
          | inr r ↦ inr (subst (λ c. BeginsAfter (place c) (drop at (without new at))) (sym s) (begins_still (place joined.to) new at a.tidy r))
        ]
        | inr s ↦ inr (subst (λ c. BeginsAfter (place c) (drop at (without new at))) (sym s) (begins_next new at next a.tidy e))
      ];
      low = λ t u. a.low t (begins t u);
      high = λ t u. ends t (a.high t u);
      first = λ t u. elim (sides (place next.to) t) [
        | inl k ↦ k
        | inr k ↦ absurd (reaches_at (place part.from) new at next a.reach e (before_through (place next.to) (place part.from) t k u))
      ];
      kept = λ t h. a.kept t (on_without new at t h);
      left = λ t h. elim (a.left t h) [
        | inl n ↦ elim (on_left new at next t e n) [ inl k ↦ inl k | inr k ↦ inr (into t (inr k)) ]
        | inr j ↦ inr (into t (inl j))
      ];
      covers = λ t p. into t (inl (a.covers t p));
      only = λ t j. elim (out t j) [ inl k ↦ a.only t k | inr k ↦ inl (a.kept t (on_at new at next t e k)) ];
      passed = λ t h. elim (a.passed t h) [
        | inl n ↦ elim (on_left new at next t e n) [ inl k ↦ inl k | inr k ↦ inr k.1 ]
        | inr u ↦ inr (behind t u)
      ];
      gained = λ t p u. elim (sides (place next.from) t) [
        | inl k ↦ gained' clear t p (subst (λ c. Upto (place c) t) (sym is) k)
        | inr k ↦ inl (a.kept t (on_at new at next t e (k, u)))
      ];
      news = news' clear;
    }
      where
        clear : (t : Rational) → Upto (place limit) t → IsOn (drop at new) t → ⊥
        clear t u h = not_both (place next.from) t (subst (λ c. Upto (place c) t) is u) (from_one_on new at next t a.tidy e h)

        behind : (t : Rational) → Upto (place seen) t → Upto (place next.to) t
        behind t u = elim (sides (place next.to) t) [
          | inl k ↦ k
          | inr k ↦ absurd (reaches_at (place seen) new at next a.ahead e (before_through (place next.to) (place seen) t k u))
        ]
