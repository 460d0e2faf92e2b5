-- Lists of stretches that rise: taking one out, putting one in, and what the places before and after it hold.
use Rattle.std.proofs.Common.{◌≡◌, ◌⊎◌, inl, inr, refl, ap, subst, sym, ℕ, zero, suc, ◌≤◌, List, [], ◌∷◌, ◌++◌, Some, None, length, take}
use Rattle.std.proofs.Common.{drop, arith}
use Rattle.std.specs.Prelude.{slice_get, slice_index_or, slice_set}
use Rattle.std.proofs.lemmas.Option.{same_Some}
use Rattle.rational.specs.Time.{Rational}
use Rattle.rational.specs.Places.{Place, After, Upto, Before}
use Rattle.frac128.specs.Cuts.{place}
use Rattle.growing_sets.specs.Spans.{Lies, IsOn, BeginsAfter, AreTidy, EndBefore, NoneEndsBefore}
use Rattle.growing_sets.specs.declared.stretch.Stretch.{Stretch}
use Rattle.growing_sets.proofs.StretchLemmas.{rises}
use Rattle.rational.proofs.PlaceLemmas.{before_trans, after_of_before, upto_of_before}

-- the list without what stands at the place; with a stretch put in there
abbrev pub without : List Stretch → ℕ → List Stretch
without xs at = take at xs ++ drop (suc at) xs

abbrev pub with_one : List Stretch → ℕ → Stretch → List Stretch
with_one xs at j = take at xs ++ j ∷ drop at xs

-- none holds none
pub no_stretch : (s : Stretch) → None ≡ Some s → ⊥
no_stretch s e = cc

-- what the list has without one, it has
pub on_without : (xs : List Stretch) (at : ℕ) (t : Rational) → IsOn (without xs at) t → IsOn xs t
on_without [] zero t h = h
on_without [] (suc at) t h = h
on_without (x ∷ xs) zero t h = inr h
on_without (x ∷ xs) (suc at) t (inl h) = inl h
on_without (x ∷ xs) (suc at) t (inr h) = inr (on_without xs at t h)

-- what it has, it has without the one, or the one has it
pub on_left : (xs : List Stretch) (at : ℕ) (n : Stretch) (t : Rational) → slice_get xs at ≡ Some n → IsOn xs t → IsOn (without xs at) t ⊎ Lies n t
on_left [] at n t e h = absurd h
on_left (x ∷ xs) zero n t e (inl h) = inr (subst (λ s. Lies s t) (same_Some x n e) h)
on_left (x ∷ xs) zero n t e (inr h) = inl h
on_left (x ∷ xs) (suc at) n t e (inl h) = inl (inl h)
on_left (x ∷ xs) (suc at) n t e (inr h) = elim (on_left xs at n t e h) [ inl k ↦ inl (inr k) | inr k ↦ inr k ]

-- and it has what one of it has
pub on_at : (xs : List Stretch) (at : ℕ) (n : Stretch) (t : Rational) → slice_get xs at ≡ Some n → Lies n t → IsOn xs t
on_at [] at n t e h = absurd (no_stretch n e)
on_at (x ∷ xs) zero n t e h = inl (subst (λ s. Lies s t) (sym (same_Some x n e)) h)
on_at (x ∷ xs) (suc at) n t e h = inr (on_at xs at n t e h)

-- what lies after a stretch of the list lies after what the stretch lies after
pub begins_through : (c : Place) (s : Stretch) (rest : List Stretch) → Before c (place s.from) → BeginsAfter (place s.to) rest → BeginsAfter c rest
begins_through c s [] b h = tt
begins_through c s (r ∷ rest) b h =
    before_trans c (place s.from) (place r.from) b (before_trans (place s.from) (place s.to) (place r.from) (rises s) h)

begins_without : (c : Place) (xs : List Stretch) (at : ℕ) → BeginsAfter c xs → AreTidy xs → BeginsAfter c (without xs at)
begins_without c [] zero b h = tt
begins_without c [] (suc at) b h = tt
begins_without c (x ∷ xs) zero b h = begins_through c x xs b h.0
begins_without c (x ∷ xs) (suc at) b h = b

-- without one the list still rises
pub tidy_without : (xs : List Stretch) (at : ℕ) → AreTidy xs → AreTidy (without xs at)
tidy_without [] zero h = tt
tidy_without [] (suc at) h = tt
tidy_without (x ∷ xs) zero h = h.1
tidy_without (x ∷ xs) (suc at) h = (begins_without (place x.to) xs at h.0 h.1, tidy_without xs at h.1)

begins_at : (c : Place) (xs : List Stretch) (at : ℕ) (n : Stretch) → BeginsAfter c xs → AreTidy xs → slice_get xs at ≡ Some n → Before c (place n.from)
begins_at c [] at n b h e = absurd (no_stretch n e)
begins_at c (x ∷ xs) zero n b h e = subst (λ s. Before c (place s.from)) (same_Some x n e) b
begins_at c (x ∷ xs) (suc at) n b h e = begins_at c xs at n (begins_through c x xs b h.0) h.1 e

-- those before one end before it begins
pub front_of : (xs : List Stretch) (at : ℕ) (n : Stretch) → AreTidy xs → slice_get xs at ≡ Some n → EndBefore (place n.from) (take at xs)
front_of [] at n h e = absurd (no_stretch n e)
front_of (x ∷ xs) zero n h e = tt
front_of (x ∷ xs) (suc at) n h e = (begins_at (place x.to) xs at n h.0 h.1 e, front_of xs at n h.1 e)

-- those before one are the same without it
pub front_without : (c : Place) (xs : List Stretch) (at : ℕ) → EndBefore c (take at xs) → EndBefore c (take at (without xs at))
front_without c xs zero h = tt
front_without c [] (suc at) h = tt
front_without c (x ∷ xs) (suc at) h = (h.0, front_without c xs at h.1)

-- and so are those after it
pub rest_without : (c : Place) (xs : List Stretch) (at : ℕ) → NoneEndsBefore c (drop at xs) → NoneEndsBefore c (drop at (without xs at))
rest_without c [] zero h = tt
rest_without c [] (suc at) h = tt
rest_without c (x ∷ xs) zero h = h.1
rest_without c (x ∷ xs) (suc at) h = rest_without c xs at h

-- those after one begin after it ends
pub begins_next : (xs : List Stretch) (at : ℕ) (n : Stretch) → AreTidy xs → slice_get xs at ≡ Some n → BeginsAfter (place n.to) (drop at (without xs at))
begins_next [] at n h e = absurd (no_stretch n e)
begins_next (x ∷ xs) zero n h e = subst (λ s. BeginsAfter (place s.to) xs) (same_Some x n e) h.0
begins_next (x ∷ xs) (suc at) n h e = begins_next xs at n h.1 e

-- what lies after a place lies after it without the first
pub begins_still : (c : Place) (xs : List Stretch) (at : ℕ) → AreTidy xs → BeginsAfter c (drop at xs) → BeginsAfter c (drop at (without xs at))
begins_still c [] zero h b = tt
begins_still c [] (suc at) h b = tt
begins_still c (x ∷ xs) zero h b = begins_through c x xs b h.0
begins_still c (x ∷ xs) (suc at) h b = begins_still c xs at h.1 b

-- where none from a place on ends before a cut, the one there does not
pub reaches_at : (c : Place) (xs : List Stretch) (at : ℕ) (n : Stretch) → NoneEndsBefore c (drop at xs) → slice_get xs at ≡ Some n → ¬ (Before (place n.to) c)
reaches_at c [] at n h e = absurd (no_stretch n e)
reaches_at c (x ∷ xs) zero n h e = subst (λ s. ¬ (Before (place s.to) c)) (same_Some x n e) h.0
reaches_at c (x ∷ xs) (suc at) n h e = reaches_at c xs at n h e

-- a place of the list is one without the stretch there, or its end
pub within_without : (xs : List Stretch) (at : ℕ) (n : Stretch) → slice_get xs at ≡ Some n → at ≤ length (without xs at)
within_without [] at n e = absurd (no_stretch n e)
within_without (x ∷ xs) zero n e = omega arith
within_without (x ∷ xs) (suc at) n e = let k = within_without xs at n e in omega arith

-- behind a list nothing begins
pub nothing_from : (c : Place) (xs : List Stretch) (at : ℕ) → None ≡ slice_get xs at → BeginsAfter c (drop at xs)
nothing_from c [] zero e = tt
nothing_from c [] (suc at) e = tt
nothing_from c (x ∷ xs) zero e = absurd (no_stretch x e)
nothing_from c (x ∷ xs) (suc at) e = nothing_from c xs at e

-- where one begins after a place, those from there on do
pub begins_from : (c : Place) (xs : List Stretch) (at : ℕ) (n : Stretch) → Some n ≡ slice_get xs at → Before c (place n.from) → BeginsAfter c (drop at xs)
begins_from c [] at n e b = absurd (no_stretch n (sym e))
begins_from c (x ∷ xs) zero n e b = subst (λ s. Before c (place s.from)) (same_Some n x e) b
begins_from c (x ∷ xs) (suc at) n e b = begins_from c xs at n e b

-- with no first there is none
pub nothing_first : (xs : List Stretch) → None ≡ slice_get xs 0 → xs ≡ []
nothing_first [] e = refl
nothing_first (x ∷ xs) e = absurd (no_stretch x e)

-- where one stands first there is one
pub first_within : (xs : List Stretch) (s : Stretch) → slice_get xs 0 ≡ Some s → suc zero ≤ length xs
first_within [] s e = absurd (no_stretch s e)
first_within (x ∷ xs) s e = omega arith

-- what stands first is read there
pub first_read : (xs : List Stretch) (s : Stretch) → slice_get xs 0 ≡ Some s → s ≡ slice_index_or xs 0 s
first_read [] s e = refl
first_read (x ∷ xs) s e = sym (same_Some x s e)

-- a stretch put in the place of one is put in where that one was taken out
pub set_is : (xs : List Stretch) (at : ℕ) (s : Stretch) → suc at ≤ length xs → slice_set xs at s ≡ with_one (without xs at) at s
set_is [] at s h = absurd (omega arith)
set_is (x ∷ xs) zero s h = refl
set_is (x ∷ xs) (suc at) s h = ap (λ r. x ∷ r) (set_is xs at s (omega arith))

-- without one the next stands in its place
pub get_next : (xs : List Stretch) (at : ℕ) (n : Stretch) → slice_get xs (suc at) ≡ Some n → slice_get (without xs at) at ≡ Some n
get_next [] at n e = absurd (no_stretch n e)
get_next (x ∷ xs) zero n e = e
get_next (x ∷ xs) (suc at) n e = get_next xs at n e

-- and those after it stand from there on
pub drop_next : (xs : List Stretch) (at : ℕ) → drop at (without xs at) ≡ drop (suc at) xs
drop_next [] zero = refl
drop_next [] (suc at) = refl
drop_next (x ∷ xs) zero = refl
drop_next (x ∷ xs) (suc at) = drop_next xs at

-- of two neighbours either may be taken out first
pub without_next : (xs : List Stretch) (at : ℕ) → without (without xs (suc at)) at ≡ without (without xs at) at
without_next [] zero = refl
without_next [] (suc at) = refl
without_next (x ∷ xs) zero = refl
without_next (x ∷ xs) (suc at) = ap (λ r. x ∷ r) (without_next xs at)

-- with one more the list has its times too, and no others
pub on_with_new : (xs : List Stretch) (at : ℕ) (j : Stretch) (t : Rational) → Lies j t → IsOn (with_one xs at j) t
on_with_new xs zero j t h = inl h
on_with_new [] (suc at) j t h = inl h
on_with_new (x ∷ xs) (suc at) j t h = inr (on_with_new xs at j t h)

-- a time on the list is on it with one more
pub on_with_old : (xs : List Stretch) (at : ℕ) (j : Stretch) (t : Rational) → IsOn xs t → IsOn (with_one xs at j) t
on_with_old xs zero j t h = inr h
on_with_old [] (suc at) j t h = absurd h
on_with_old (x ∷ xs) (suc at) j t (inl h) = inl h
on_with_old (x ∷ xs) (suc at) j t (inr h) = inr (on_with_old xs at j t h)

-- a time on a list with one stretch more is on the list or in that stretch
pub on_with : (xs : List Stretch) (at : ℕ) (j : Stretch) (t : Rational) → IsOn (with_one xs at j) t → IsOn xs t ⊎ Lies j t
on_with xs zero j t (inl h) = inr h
on_with xs zero j t (inr h) = inl h
on_with [] (suc at) j t (inl h) = inr h
on_with [] (suc at) j t (inr h) = absurd h
on_with (x ∷ xs) (suc at) j t (inl h) = inl (inl h)
on_with (x ∷ xs) (suc at) j t (inr h) = elim (on_with xs at j t h) [ inl k ↦ inl (inr k) | inr k ↦ inr k ]

begins_with : (c : Place) (xs : List Stretch) (at : ℕ) (j : Stretch) → BeginsAfter c xs → Before c (place j.from) → BeginsAfter c (with_one xs at j)
begins_with c xs zero j b h = h
begins_with c [] (suc at) j b h = h
begins_with c (x ∷ xs) (suc at) j b h = b

-- with one between those that end before it and those that begin after it the list rises
pub tidy_with : (xs : List Stretch) (at : ℕ) (j : Stretch) → AreTidy xs → EndBefore (place j.from) (take at xs)
    → BeginsAfter (place j.to) (drop at xs) → AreTidy (with_one xs at j)
tidy_with xs zero j h f r = (r, h)
tidy_with [] (suc at) j h f r = (tt, tt)
tidy_with (x ∷ xs) (suc at) j h f r = (begins_with (place x.to) xs at j h.0 f.0, tidy_with xs at j h.1 f.1 r)

-- where one ends before a cut, so do those before it
pub front_more : (c : Place) (xs : List Stretch) (i : ℕ) (s : Stretch) → AreTidy xs → slice_get xs i ≡ Some s
    → Before (place s.to) c → EndBefore c (take (suc i) xs)
front_more c [] i s h e b = absurd (no_stretch s e)
front_more c (x ∷ xs) zero s h e b = (subst (λ r. Before (place r.to) c) (sym (same_Some x s e)) b, tt)
front_more c (x ∷ xs) (suc i) s h e b = (
  before_trans (place x.to) (place s.from) c (begins_at (place x.to) xs i s h.0 h.1 e) (before_trans (place s.from) (place s.to) c (rises s) b),
  front_more c xs i s h.1 e b,
)

-- what begins after b ends after it
pub none_ends : (b c : Place) (xs : List Stretch) → ¬ (Before b c) → BeginsAfter b xs → AreTidy xs → NoneEndsBefore c xs
none_ends b c [] n f h = tt
none_ends b c (r ∷ rest) n f h =
    let later : ¬ (Before (place r.to) c) = λ k. n (before_trans b (place r.from) c f (before_trans (place r.from) (place r.to) c (rises r) k)) in
    (later, none_ends (place r.to) c rest later h.0 h.1)

-- where one does not, neither do those after it
pub rest_more : (c : Place) (xs : List Stretch) (i : ℕ) (s : Stretch) → AreTidy xs → slice_get xs i ≡ Some s
    → ¬ (Before (place s.to) c) → NoneEndsBefore c (drop i xs)
rest_more c [] i s h e b = absurd (no_stretch s e)
rest_more c (x ∷ xs) zero s h e b =
    let n : ¬ (Before (place x.to) c) = subst (λ r. ¬ (Before (place r.to) c)) (sym (same_Some x s e)) b in (n, none_ends (place x.to) c xs n h.0 h.1)
rest_more c (x ∷ xs) (suc i) s h e b = rest_more c xs i s h.1 e b

-- a time of the list is one of those before a place in it, or of those from there on
pub on_parts : (xs : List Stretch) (at : ℕ) (t : Rational) → IsOn xs t → IsOn (take at xs) t ⊎ IsOn (drop at xs) t
on_parts xs zero t h = inr h
on_parts [] (suc at) t h = absurd h
on_parts (x ∷ xs) (suc at) t (inl h) = inl (inl h)
on_parts (x ∷ xs) (suc at) t (inr h) = elim (on_parts xs at t h) [ inl k ↦ inl (inr k) | inr k ↦ inr k ]

-- times of stretches that end before a cut lie before it
pub front_upto : (c : Place) (xs : List Stretch) (t : Rational) → EndBefore c xs → IsOn xs t → Upto c t
front_upto c [] t f h = absurd h
front_upto c (x ∷ xs) t f (inl h) = upto_of_before (place x.to) c t f.0 h.1
front_upto c (x ∷ xs) t f (inr h) = front_upto c xs t f.1 h

-- times of stretches that begin after a cut lie after it
pub rest_after : (c : Place) (xs : List Stretch) (t : Rational) → AreTidy xs → BeginsAfter c xs → IsOn xs t → After c t
rest_after c [] t h b o = absurd o
rest_after c (x ∷ xs) t h b (inl o) = after_of_before c (place x.from) t b o.0
rest_after c (x ∷ xs) t h b (inr o) = rest_after c xs t h.1 (begins_through c x xs b h.0) o

-- the later stretches of a tidy list are tidy
pub tidy_drop : (xs : List Stretch) (at : ℕ) → AreTidy xs → AreTidy (drop at xs)
tidy_drop xs zero h = h
tidy_drop [] (suc at) h = h
tidy_drop (x ∷ xs) (suc at) h = tidy_drop xs at h.1

-- times of those from one on lie after it begins
pub from_one_on : (xs : List Stretch) (at : ℕ) (n : Stretch) (t : Rational) → AreTidy xs → slice_get xs at ≡ Some n
    → IsOn (drop at xs) t → After (place n.from) t
from_one_on [] at n t h e o = absurd (no_stretch n e)
from_one_on (x ∷ xs) zero n t h e (inl o) = subst (λ s. After (place s.from) t) (same_Some x n e) o.0
from_one_on (x ∷ xs) zero n t h e (inr o) =
    subst (λ s. After (place s.from) t) (same_Some x n e)
    (after_of_before (place x.from) (place x.to) t (rises x) (rest_after (place x.to) xs t h.1 h.0 o))
from_one_on (x ∷ xs) (suc at) n t h e o = from_one_on xs at n t h.1 e o
