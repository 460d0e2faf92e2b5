-- Places by their order, and the stretches between the earlier and the later of two.
use Rattle.std.proofs.Common.{◌≡◌, ◌⊎◌, inl, inr, subst, sym, ℕ}
use Rattle.rational.specs.Rational.{Rational, IsWithin}
use Rattle.rational.proofs.Order.{le_trans}
use Rattle.rational.specs.Places.{Place, After, Upto, Before, AtMost}
use Rattle.frac128.specs.Cuts.{place}
use Rattle.growing_sets.specs.Spans.{Lies}
use Rattle.frac128.specs.declared.cut.Cut.{Cut}
use Rattle.growing_sets.specs.declared.stretch.Stretch.{Stretch}
use Rattle.rational.proofs.PlaceLemmas.{sides, not_both, before_through, le_of_before, le_of_at_most}

-- what lies after both lies after the one of the two
pub after_one : (a b r : Cut) (t : Rational) → (r ≡ a) ⊎ (r ≡ b) → After (place a) t → After (place b) t → After (place r) t
after_one a b r t (inl e) h k = subst (λ c. After (place c) t) (sym e) h
after_one a b r t (inr e) h k = subst (λ c. After (place c) t) (sym e) k

-- what is up to both is up to the one that was chosen
pub upto_one : (a b r : Cut) (t : Rational) → (r ≡ a) ⊎ (r ≡ b) → Upto (place a) t → Upto (place b) t → Upto (place r) t
upto_one a b r t (inl e) h k = subst (λ c. Upto (place c) t) (sym e) h
upto_one a b r t (inr e) h k = subst (λ c. Upto (place c) t) (sym e) k

-- two places between two that are near are near
pub near_between : (n : ℕ) (f t b e : Place) → AtMost b f → Before f t → AtMost t e → IsWithin n b.at → IsWithin n e.at
    → IsWithin n f.at × IsWithin n t.at
near_between n f t b e low order high near far =
    let l = le_of_at_most b f low in
    let m = le_of_before f t order in
    let h = le_of_at_most t e high in
    ((le_trans near.0 l, le_trans (le_trans m h) far.1), (le_trans near.0 (le_trans l m), le_trans h far.1))

-- between the earlier of two beginnings and the later of two ends there is nothing that neither stretch has, where they meet or touch
pub in_hull : (s r : Stretch) (from to : Cut) (t : Rational) → (from ≡ s.from) ⊎ (from ≡ r.from) → (to ≡ s.to) ⊎ (to ≡ r.to)
    → ¬ (Before (place s.to) (place r.from)) → ¬ (Before (place r.to) (place s.from)) → After (place from) t → Upto (place to) t
    → Lies s t ⊎ Lies r t
in_hull s r from to t f g first second a u = by_from (sides (place s.from) t) (sides (place s.to) t) (sides (place r.from) t) (sides (place r.to) t)
  where
    other_to : (to ≡ s.to) ⊎ (to ≡ r.to) → After (place s.to) t → Upto (place r.to) t
    other_to (inl e) k = absurd (not_both (place s.to) t (subst (λ c. Upto (place c) t) e u) k)
    other_to (inr e) k = subst (λ c. Upto (place c) t) e u

    other_from : (from ≡ s.from) ⊎ (from ≡ r.from) → Upto (place s.from) t → After (place r.from) t
    other_from (inl e) k = absurd (not_both (place s.from) t k (subst (λ c. After (place c) t) e a))
    other_from (inr e) k = subst (λ c. After (place c) t) e a

    by_from : Upto (place s.from) t ⊎ After (place s.from) t → Upto (place s.to) t ⊎ After (place s.to) t
        → Upto (place r.from) t ⊎ After (place r.from) t → Upto (place r.to) t ⊎ After (place r.to) t → Lies s t ⊎ Lies r t
    by_from (inr h) (inl k) x y = inl (h, k)
    by_from (inr h) (inr k) (inr x) y = inr (x, other_to g k)
    by_from (inr h) (inr k) (inl x) y = absurd (first (before_through (place s.to) (place r.from) t k x))
    by_from (inl h) k x (inl y) = inr (other_from f h, y)
    by_from (inl h) k x (inr y) = absurd (second (before_through (place r.to) (place s.from) t y h))
