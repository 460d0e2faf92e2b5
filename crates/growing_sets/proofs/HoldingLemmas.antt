-- Which stretch of a list holds the times just after a place.
use Rattle.std.proofs.Common.{◌≡◌, inl, inr, sym, subst, ◌∙◌, ℕ, zero, suc, List, [], ◌∷◌, Some, take, drop}
use Rattle.std.specs.Prelude.{slice_get}
use Rattle.std.proofs.lemmas.Option.{same_Some}
use Rattle.rational.specs.Places.{Place, Before}
use Rattle.frac128.specs.Cuts.{place}
use Rattle.growing_sets.specs.Spans.{IsAmong, AreTidy, BeginsAfter, EndBefore, NoneEndsBefore}
use Rattle.growing_sets.specs.Steps.{HoldsFrom}
use Rattle.growing_sets.specs.declared.stretch.Stretch.{Stretch}
use Rattle.rational.proofs.PlaceLemmas.{before_trans, at_most_of_not_before, before_of_at_most, not_before_itself}
use Rattle.growing_sets.proofs.SpanLemmas.{no_stretch}
use Rattle.growing_sets.proofs.RunLemmas.{among_after}

-- what stands at a place of a list is one of it
pub among_at : (xs : List Stretch) (at : ℕ) (n : Stretch) → slice_get xs at ≡ Some n → IsAmong n xs
among_at [] at n e = absurd (no_stretch n e)
among_at (x ∷ xs) zero n e = inl (sym (same_Some x n e))
among_at (x ∷ xs) (suc at) n e = inr (among_at xs at n e)

-- none does where those before a place in the list end before it, and the others begin after it
pub none_between : (c : Place) (xs : List Stretch) (at : ℕ) (s : Stretch) → AreTidy xs → EndBefore c (take at xs) → BeginsAfter c (drop at xs) → IsAmong s xs
    → ¬ (HoldsFrom s c)
none_between c xs zero s h f b m k = k.0 (among_after c xs s b h m)
none_between c [] (suc at) s h f b m k = m
none_between c (x ∷ xs) (suc at) s h f b (inl e) k =
    not_before_itself c (before_trans c (place s.to) c k.1 (subst (λ r. Before (place r.to) c) (sym e) f.0))
none_between c (x ∷ xs) (suc at) s h f b (inr m) k = none_between c xs at s h.1 f.1 b m k

-- nor where the first that does not end before it ends there
pub none_at_end : (c : Place) (xs : List Stretch) (at : ℕ) (n s : Stretch) → AreTidy xs → EndBefore c (take at xs) → NoneEndsBefore c (drop at xs)
    → slice_get xs at ≡ Some n → ¬ (Before c (place n.to)) → IsAmong s xs → ¬ (HoldsFrom s c)
none_at_end c [] at n s h f r e o m k = m
none_at_end c (x ∷ xs) zero n s h f r e o (inl i) k = o (subst (λ q. Before c (place q.to)) (i ∙ same_Some x n e) k.1)
none_at_end c (x ∷ xs) zero n s h f r e o (inr m) k =
    k.0 (before_of_at_most c (place x.to) (place s.from) (at_most_of_not_before c (place x.to) r.0) (among_after (place x.to) xs s h.0 h.1 m))
none_at_end c (x ∷ xs) (suc at) n s h f r e o (inl i) k =
    not_before_itself c (before_trans c (place s.to) c k.1 (subst (λ q. Before (place q.to) c) (sym i) f.0))
none_at_end c (x ∷ xs) (suc at) n s h f r e o (inr m) k = none_at_end c xs at n s h.1 f.1 r e o m k

-- only one does
pub one_holds : (c : Place) (xs : List Stretch) (p q : Stretch) → AreTidy xs → IsAmong p xs → IsAmong q xs → HoldsFrom p c → HoldsFrom q c → q ≡ p
one_holds c [] p q h m n k l = absurd m
one_holds c (x ∷ xs) p q h (inl e) (inl f) k l = f ∙ sym e
one_holds c (x ∷ xs) p q h (inl e) (inr n) k l =
    absurd (l.0 (before_trans c (place x.to) (place q.from) (subst (λ s. Before c (place s.to)) e k.1) (among_after (place x.to) xs q h.0 h.1 n)))
one_holds c (x ∷ xs) p q h (inr m) (inl f) k l =
    absurd (k.0 (before_trans c (place x.to) (place p.from) (subst (λ s. Before c (place s.to)) f l.1) (among_after (place x.to) xs p h.0 h.1 m)))
one_holds c (x ∷ xs) p q h (inr m) (inr n) k l = one_holds c xs p q h.1 m n k l
