-- What a set has of those stretches of a list that have a time between two places, as they are added one after another.
use Rattle.std.proofs.Common.{◌⊎◌, inl, inr, ℕ, zero, suc, List, [], ◌∷◌, take, drop}
use Rattle.rational.specs.Time.{Rational}
use Rattle.rational.specs.Places.{Place, After, Upto}
use Rattle.growing_sets.specs.Spans.{Lies, AreTidy, BeginsAfter, EndBefore}
use Rattle.growing_sets.specs.Growing.{Adds}
use Rattle.growing_sets.specs.Steps.{BySome, Common}
use Rattle.growing_sets.specs.declared.stretch.Stretch.{Stretch}
use Rattle.growing_sets.specs.declared.grown.Grown.{Grown}
use Rattle.rational.proofs.PlaceLemmas.{not_both}
use Rattle.growing_sets.proofs.AddLemmas.{adds_none, adds_alike}
use Rattle.growing_sets.proofs.SpanLemmas.{front_upto, rest_after, tidy_drop}
use Rattle.growing_sets.proofs.RunLemmas.{on_one, one_of}
use Rattle.growing_sets.proofs.SetLaws.{by_some, some_by}

-- what one of the first gives, one of all gives
pub by_front : (Q : Stretch → Rational → Type 0) (xs : List Stretch) (at : ℕ) (t : Rational) → BySome Q (take at xs) t → BySome Q xs t
by_front Q xs zero t h = absurd h
by_front Q [] (suc at) t h = absurd h
by_front Q (x ∷ xs) (suc at) t (inl h) = inl h
by_front Q (x ∷ xs) (suc at) t (inr h) = inr (by_front Q xs at t h)

-- what one of some stretches says one of the first says, or one of the others
pub by_parts : (Q : Stretch → Rational → Type 0) (xs : List Stretch) (at : ℕ) (t : Rational) → BySome Q xs t
    → BySome Q (take at xs) t ⊎ BySome Q (drop at xs) t
by_parts Q xs zero t h = inr h
by_parts Q [] (suc at) t h = absurd h
by_parts Q (x ∷ xs) (suc at) t (inl h) = inl (inl h)
by_parts Q (x ∷ xs) (suc at) t (inr h) = elim (by_parts Q xs at t h) [ inl k ↦ inl (inr k) | inr k ↦ inr k ]

module _ (Q : Stretch → Rational → Type 0) (from to : Place) (spans : List Stretch) (at : ℕ)
    (meets : (s : Stretch) (t : Rational) → Q s t → (u : Rational) × (Lies s u × After from u × Upto to u)) where
  -- none of those that end before the one place has such a time
  pub between_first : (own : Grown) → AreTidy own.spans.items → EndBefore from (take at spans) → Adds own own (BySome Q (take at spans))
  between_first own tidy front = adds_none (BySome Q (take at spans)) tidy (λ t b h.
      let s = some_by Q (take at spans) t h in
      let u = meets s.0 t s.2 in
      not_both from u.0 (front_upto from (take at spans) u.0 front (on_one (take at spans) s.0 u.0 s.1 u.1.0)) u.1.1)

  -- nor does one of those that begin after the other
  pub between_last : {old new : Grown} → AreTidy spans → BeginsAfter to (drop at spans) → Adds old new (BySome Q (take at spans))
      → Adds old new (BySome Q spans)
  between_last tidy b a = adds_alike a (λ t l h. by_front Q spans at t h)
      (λ t l h. elim (by_parts Q spans at t h) [
        | inl k ↦ k
        | inr k ↦
            let s = some_by Q (drop at spans) t k in
            let u = meets s.0 t s.2 in
            absurd (not_both to u.0 u.1.2 (rest_after to (drop at spans) u.0 (tidy_drop spans at tidy) b (on_one (drop at spans) s.0 u.0 s.1 u.1.0)))
      ])

-- a time of the part that the stretch has too
abbrev pub Shares : Stretch → Stretch → Rational → Type 0
Shares part s t = Lies part t × Lies s t

-- some stretch of a list shares a time with a part exactly where the list has it
pub common_of : (part : Stretch) (spans : List Stretch) (t : Rational) → BySome (Shares part) spans t → Common spans part t
common_of part spans t h = let s = some_by (Shares part) spans t h in (s.2.0, on_one spans s.0 t s.1 s.2.1)

-- and back
pub of_common : (part : Stretch) (spans : List Stretch) (t : Rational) → Common spans part t → BySome (Shares part) spans t
of_common part spans t h = let s = one_of spans t h.1 in by_some (Shares part) spans s.0 t s.1 (h.0, s.2)
