-- Whether items cover a time can be told, so a trace with items gives each atom just one value.
use Rattle.std.proofs.Common.{◌≡◌, ℕ, ◌⊎◌, inl, inr, Bool, true, false, List, [], ◌∷◌, sym, ◌∙◌, refl, ◌<◌, arith}
use Rattle.std.proofs.lemmas.Bool.{cases_order}
use Rattle.rational.specs.Rational.{Rational}
use Rattle.rational.specs.Time.{Precedes, Interval, IsIn}
use Rattle.rational.specs.Extended.{Extended}
use Rattle.rational.proofs.Order.{le_or_lt, not_lt_of_le}
use Rattle.rational.proofs.AffineLemmas.{same_reflᵉ}
use Rattle.rational.proofs.ExtendedLemmas.{le_transᵉ}
use Rattle.frac128.specs.Spans.{interval}
use Rattle.stl_syntax.specs.Trace.{Trace}
use Rattle.stl_syntax.specs.Truth.{holds_at}
use Rattle.stl_syntax.specs.Kleene.{IsCovered}
use Rattle.stl_syntax.specs.SupInf.{certainties, Gives, one, minus_one, zero_value}
use Rattle.stl_syntax.specs.declared.atom.Atom.{Atom}
use Rattle.stl_syntax.specs.declared.items.Item.{Item}
use Rattle.stl_syntax.proofs.SupInfLemmas.{GivesOne}

told_order : (b : Bool) (t u : Rational) → Precedes b t u ⊎ (¬ Precedes b t u)
told_order true t u = elim (le_or_lt t u) [ inl l ↦ inl l | inr l ↦ inr (λ h. not_lt_of_le h l) ]
told_order false t u = elim (le_or_lt u t) [ inl l ↦ inr (λ h. not_lt_of_le l h) | inr l ↦ inl l ]

told_inside : (on : Interval) (t : Rational) → IsIn on t ⊎ (¬ IsIn on t)
told_inside on t = by_ends (told_order on.from_in on.from t) (told_order on.to_in t on.to)
  where
    by_ends : Precedes on.from_in on.from t ⊎ (¬ Precedes on.from_in on.from t) → Precedes on.to_in t on.to ⊎ (¬ Precedes on.to_in t on.to)
        → IsIn on t ⊎ (¬ IsIn on t)
    by_ends (inl h) (inl k) = inl (record { above = h; below = k })
    by_ends (inl h) (inr k) = inr (λ m. k m.below)
    by_ends (inr h) k = inr (λ m. h m.above)

-- whether some item covers a time is decided
pub told_covered : (items : List Item) (i : ℕ) (t : Rational) → IsCovered items i t ⊎ (¬ IsCovered items i t)
told_covered [] i t = inr (λ h. h)
told_covered (e ∷ items) i t = by_first (cases_order e.node i) (told_inside (interval e.on) t) (told_covered items i t)
  where
    by_first : (e.node ≡ i) ⊎ ((e.node < i) ⊎ (i < e.node)) → IsIn (interval e.on) t ⊎ (¬ IsIn (interval e.on) t)
        → IsCovered items i t ⊎ (¬ IsCovered items i t)
        → IsCovered (e ∷ items) i t ⊎ (¬ IsCovered (e ∷ items) i t)
    by_first d m (inl h) = inl (inr h)
    by_first (inl s) (inl m) (inr h) = inl (inl (s, m))
    by_first (inl s) (inr m) (inr h) = inr (λ c. elim c [ inl k ↦ m k.1 | inr k ↦ h k ])
    by_first (inr l) m (inr h) = inr (λ c. elim c [ inl k ↦ elim l [ inl x ↦ omega (arith, k.0) | inr x ↦ omega (arith, k.0) ] | inr k ↦ h k ])

-- a trace with items gives each atom a value at each time
pub certainties_give : (tr : Trace) (items : List Item) (i : ℕ) (a : Atom) (t : Rational) → (r : Extended) × Gives (certainties tr items) i a t r
certainties_give tr items i a t = by_test (holds_at a tr t) refl (told_covered items i t)
  where
    by_test : (b : Bool) → holds_at a tr t ≡ b → IsCovered items i t ⊎ (¬ IsCovered items i t) → (r : Extended) × Gives (certainties tr items) i a t r
    by_test b e (inr n) = (zero_value, inr (inr (n, same_reflᵉ zero_value)))
    by_test true e (inl c) = (one, inl (e, c, same_reflᵉ one))
    by_test false e (inl c) = (minus_one, inr (inl (e, c, same_reflᵉ minus_one)))

-- and at most one
pub certainties_give_one : (tr : Trace) (items : List Item) → GivesOne (certainties tr items)
certainties_give_one tr items i a t r r' (inl (h, c, e)) (inl (k, d, f)) = le_transᵉ r one r' e.at_most f.at_least
certainties_give_one tr items i a t r r' (inl (h, c, e)) (inr (inl (k, d, f))) = absurd (let g : true ≡ false = sym h ∙ k in cc)
certainties_give_one tr items i a t r r' (inl (h, c, e)) (inr (inr (n, f))) = absurd (n c)
certainties_give_one tr items i a t r r' (inr (inl (h, c, e))) (inl (k, d, f)) = absurd (let g : true ≡ false = sym k ∙ h in cc)
certainties_give_one tr items i a t r r' (inr (inl (h, c, e))) (inr (inl (k, d, f))) = le_transᵉ r minus_one r' e.at_most f.at_least
certainties_give_one tr items i a t r r' (inr (inl (h, c, e))) (inr (inr (n, f))) = absurd (n c)
certainties_give_one tr items i a t r r' (inr (inr (n, e))) (inl (k, d, f)) = absurd (n d)
certainties_give_one tr items i a t r r' (inr (inr (n, e))) (inr (inl (k, d, f))) = absurd (n d)
certainties_give_one tr items i a t r r' (inr (inr (n, e))) (inr (inr (m, f))) = le_transᵉ r zero_value r' e.at_most f.at_least
