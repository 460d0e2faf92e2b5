-- Sets at the places of a list: one that is put in the place of another.
use Rattle.std.proofs.Common.{◌≡◌, ◌≢◌, refl, sym, ap, subst, ◌∙◌, ℕ, zero, suc, ◌<◌}
use Rattle.std.proofs.Common.{Option, Some, None, List, [], ◌∷◌, ◌++◌, length, take, drop, get_or, arith}
use Rattle.std.specs.Prelude.{slice_get, slice_set}
use Rattle.std.proofs.lemmas.List.{take-append-le, take_all}
use Rattle.early_verdict.specs.Fitting.{Lists, lists_at, lists_of, nothing}
use Rattle.early_verdict.specs.declared.sets.Sets.{Sets}

-- an element that was read stands there
pub item_at : (xs : List Sets) (i : ℕ) (s : Sets) → i < length xs → s ≡ get_or xs i s → slice_get xs i ≡ Some s
item_at [] i s h e = absurd (omega (arith, h))
item_at (x ∷ xs) zero s h e = ap Some (sym e)
item_at (x ∷ xs) (suc i) s h e = item_at xs i s (omega (arith, h)) e

-- one put in the place of another: what stands there, before it and behind it
unfoldable pub put : List Sets → ℕ → Sets → List Sets
put [] i s = []
put (x ∷ xs) zero s = s ∷ xs
put (x ∷ xs) (suc i) s = x ∷ put xs i s

-- what was put stands at its place
pub put_here : (xs : List Sets) (i : ℕ) (s : Sets) → i < length xs → slice_get (put xs i s) i ≡ Some s
unfolding put
put_here [] i s h = absurd (omega (arith, h))
put_here (x ∷ xs) zero s h = refl
put_here (x ∷ xs) (suc i) s h = put_here xs i s (omega (arith, h))

-- the others stay
pub put_there : (xs : List Sets) (i j : ℕ) (s : Sets) → j ≢ i → slice_get (put xs i s) j ≡ slice_get xs j
unfolding put
put_there (x ∷ xs) zero zero s n = absurd (n refl)
put_there (x ∷ xs) (suc i) (suc j) s n = put_there xs i j s (λ e. n (ap suc e))
put_there _ _ _ s n = refl

-- once one node's sets are put there are as many as before
pub put_count : (xs : List Sets) (i : ℕ) (s : Sets) → length (put xs i s) ≡ length xs
unfolding put
put_count [] i s = refl
put_count (x ∷ xs) zero s = refl
put_count (x ∷ xs) (suc i) s = ap suc (put_count xs i s)

-- parts joined again are the list with one put in
pub put_joined : (xs : List Sets) (i : ℕ) (s : Sets) → i < length xs → take i xs ++ slice_set (drop i xs) 0 s ≡ put xs i s
unfolding put
put_joined [] i s h = absurd (omega (arith, h))
put_joined (x ∷ xs) zero s h = refl
put_joined (x ∷ xs) (suc i) s h = ap (λ l. x ∷ l) (put_joined xs i s (omega (arith, h)))

-- those before a place
pub taken_at : (xs : List Sets) (i p : ℕ) → p < i → slice_get (take i xs) p ≡ slice_get xs p
taken_at xs zero p h = absurd (omega (arith, h))
taken_at [] (suc i) p h = refl
taken_at (x ∷ xs) (suc i) zero h = refl
taken_at (x ∷ xs) (suc i) (suc p) h = taken_at xs i p (omega (arith, h))

-- an item of the first i stands before place i
pub taken_within : (xs : List Sets) (i p : ℕ) (s : Sets) → slice_get (take i xs) p ≡ Some s → p < i
taken_within xs zero p s e = absurd (let f : None ≡ Some s = e in cc)
taken_within [] (suc i) p s e = absurd (let f : None ≡ Some s = e in cc)
taken_within (x ∷ xs) (suc i) zero s e = omega arith
taken_within (x ∷ xs) (suc i) (suc p) s e = let h = taken_within xs i p s e in omega (arith, h)

-- lists at a place by what stands there
abbrev pub lists_in : Option Sets → Lists
lists_in None = nothing
lists_in (Some s) = lists_of s

in_place : (xs : List Sets) (p : ℕ) → lists_at xs p ≡ lists_in (slice_get xs p)
in_place [] p = refl
in_place (x ∷ xs) zero = refl
in_place (x ∷ xs) (suc p) = in_place xs p

-- the same sets have the same lists
pub lists_by : (xs ys : List Sets) (p : ℕ) → slice_get xs p ≡ slice_get ys p → lists_at xs p ≡ lists_at ys p
lists_by xs ys p e = in_place xs p ∙ ap lists_in e ∙ sym (in_place ys p)

-- what is written back of as many items is these
pub written : {X : Type 0} (new items : List X) (len : ℕ) → length new ≡ len → new ≡ take len (new ++ drop (length new) items)
written new items len e = subst (λ k. new ≡ take k (new ++ drop (length new) items)) e
    (sym (take-append-le (length new) new (drop (length new) items) (omega arith) ∙ take_all (length new) new (omega arith)))
