-- Facts on lists, options and results that the kit's std does not have.
use Rattle.std.proofs.Common.{◌≡◌, ◌≢◌, ℕ, zero, suc, ◌+◌, ◌-◌, ◌<◌, ◌⊎◌, inl, inr, true, List, [], ◌∷◌, ◌++◌, length, take, drop, set}
use Rattle.std.proofs.Common.{Option, Some, None, Result, Ok, Err, arith, refl, sym, ap, ◌∙◌}
use Rattle.std.specs.Prelude.{slice_get, IsSome, OnOk, OnErr, ◌==◌, slice_index_or}
use Rattle.std.proofs.lemmas.Bool.{eqb-true, false≢true}
use Rattle.std.proofs.lemmas.List.{take_more, take_all, length-drop}
use Rattle.std.proofs.lemmas.Option.{none-some, same_Some, slice_get_within, get_or_from_slice_get}
use Rattle.std.proofs.Math.Seq.{take-length}

-- a list has an element at each place before its end
pub slice_get_there : {X : Type 0} (xs : List X) (i : ℕ) → i < length xs → (x : X) × (slice_get xs i ≡ Some x)
slice_get_there [] i h = absurd (omega (arith, h))
slice_get_there (x ∷ xs) zero h = (x, refl)
slice_get_there (x ∷ xs) (suc i) h = slice_get_there xs i (omega (arith, h))

-- a list that has no first element is empty
pub empty_of_none : {X : Type 0} (xs : List X) → slice_get xs 0 ≡ None → xs ≡ []
empty_of_none [] none = refl
empty_of_none (x ∷ xs) none = absurd (none-some x (sym none))

-- a list whose length comes out as none is empty
pub empty_of_test : {X : Type 0} (xs : List X) → (length xs == 0) ≡ true → xs ≡ []
empty_of_test [] h = refl
empty_of_test (x ∷ xs) h = absurd (let e : suc (length xs) ≡ 0 = eqb-true (suc (length xs)) 0 h in omega (arith, e))

-- a list that is not empty at its end is not empty
pub append_some : {X : Type 0} (xs ys : List X) → ys ≢ [] → xs ++ ys ≡ [] → ⊥
append_some [] ys h e = h e
append_some (x ∷ xs) ys h e = cc

-- the elements of the front stay at their places
pub slice_get-append_front : {X : Type 0} (xs ys : List X) (i : ℕ) → i < length xs → slice_get (xs ++ ys) i ≡ slice_get xs i
slice_get-append_front [] ys i h = absurd (omega (arith, h))
slice_get-append_front (x ∷ xs) ys zero h = refl
slice_get-append_front (x ∷ xs) ys (suc i) h = slice_get-append_front xs ys i (omega (arith, h))

-- an element stays at its place when others come behind it
pub slice_get-append_left : {X : Type 0} (xs ys : List X) (i : ℕ) (x : X) → slice_get xs i ≡ Some x → slice_get (xs ++ ys) i ≡ Some x
slice_get-append_left xs ys i x e = slice_get-append_front xs ys i (slice_get_within xs i x e) ∙ e

-- the elements of the back stand behind the front
pub slice_get-append_right : {X : Type 0} (xs ys : List X) (k : ℕ) → slice_get (xs ++ ys) (length xs + k) ≡ slice_get ys k
slice_get-append_right [] ys k = let e : 0 + k ≡ k = omega arith in ap (slice_get ys) e
slice_get-append_right (x ∷ xs) ys k =
    let e : suc (length xs) + k ≡ suc (length xs + k) = omega arith in ap (slice_get (x ∷ (xs ++ ys))) e ∙ slice_get-append_right xs ys k

-- the element between a front and a back
pub slice_get-append_here : {X : Type 0} (xs : List X) (x : X) (ys : List X) → slice_get (xs ++ x ∷ ys) (length xs) ≡ Some x
slice_get-append_here [] x ys = refl
slice_get-append_here (y ∷ xs) x ys = slice_get-append_here xs x ys

-- an element of a list with one more is one of the list or the one
pub slice_get-push_cases : {X : Type 0} (xs : List X) (y : X) (i : ℕ) (x : X) → slice_get (xs ++ y ∷ []) i ≡ Some x
    → (slice_get xs i ≡ Some x) ⊎ ((i ≡ length xs) × (x ≡ y))
slice_get-push_cases [] y zero x e = inr (refl, sym (same_Some y x e))
slice_get-push_cases [] y (suc i) x e = absurd (none-some x e)
slice_get-push_cases (z ∷ xs) y zero x e = inl e
slice_get-push_cases (z ∷ xs) y (suc i) x e = elim (slice_get-push_cases xs y i x e) [ inl k ↦ inl k | inr k ↦ inr (ap suc k.0, k.1) ]

-- what was written at a place stands there
pub slice_get-set_same : {X : Type 0} (xs : List X) (i : ℕ) (x : X) → i < length xs → slice_get (set xs i x) i ≡ Some x
slice_get-set_same [] i x h = absurd (omega (arith, h))
slice_get-set_same (y ∷ xs) zero x h = refl
slice_get-set_same (y ∷ xs) (suc i) x h = slice_get-set_same xs i x (omega (arith, h))

-- and at other places what stood there
pub slice_get-set_other : {X : Type 0} (xs : List X) (i j : ℕ) (x : X) → j ≢ i → slice_get (set xs i x) j ≡ slice_get xs j
slice_get-set_other (y ∷ xs) zero zero x n = absurd (n refl)
slice_get-set_other (y ∷ xs) (suc i) (suc j) x n = slice_get-set_other xs i j x (λ e. n (ap suc e))
slice_get-set_other _ _ _ x n = refl

-- a list without its front, by place
pub slice_get-drop : {X : Type 0} (n : ℕ) (xs : List X) (k : ℕ) → slice_get (drop n xs) k ≡ slice_get xs (n + k)
slice_get-drop zero xs k = let e : k ≡ 0 + k = omega arith in ap (slice_get xs) e
slice_get-drop (suc n) [] k = refl
slice_get-drop (suc n) (x ∷ xs) k = let e : suc (n + k) ≡ suc n + k = omega arith in slice_get-drop n xs k ∙ ap (slice_get (x ∷ xs)) e

-- nothing is dropped of nothing
pub drop_none : {X : Type 0} (n : ℕ) (xs : List X) → xs ≡ [] → drop n xs ≡ []
drop_none zero xs e = e
drop_none (suc n) [] e = refl
drop_none (suc n) (x ∷ xs) e = absurd (let f = e in cc)

-- the front up to an element, and the element
pub take_on : {X : Type 0} (xs : List X) (i : ℕ) (x : X) → slice_get xs i ≡ Some x → take (i + 1) xs ≡ take i xs ++ x ∷ []
take_on xs i x h = take_more xs i x (slice_get_within xs i x h) ∙ ap (λ y. take i xs ++ y ∷ []) (get_or_from_slice_get xs i x x h)

-- a list from an element on
pub drop_on : {X : Type 0} (xs : List X) (i : ℕ) (x : X) → slice_get xs i ≡ Some x → drop i xs ≡ x ∷ drop (suc i) xs
drop_on [] i x e = absurd (none-some x e)
drop_on (y ∷ xs) zero x e = ap (λ z. z ∷ xs) (same_Some y x e)
drop_on (y ∷ xs) (suc i) x e = drop_on xs i x e

-- a list apart from its last element
pub last_apart : {X : Type 0} (xs : List X) (n : ℕ) (x : X) → n ≡ length xs → 0 < n → x ≡ slice_index_or xs (n - 1) x → xs ≡ take (n - 1) xs ++ x ∷ []
last_apart xs n x e some at =
    let back : n - 1 + 1 ≡ length xs = omega (arith, e, some) in
    let all : take (n - 1 + 1) xs ≡ xs = ap (λ m. take m xs) back ∙ take-length xs in
    let more : take (n - 1 + 1) xs ≡ take (n - 1) xs ++ slice_index_or xs (n - 1) x ∷ [] = take_more xs (n - 1) x (omega (arith, e, some)) in
    sym all ∙ more ∙ ap (λ y. take (n - 1) xs ++ y ∷ []) (sym at)

-- all from a place on
pub take_rest : {X : Type 0} (xs : List X) (n : ℕ) → take (length xs - n) (drop n xs) ≡ drop n xs
take_rest xs n = take_all (length xs - n) (drop n xs) (omega (arith, length-drop n xs))

-- an option that has something, with what it has
pub some_of : {X : Type 0} (o : Option X) → IsSome o → (x : X) × (o ≡ Some x)
some_of None h = absurd (false≢true h)
some_of (Some x) h = (x, refl)

-- what holds anyway holds where a result is good
pub on_ok_anyway : {T E A : Type 0} (r : Result T E) → A → OnOk r A
on_ok_anyway (Ok x) a = a
on_ok_anyway (Err e) a = tt

-- what holds anyway holds where a result is bad
pub on_err_anyway : {T E A : Type 0} (r : Result T E) → A → OnErr r A
on_err_anyway (Ok x) a = tt
on_err_anyway (Err e) a = a
