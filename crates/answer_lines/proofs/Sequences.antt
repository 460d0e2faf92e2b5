-- Texts for each item of a list, one after another.
use Rattle.std.proofs.Common.{◌≡◌, ℕ, suc, zero, ◌<◌, ◌≤◌, List, [], ◌∷◌, ◌++◌, length, take, drop}
use Rattle.std.proofs.Common.{append-nil, append_assoc, refl, sym, ap, ◌∙◌, subst, arith, Some, length-take}
use Rattle.std.specs.Prelude.{slice_get}
use Rattle.std.proofs.lemmas.List.{drop_all, take-append-drop, take-take, drop-append-le, take_all, length-take-le}
use Rattle.std.proofs.lemmas.Option.{same_Some}
use Rattle.answer_lines.specs.Appended.{Grew, GrewInPart, AreEach}
use Rattle.answer_lines.specs.Steps.{between}
use Rattle.answer_lines.proofs.Growths as growth

module _ {X : Type 0} where
  -- a place where there is an item is inside
  pub place_inside : (xs : List X) (i : ℕ) (x : X) → slice_get xs i ≡ Some x → i < length xs
  place_inside [] i x h = absurd (let e = h in cc)
  place_inside (y ∷ xs) zero x h = omega arith
  place_inside (y ∷ xs) (suc i) x h = omega (arith, place_inside xs i x h)

  -- one item more from the front
  pub take_at : (xs : List X) (i : ℕ) (x : X) → slice_get xs i ≡ Some x → take (suc i) xs ≡ take i xs ++ x ∷ []
  take_at [] i x h = absurd (let e = h in cc)
  take_at (y ∷ xs) zero x h = ap (λ z. z ∷ []) (same_Some _ _ h)
  take_at (y ∷ xs) (suc i) x h = ap (λ zs. y ∷ zs) (take_at xs i x h)

  -- nothing is between a place and itself
  pub between_none : (i : ℕ) (xs : List X) → between i i xs ≡ []
  between_none i xs = drop_all i (take i xs) (omega (arith, length-take i xs))

  -- one item more
  pub between_more : (from i : ℕ) (xs : List X) (x : X) → from ≤ i → slice_get xs i ≡ Some x → between from (suc i) xs ≡ between from i xs ++ x ∷ []
  between_more from i xs x order at =
      let inside = place_inside xs i x at in
      ap (drop from) (take_at xs i x at) ∙ drop-append-le from (take i xs) (x ∷ []) (omega (arith, length-take-le i xs (omega arith)))

  -- what comes before a place, and then what is between it and another
  pub take_between : (from to : ℕ) (xs : List X) → from ≤ to → take from xs ++ between from to xs ≡ take to xs
  take_between from to xs order = ap (λ ys. ys ++ between from to xs) (sym (take-take from to xs order)) ∙ take-append-drop from (take to xs)

module _ {X : Type 0} (P : X → List ℕ → Type 0) where
  -- the texts of two lists
  pub each_join : (xs ys : List X) (t u : List ℕ) → AreEach P xs t → AreEach P ys u → AreEach P (xs ++ ys) (t ++ u)
  each_join [] ys t u h k = subst (AreEach P ys) (ap (λ w. w ++ u) (sym h)) k
  each_join (x ∷ xs) ys t u (here, later, p, h, e) k = (here, later ++ u, p, each_join xs ys later u h k, ap (λ w. w ++ u) e ∙ append_assoc here later u)

  -- the text of one item
  pub each_one : (x : X) (t : List ℕ) → P x t → AreEach P (x ∷ []) t
  each_one x t h = (t, [], h, refl, sym (append-nil t))

  -- each item has a text
  pub each_exist : ((x : X) → growth.Some (P x)) → (xs : List X) → growth.Some (AreEach P xs)
  each_exist exist [] = ([], refl)
  each_exist exist (x ∷ xs) =
      let here = exist x in
      let later = each_exist exist xs in
      (here.0 ++ later.0, (here.0, later.0, here.1, later.1, refl))

  -- the text grew by one list, and then by another
  pub each_grow : (xs ys : List X) (old mid new : List ℕ) → Grew (AreEach P xs) old mid → Grew (AreEach P ys) mid new → Grew (AreEach P (xs ++ ys)) old new
  each_grow xs ys old mid new (t, h, e) (u, k, f) = (t ++ u, each_join xs ys t u h k, f ∙ ap (λ w. w ++ u) e ∙ append_assoc old t u)

  -- a cut in the texts of the first list is one in those of both, where the second has texts
  pub each_cut_first : (xs ys : List X) (old new : List ℕ) → GrewInPart (AreEach P xs) old new → growth.Some (AreEach P ys)
      → GrewInPart (AreEach P (xs ++ ys)) old new
  each_cut_first xs ys old new (a, rest, h, e) (more, k) =
      (a, rest ++ more, subst (AreEach P (xs ++ ys)) (append_assoc a rest more) (each_join xs ys (a ++ rest) more h k), e)

  -- and so is one in the texts of the second, where those of the first are written
  pub each_cut_second : (xs ys : List X) (old mid new : List ℕ) → Grew (AreEach P xs) old mid → GrewInPart (AreEach P ys) mid new
      → GrewInPart (AreEach P (xs ++ ys)) old new
  each_cut_second xs ys old mid new (t, h, e) (a, rest, k, f) = (
    t ++ a,
    rest,
    subst (AreEach P (xs ++ ys)) (sym (append_assoc t a rest)) (each_join xs ys t (a ++ rest) h k),
    f ∙ ap (λ w. w ++ a) e ∙ append_assoc old t a,
  )

  -- by the items before a place, and by those between it and another
  pub each_between : (from to : ℕ) (xs : List X) (old mid new : List ℕ) → from ≤ to → Grew (AreEach P (take from xs)) old mid
      → Grew (AreEach P (between from to xs)) mid new → Grew (AreEach P (take to xs)) old new
  each_between from to xs old mid new order h k =
      subst (λ ys. Grew (AreEach P ys) old new) (take_between from to xs order) (each_grow (take from xs) (between from to xs) old mid new h k)

  -- by the items before a place, and by the next
  pub each_more : (i : ℕ) (xs : List X) (x : X) (old mid new : List ℕ) → slice_get xs i ≡ Some x → Grew (AreEach P (take i xs)) old mid
      → Grew (P x) mid new → Grew (AreEach P (take (suc i) xs)) old new
  each_more i xs x old mid new at h (t, p, e) =
      subst (λ ys. Grew (AreEach P ys) old new) (sym (take_at xs i x at)) (each_grow (take i xs) (x ∷ []) old mid new h (t, each_one x t p, e))

  -- what came before a place is a first part of all
  pub each_before : ((x : X) → growth.Some (P x)) → (i : ℕ) (xs : List X) (old new : List ℕ) → Grew (AreEach P (take i xs)) old new
      → GrewInPart (AreEach P xs) old new
  each_before exist i xs old new (t, h, e) =
      let rest = each_exist exist (drop i xs) in
      (t, rest.0, subst (λ ys. AreEach P ys (t ++ rest.0)) (take-append-drop i xs) (each_join (take i xs) (drop i xs) t rest.0 h rest.1), e)

  -- and so is that with a part of the next
  pub each_part : ((x : X) → growth.Some (P x)) → (i : ℕ) (xs : List X) (x : X) (old mid new : List ℕ) → slice_get xs i ≡ Some x
      → Grew (AreEach P (take i xs)) old mid → GrewInPart (P x) mid new → GrewInPart (AreEach P xs) old new
  each_part exist i xs x old mid new at (t, h, e) (a, b, p, f) =
      let rest = each_exist exist (drop (suc i) xs) in
      let front : AreEach P (take (suc i) xs) (t ++ (a ++ b)) =
      subst (λ ys. AreEach P ys (t ++ (a ++ b))) (sym (take_at xs i x at)) (each_join (take i xs) (x ∷ []) t (a ++ b) h (each_one x (a ++ b) p)) in
      let all : AreEach P xs ((t ++ (a ++ b)) ++ rest.0) =
      subst (λ ys. AreEach P ys ((t ++ (a ++ b)) ++ rest.0)) (take-append-drop (suc i) xs)
      (each_join (take (suc i) xs) (drop (suc i) xs) (t ++ (a ++ b)) rest.0 front rest.1) in
      (t ++ a, b ++ rest.0, subst (AreEach P xs) (parts t a b rest.0) all, f ∙ ap (λ w. w ++ a) e ∙ append_assoc old t a)
    where
      parts : (t a b r : List ℕ) → (t ++ (a ++ b)) ++ r ≡ (t ++ a) ++ (b ++ r)
      parts t a b r = simp append_assoc

  -- all of them
  pub each_all : (n : ℕ) (xs : List X) (old new : List ℕ) → length xs ≤ n → Grew (AreEach P (take n xs)) old new → Grew (AreEach P xs) old new
  each_all n xs old new few h = subst (λ ys. Grew (AreEach P ys) old new) (take_all n xs few) h

  -- none of them
  pub each_none : (xs : List X) (old : List ℕ) → Grew (AreEach P (take 0 xs)) old old
  each_none xs old = ([], refl, sym (append-nil old))
