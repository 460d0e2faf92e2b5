-- Lists of knots, and what becomes of a signal where its end is another.
use Rattle.std.proofs.Common.{◌≡◌, ℕ, ◌+◌, ◌<◌, ◌⊎◌, inl, inr, List, [], ◌∷◌, ◌++◌, length, get_or, set, take, refl, sym, ◌∙◌, ap, subst, arith, length-append}
use Rattle.std.proofs.lemmas.List.{take_more, take_all, get_or_at, set_at, append_assoc}
use Rattle.rational.specs.Time.{Rational, ◌<ʳ◌}
use Rattle.rational.specs.Extended.{Extended}
use Rattle.frac128.specs.Value.{value}
use Rattle.value_laws.specs.Members.{ShapeOf}
use Rattle.pl_signal.specs.declared.knot.Knot.{Knot}
use Rattle.pl_signal.specs.Knots.{start, stop, HasShape, Each, IsInGap, IsWorth, IsKnot}

-- a list up to an element, with it
pub split_at : {X : Type 0} (xs : List X) (n : ℕ) (d : X) → length xs ≡ n + 1 → xs ≡ take n xs ++ get_or xs n d ∷ []
split_at xs n d h = sym (take_all (n + 1) xs (omega (arith, h))) ∙ take_more xs n d (omega (arith, h))

-- the last two elements of a list, and those before
pub split_two : {X : Type 0} (xs : List X) (n : ℕ) (d e : X) → length xs ≡ n + 2 → d ≡ get_or xs n d → e ≡ get_or xs (n + 1) e → xs ≡ take n xs ++ d ∷ e ∷ []
split_two xs n d e h f g =
    split_at xs (n + 1) e (omega (arith, h)) ∙ ap (λ l. take (n + 1) xs ++ l ∷ []) (sym g) ∙ ap (λ ys. ys ++ e ∷ []) (take_more xs n d (omega (arith, h)))
    ∙ ap (λ x. (take n xs ++ x ∷ []) ++ e ∷ []) (sym f) ∙ append_assoc (take n xs) (d ∷ []) (e ∷ [])

-- what is read at a place, by the place written another way
pub read_at : {X : Type 0} (xs : List X) {n m : ℕ} {x : X} → n ≡ m → x ≡ get_or xs n x → x ≡ get_or xs m x
read_at xs {x = x} e h = h ∙ ap (λ i. get_or xs i x) e

-- what stands in the last place but one after a push, and what becomes of it
pub appended : {P : Type 0} (front : List (Knot P)) (last end l : Knot P) (after : P) (old new : List (Knot P)) (n : ℕ) → old ≡ front ++ last ∷ []
    → new ≡ old ++ end ∷ []
    → n + 1 ≡ length old → l ≡ get_or new n l
    → set new n (record { time = l.time; point = l.point; after = after }) ≡ front ++ record { time = last.time; point = last.point; after = after } ∷ end ∷ []
appended {P} front last end l after old new n e pushed count read =
    ap (λ k. set new n (record { time = k.time; point = k.point; after = after })) is_last ∙ ap
    (λ ks. set ks n (record { time = last.time; point = last.point; after = after })) new_is
    ∙ set_at front last (end ∷ []) (record { time = last.time; point = last.point; after = after }) n place
  where
    new_is : new ≡ front ++ last ∷ end ∷ []
    new_is = pushed ∙ ap (λ ks. ks ++ end ∷ []) e ∙ append_assoc front (last ∷ []) (end ∷ [])

    place : length front ≡ n
    place = let h : length old ≡ length (front ++ last ∷ []) = ap (λ ks. length ks) e in omega (arith, h, count, length-append front (last ∷ []))

    is_last : l ≡ last
    is_last = read ∙ ap (λ ks. get_or ks n l) new_is ∙ get_or_at front last (end ∷ []) l n place

module _ {P : Type 0} where
  -- a list with a knot at its end is not empty
  pub some_in_end : (xs : List (Knot P)) (a : Knot P) (ks : List (Knot P)) → 0 < length (xs ++ a ∷ ks)
  some_in_end xs a ks = omega (arith, length-append xs (a ∷ ks))

  -- another end with a first knot at the same time keeps the start
  pub start_kept : (xs : List (Knot P)) (a b : Knot P) (ks ls : List (Knot P)) → a.time ≡ b.time → start (xs ++ a ∷ ks) ≡ start (xs ++ b ∷ ls)
  start_kept [] a b ks ls e = ap value e
  start_kept (x ∷ xs) a b ks ls e = refl

  -- the stop is that of the end
  pub stop_end : (xs : List (Knot P)) (a : Knot P) (ks : List (Knot P)) → stop (xs ++ a ∷ ks) ≡ stop (a ∷ ks)
  stop_end [] a ks = refl
  stop_end (x ∷ []) a ks = refl
  stop_end (x ∷ y ∷ xs) a ks = stop_end (y ∷ xs) a ks

  -- the time of the last knot by its place
  pub stop_read : (ks : List (Knot P)) (n : ℕ) (l : Knot P) → length ks ≡ n + 1 → l ≡ get_or ks n l → value l.time ≡ stop ks
  stop_read ks n l h read =
      sym (ap (λ xs. stop xs) (split_at ks n l h ∙ ap (λ k. take n ks ++ k ∷ []) (sym read)) ∙ stop_end (take n ks) l [])

  -- a shape of joined lists is of one of them
  pub shape_in : (xs ks : List (Knot P)) (p : P) → HasShape (xs ++ ks) p → HasShape xs p ⊎ HasShape ks p
  shape_in [] ks p h = inr h
  shape_in (x ∷ xs) ks p (inl h) = inl (inl h)
  shape_in (x ∷ xs) ks p (inr (inl h)) = inl (inr (inl h))
  shape_in (x ∷ xs) ks p (inr (inr h)) = elim (shape_in xs ks p h) [ inl k ↦ inl (inr (inr k)) | inr k ↦ inr k ]

  -- a shape of the first is one of both
  pub shape_front : (xs ks : List (Knot P)) (p : P) → HasShape xs p → HasShape (xs ++ ks) p
  shape_front [] ks p h = absurd h
  shape_front (x ∷ xs) ks p (inl h) = inl h
  shape_front (x ∷ xs) ks p (inr (inl h)) = inr (inl h)
  shape_front (x ∷ xs) ks p (inr (inr h)) = inr (inr (shape_front xs ks p h))

  -- and so is one of the second
  pub shape_end : (xs ks : List (Knot P)) (p : P) → HasShape ks p → HasShape (xs ++ ks) p
  shape_end [] ks p h = h
  shape_end (x ∷ xs) ks p h = inr (inr (shape_end xs ks p h))

  -- what holds of each knot holds of those at the end
  pub each_end : (Q : Knot P → List (Knot P) → Type 0) (xs ks : List (Knot P)) → Each Q (xs ++ ks) → Each Q ks
  each_end Q [] ks h = h
  each_end Q (x ∷ xs) ks h = each_end Q xs ks h.1

module _ {P : Type 0} (shape : ShapeOf P) where
  -- the knots before one that both lists have stay in their places
  pub replaced_end : (xs : List (Knot P)) (p a b : Knot P) (ks ls : List (Knot P)) → Each (IsKnot shape) (xs ++ p ∷ a ∷ ks) → Each (IsKnot shape) (p ∷ b ∷ ls)
      → Each (IsKnot shape) (xs ++ p ∷ b ∷ ls)
  replaced_end [] p a b ks ls h k = k
  replaced_end (x ∷ []) p a b ks ls (h, hs) k = (record { rising = h.rising; needed = h.needed; ends = tt }, k)
  replaced_end (x ∷ y ∷ []) p a b ks ls (h, hs) k = (record { rising = h.rising; needed = h.needed; ends = tt }, replaced_end (y ∷ []) p a b ks ls hs k)
  replaced_end (x ∷ y ∷ z ∷ xs) p a b ks ls (h, hs) k = (record { rising = h.rising; needed = h.needed; ends = tt }, replaced_end (y ∷ z ∷ xs) p a b ks ls hs k)

  -- a value in the first gap stays, where the end is another
  pub gap_kept : (x : Knot P) (xs : List (Knot P)) (a b : Knot P) (ks ls : List (Knot P)) (t : Rational) (v : Extended) → a.time ≡ b.time
      → IsInGap shape x (xs ++ a ∷ ks) t v → IsInGap shape x (xs ++ b ∷ ls) t v
  gap_kept x [] a b ks ls t v e h = record { after = h.after; before = subst (λ w. t <ʳ value w) e h.before; worth = h.worth }
  gap_kept x (y ∷ xs) a b ks ls t v e h = h

  -- a value is of the knots before, which both lists have, or of those at the end
  pub worth_in : (xs : List (Knot P)) (a b : Knot P) (ks ls : List (Knot P)) (t : Rational) (v : Extended) → a.time ≡ b.time
      → IsWorth shape (xs ++ a ∷ ks) t v → IsWorth shape (xs ++ b ∷ ls) t v ⊎ IsWorth shape (a ∷ ks) t v
  worth_in [] a b ks ls t v e h = inr h
  worth_in (x ∷ xs) a b ks ls t v e (inl h) = inl (inl h)
  worth_in (x ∷ xs) a b ks ls t v e (inr (inl h)) = inl (inr (inl (gap_kept x xs a b ks ls t v e h)))
  worth_in (x ∷ xs) a b ks ls t v e (inr (inr h)) = elim (worth_in xs a b ks ls t v e h) [ inl k ↦ inl (inr (inr k)) | inr k ↦ inr k ]

  -- what the end is worth, both lists are
  pub worth_end : (xs ks : List (Knot P)) (t : Rational) (v : Extended) → IsWorth shape ks t v → IsWorth shape (xs ++ ks) t v
  worth_end [] ks t v h = h
  worth_end (x ∷ xs) ks t v h = inr (inr (worth_end xs ks t v h))
