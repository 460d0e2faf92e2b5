-- Chains of pieces: joined lists of them, and that a chain has one value at each time between its ends.
use Rattle.std.proofs.Common.{◌≡◌, ◌⊎◌, inl, inr, List, [], ◌∷◌, ◌++◌, refl}
use Rattle.rational.specs.Time.{Rational, ◌≈◌}
use Rattle.rational.specs.Extended.{Extended, Affine, ◌≈ᵉ◌, Passes, value_at}
use Rattle.rational.specs.Places.{Place, After, Upto, AtMost}
use Rattle.rational.proofs.AffineLemmas.{same_reflᵉ, value_same}
use Rattle.rational.proofs.Sames.{symᵉ, transᵉ}
use Rattle.rational.proofs.PlaceLemmas.{sides, not_both, upto_of_before, after_of_before}
use Rattle.value_laws.specs.Members.{ShapeOf}
use Rattle.pieces.specs.declared.piece.Piece.{Piece}
use Rattle.pieces.specs.Chains.{end, stop_from, HasShapeIn, Rise, IsWorthFrom}
use Rattle.pieces.proofs.Ends.{after_time_same, upto_time_same}

module _ {P : Type 0} where
  -- where joined lists end
  pub stop_append : (c : Place) (xs ys : List (Piece P)) → stop_from c (xs ++ ys) ≡ stop_from (stop_from c xs) ys
  stop_append c [] ys = refl
  stop_append c (x ∷ xs) ys = stop_append (end x) xs ys

  -- joined lists rise where both do
  pub rise_front : (c : Place) (xs ys : List (Piece P)) → Rise c (xs ++ ys) → Rise c xs
  rise_front c [] ys h = tt
  rise_front c (x ∷ xs) ys h = (h.0, rise_front (end x) xs ys h.1)

  -- the second of two joined lists rises from where the first ends
  pub rise_back : (c : Place) (xs ys : List (Piece P)) → Rise c (xs ++ ys) → Rise (stop_from c xs) ys
  rise_back c [] ys h = h
  rise_back c (x ∷ xs) ys h = rise_back (end x) xs ys h.1

  -- two lists of which the second rises from where the first ends rise when joined
  pub rise_append : (c : Place) (xs ys : List (Piece P)) → Rise c xs → Rise (stop_from c xs) ys → Rise c (xs ++ ys)
  rise_append c [] ys h k = k
  rise_append c (x ∷ xs) ys h k = (h.0, rise_append (end x) xs ys h.1 k)

  -- the shapes of joined lists
  pub shape_in : (xs ys : List (Piece P)) (q : P) → HasShapeIn (xs ++ ys) q → HasShapeIn xs q ⊎ HasShapeIn ys q
  shape_in [] ys q h = inr h
  shape_in (x ∷ xs) ys q (inl h) = inl (inl h)
  shape_in (x ∷ xs) ys q (inr h) = elim (shape_in xs ys q h) [ inl k ↦ inl (inr k) | inr k ↦ inr k ]

  -- the shapes of the first list are shapes of both joined
  pub shape_front : (xs ys : List (Piece P)) (q : P) → HasShapeIn xs q → HasShapeIn (xs ++ ys) q
  shape_front [] ys q h = absurd h
  shape_front (x ∷ xs) ys q (inl h) = inl h
  shape_front (x ∷ xs) ys q (inr h) = inr (shape_front xs ys q h)

  -- so are those of the second
  pub shape_back : (xs ys : List (Piece P)) (q : P) → HasShapeIn ys q → HasShapeIn (xs ++ ys) q
  shape_back [] ys q h = h
  shape_back (x ∷ xs) ys q h = inr (shape_back xs ys q h)

  -- where the pieces begin is at most where they end
  pub to_stop : (c : Place) (ps : List (Piece P)) → Rise c ps → AtMost c (stop_from c ps)
  to_stop c [] h t u = u
  to_stop c (p ∷ ps) h t u = to_stop (end p) ps h.1 t (upto_of_before c (end p) t h.0 u)

module _ {P : Type 0} (shape : ShapeOf P) where
  -- what joined lists are worth
  pub worth_in : (c : Place) (xs ys : List (Piece P)) (t : Rational) (v : Extended) → IsWorthFrom shape c (xs ++ ys) t v
      → IsWorthFrom shape c xs t v ⊎ IsWorthFrom shape (stop_from c xs) ys t v
  worth_in c [] ys t v h = inr h
  worth_in c (x ∷ xs) ys t v (inl h) = inl (inl h)
  worth_in c (x ∷ xs) ys t v (inr h) = elim (worth_in (end x) xs ys t v h) [ inl k ↦ inl (inr k) | inr k ↦ inr k ]

  -- joined lists are worth what the first is worth
  pub worth_front : (c : Place) (xs ys : List (Piece P)) (t : Rational) (v : Extended) → IsWorthFrom shape c xs t v
      → IsWorthFrom shape c (xs ++ ys) t v
  worth_front c [] ys t v h = absurd h
  worth_front c (x ∷ xs) ys t v (inl h) = inl h
  worth_front c (x ∷ xs) ys t v (inr h) = inr (worth_front (end x) xs ys t v h)

  -- and what the second is worth from there on
  pub worth_back : (c : Place) (xs ys : List (Piece P)) (t : Rational) (v : Extended) → IsWorthFrom shape (stop_from c xs) ys t v
      → IsWorthFrom shape c (xs ++ ys) t v
  worth_back c [] ys t v h = h
  worth_back c (x ∷ xs) ys t v h = inr (worth_back (end x) xs ys t v h)

  -- the pieces have values behind where they begin and before where they end alone
  pub worth_after : (c : Place) (ps : List (Piece P)) (t : Rational) (v : Extended) → Rise c ps → IsWorthFrom shape c ps t v → After c t
  worth_after c [] t v h w = absurd w
  worth_after c (p ∷ ps) t v h (inl w) = w.0
  worth_after c (p ∷ ps) t v h (inr w) = after_of_before c (end p) t h.0 (worth_after (end p) ps t v h.1 w)

  -- the pieces have no value behind where they end
  pub worth_upto : (c : Place) (ps : List (Piece P)) (t : Rational) (v : Extended) → Rise c ps → IsWorthFrom shape c ps t v → Upto (stop_from c ps) t
  worth_upto c [] t v h w = absurd w
  worth_upto c (p ∷ ps) t v h (inl w) = to_stop (end p) ps h.1 t w.1
  worth_upto c (p ∷ ps) t v h (inr w) = worth_upto (end p) ps t v h.1 w

  -- and one at each time between
  pub every_time : (c : Place) (ps : List (Piece P)) (t : Rational) → After c t → Upto (stop_from c ps) t → (v : Extended) × IsWorthFrom shape c ps t v
  every_time c [] t a u = absurd (not_both c t u a)
  every_time c (p ∷ ps) t a u = elim (sides (end p) t) [
    | inl k ↦ (value_at (shape.function p.shape) t, inl (a, k, same_reflᵉ (value_at (shape.function p.shape) t)))
    | inr k ↦ (let w = every_time (end p) ps t k u in (w.0, inr w.1))
  ]

  -- the pieces have one value at a time
  pub one_value : (c : Place) (ps : List (Piece P)) (t : Rational) (v w : Extended) → Rise c ps → IsWorthFrom shape c ps t v
      → IsWorthFrom shape c ps t w → v ≈ᵉ w
  one_value c [] t v w h a b = absurd a
  one_value c (p ∷ ps) t v w h (inl a) (inl b) = transᵉ a.2 (symᵉ b.2)
  one_value c (p ∷ ps) t v w h (inl a) (inr b) = absurd (not_both (end p) t a.1 (worth_after (end p) ps t w h.1 b))
  one_value c (p ∷ ps) t v w h (inr a) (inl b) = absurd (not_both (end p) t b.1 (worth_after (end p) ps t v h.1 a))
  one_value c (p ∷ ps) t v w h (inr a) (inr b) = one_value (end p) ps t v w h.1 a b

  passes_same : {t u : Rational} (f : Affine) (v w : Extended) → t ≈ u → v ≈ᵉ w → Passes f t v → Passes f u w
  passes_same f v w e s p = transᵉ (symᵉ s) (transᵉ p (value_same f e))

  -- by whichever pairs the time and the value are written
  pub worth_same : {t u : Rational} (c : Place) (ps : List (Piece P)) (v w : Extended) → t ≈ u → v ≈ᵉ w → IsWorthFrom shape c ps t v
      → IsWorthFrom shape c ps u w
  worth_same c [] v w e s a = absurd a
  worth_same {t} {u} c (p ∷ ps) v w e s (inl a) =
      inl (after_time_same c t u e a.0, upto_time_same (end p) t u e a.1, passes_same (shape.function p.shape) v w e s a.2)
  worth_same c (p ∷ ps) v w e s (inr a) = inr (worth_same (end p) ps v w e s a)
