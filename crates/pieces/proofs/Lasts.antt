-- The last pieces of a list, as the program reads and writes them.
use Rattle.std.proofs.Common.{◌≡◌, ℕ, ◌+◌, ◌<◌, List, [], ◌∷◌, ◌++◌, length, get_or, set, take, refl, sym, ◌∙◌, ap, subst, arith, length-append}
use Rattle.std.proofs.lemmas.List.{get_or_at, set_at, append_assoc}
use Rattle.std.specs.Prelude.{Option, Some, None, IsSome, option_to_list}
use Rattle.std.proofs.lemmas.Bool.{false≢true}
use Rattle.rational.specs.Rational.{IsWithin}
use Rattle.rational.specs.Affine.{AreSame}
use Rattle.rational.specs.Places.{Place, Before}
use Rattle.frac128.specs.Cuts.{place}
use Rattle.frac128.specs.declared.cut.Cut.{Cut}
use Rattle.value_laws.specs.Members.{ShapeOf}
use Rattle.pl_signal.proofs.KnotLemmas.{split_at}
use Rattle.pieces.specs.declared.piece.Piece.{Piece}
use Rattle.pieces.specs.Chains.{end, stop_from, IsNormal, CanBeLeftOut}
use Rattle.pieces.specs.Building.{GoesOn}
use Rattle.pieces.proofs.ChainLemmas.{stop_append}
use Rattle.pieces.proofs.BuildingLemmas.{chain_of, longer, goes_on_new, goes_on_same, goes_on_left}

-- a list that is not empty has a last element
pub split_last : {X : Type 0} (xs : List X) → 0 < length xs → (front : List X) × (last : X) × (xs ≡ front ++ last ∷ [])
split_last [] h = absurd (omega (arith, h))
split_last (x ∷ []) h = ([], x, refl)
split_last (x ∷ y ∷ xs) h = let r = split_last (y ∷ xs) (omega arith) in (x ∷ r.0, r.1, ap (λ ys. x ∷ ys) r.2)

-- and one of two or more has two
pub split_last_two : {X : Type 0} (xs : List X) → 1 < length xs → (front : List X) × (p q : X) × (xs ≡ front ++ p ∷ q ∷ [])
split_last_two [] h = absurd (omega (arith, h))
split_last_two (x ∷ []) h = absurd (omega (arith, h))
split_last_two (x ∷ y ∷ []) h = ([], x, y, refl)
split_last_two (x ∷ y ∷ z ∷ xs) h = let r = split_last_two (y ∷ z ∷ xs) (omega arith) in (x ∷ r.0, r.1, r.2, ap (λ ys. x ∷ ys) r.3)

-- there is no last element of none
pub none_last : {X : Type 0} (xs front : List X) (last : X) → length xs ≡ 0 → xs ≡ front ++ last ∷ [] → ⊥
none_last xs front last n e = let h : length xs ≡ length (front ++ last ∷ []) = ap (λ ys. length ys) e in
    absurd (omega (arith, h, n, length-append front (last ∷ [])))

-- a list of fewer than two has no last two
pub none_last_two : {X : Type 0} (xs front : List X) (p q : X) → length xs < 2 → xs ≡ front ++ p ∷ q ∷ [] → ⊥
none_last_two xs front p q n e = let h : length xs ≡ length (front ++ p ∷ q ∷ []) = ap (λ ys. length ys) e in
    absurd (omega (arith, h, n, length-append front (p ∷ q ∷ [])))

-- what is read in the last place is the last element
pub last_read : {X : Type 0} (xs front : List X) (last l : X) (n : ℕ) → xs ≡ front ++ last ∷ [] → n + 1 ≡ length xs → l ≡ get_or xs n l → l ≡ last
last_read xs front last l n e count read = read ∙ ap (λ ys. get_or ys n l) e ∙ get_or_at front last [] l n place
  where
    place : length front ≡ n
    place = let h : length xs ≡ length (front ++ last ∷ []) = ap (λ ys. length ys) e in omega (arith, h, count, length-append front (last ∷ []))

-- and in the last but one the one before it
pub but_last_read : {X : Type 0} (xs front : List X) (p q l : X) (n : ℕ) → xs ≡ front ++ p ∷ q ∷ [] → n + 2 ≡ length xs → l ≡ get_or xs n l → l ≡ p
but_last_read xs front p q l n e count read = read ∙ ap (λ ys. get_or ys n l) e ∙ get_or_at front p (q ∷ []) l n place
  where
    place : length front ≡ n
    place = let h : length xs ≡ length (front ++ p ∷ q ∷ []) = ap (λ ys. length ys) e in omega (arith, h, count, length-append front (p ∷ q ∷ []))

-- the last of the last two is the last
pub last_of_two : {X : Type 0} (xs front : List X) (p q : X) → xs ≡ front ++ p ∷ q ∷ [] → xs ≡ (front ++ p ∷ []) ++ q ∷ []
last_of_two xs front p q e = e ∙ sym (append_assoc front (p ∷ []) (q ∷ []))

-- what is written there
pub last_written : {X : Type 0} (xs front : List X) (last x : X) (n : ℕ) → xs ≡ front ++ last ∷ [] → n + 1 ≡ length xs → set xs n x ≡ front ++ x ∷ []
last_written xs front last x n e count = ap (λ ys. set ys n x) e ∙ set_at front last [] x n place
  where
    place : length front ≡ n
    place = let h : length xs ≡ length (front ++ last ∷ []) = ap (λ ys. length ys) e in omega (arith, h, count, length-append front (last ∷ []))

-- lists that end in one element are the same up to it
pub snoc : {X : Type 0} (xs ys : List X) (x y : X) → xs ++ x ∷ [] ≡ ys ++ y ∷ [] → xs ≡ ys
snoc [] [] x y e = refl
snoc [] (b ∷ ys) x y e = let f : [] ≡ ys ++ y ∷ [] = cc in absurd (none_last [] ys y refl f)
snoc (a ∷ xs) [] x y e = let f : [] ≡ xs ++ x ∷ [] = cc in absurd (none_last [] xs x refl f)
snoc (a ∷ xs) (b ∷ ys) x y e = let f : xs ++ x ∷ [] ≡ ys ++ y ∷ [] = cc in let h : a ≡ b = cc in
    ap (λ l. a ∷ l) (snoc xs ys x y f) ∙ ap (λ z. z ∷ ys) h

-- and have one last element
pub snoc_last : {X : Type 0} (xs ys : List X) (x y : X) → xs ++ x ∷ [] ≡ ys ++ y ∷ [] → x ≡ y
snoc_last [] [] x y e = cc
snoc_last [] (b ∷ ys) x y e = let f : [] ≡ ys ++ y ∷ [] = cc in absurd (none_last [] ys y refl f)
snoc_last (a ∷ xs) [] x y e = let f : [] ≡ xs ++ x ∷ [] = cc in absurd (none_last [] xs x refl f)
snoc_last (a ∷ xs) (b ∷ ys) x y e = let f : xs ++ x ∷ [] ≡ ys ++ y ∷ [] = cc in snoc_last xs ys x y f

-- what is left without the last element
pub last_taken : {X : Type 0} (old new front : List X) (p q : X) (r : Option X) → old ≡ new ++ option_to_list r → IsSome r → old ≡ front ++ p ∷ q ∷ []
    → new ≡ front ++ p ∷ []
last_taken old new front p q (Some x) e is f = snoc new (front ++ p ∷ []) x q (sym e ∙ last_of_two old front p q f)
last_taken old new front p q None e is f = absurd (false≢true is)

module _ {P : Type 0} (shape : ShapeOf P) where
  -- where the last piece ends
  pub stop_read : (c : Place) (ps : List (Piece P)) (n : ℕ) (l : Piece P) → n + 1 ≡ length ps → l ≡ get_or ps n l → end l ≡ stop_from c ps
  stop_read c ps n l count read =
      sym (ap (λ xs. stop_from c xs) (split_at ps n l (sym count) ∙ ap (λ k. take n ps ++ k ∷ []) (sym read)) ∙ stop_append c (take n ps) (l ∷ []))

  -- pieces end where the last of them ends
  pub stop_last : (c : Place) (ps front : List (Piece P)) (last : Piece P) → ps ≡ front ++ last ∷ [] → stop_from c ps ≡ end last
  stop_last c ps front last e = ap (λ xs. stop_from c xs) e ∙ stop_append c front (last ∷ [])

  -- so the last piece ends within limits where the pieces do
  pub last_within : (n : ℕ) (c : Place) (ps front : List (Piece P)) (last : Piece P) → ps ≡ front ++ last ∷ [] → IsWithin n (stop_from c ps).at
      → IsWithin n (end last).at
  last_within n c ps front last e h = subst (λ s. IsWithin n s.at) (stop_last c ps front last e) h

  -- the three ways in which a chain goes on
  pub put_same : (c : Place) (old new : List (Piece P)) (until : Cut) (more : P) → IsNormal shape (chain_of c old)
      → Before (stop_from c old) (place until) → 0 < length old
      → ((front : List (Piece P)) (last : Piece P) → old ≡ front ++ last ∷ [] → AreSame (shape.function last.shape) (shape.function more))
      → ((front : List (Piece P)) (last : Piece P) → old ≡ front ++ last ∷ [] → new ≡ front ++ longer last until ∷ [])
      → GoesOn shape (chain_of c old) until more (chain_of c new)
  put_same c old new until more normal later some same made =
      let (front, last, e) = split_last old some in
      subst (λ xs. GoesOn shape (chain_of c old) until more (chain_of c xs)) (sym (made front last e))
      (subst (λ xs. GoesOn shape (chain_of c xs) until more (chain_of c (front ++ longer last until ∷ []))) (sym e)
      (goes_on_same shape c front last until more (subst (λ xs. IsNormal shape (chain_of c xs)) e normal)
      (subst (λ xs. Before (stop_from c xs) (place until)) e later) (same front last e)))

  -- pieces go on by their last but one, where the last is left out
  pub put_left : (c : Place) (old half new : List (Piece P)) (until : Cut) (more : P) → IsNormal shape (chain_of c old)
      → Before (stop_from c old) (place until) → 1 < length old
      → ((front : List (Piece P)) (p q : Piece P) → old ≡ front ++ p ∷ q ∷ [] → CanBeLeftOut shape p q more)
      → ((front : List (Piece P)) (p q : Piece P) → old ≡ front ++ p ∷ q ∷ [] → half ≡ front ++ p ∷ [])
      → ((front : List (Piece P)) (last : Piece P) → half ≡ front ++ last ∷ [] → new ≡ front ++ longer last until ∷ [])
      → GoesOn shape (chain_of c old) until more (chain_of c new)
  put_left c old half new until more normal later some out left made =
      let (front, p, q, e) = split_last_two old some in
      subst (λ xs. GoesOn shape (chain_of c old) until more (chain_of c xs)) (sym (made front p (left front p q e)))
      (subst (λ xs. GoesOn shape (chain_of c xs) until more (chain_of c (front ++ longer p until ∷ []))) (sym e)
      (goes_on_left shape c front p q until more (subst (λ xs. IsNormal shape (chain_of c xs)) e normal)
      (subst (λ xs. Before (stop_from c xs) (place until)) e later) (out front p q e)))

  -- and by a new piece, where none of the last two goes on
  pub put_new : (c : Place) (old new : List (Piece P)) (until : Cut) (more : P) → IsNormal shape (chain_of c old)
      → Before (stop_from c old) (place until)
      → ((front : List (Piece P)) (last : Piece P) → old ≡ front ++ last ∷ [] → ¬ AreSame (shape.function last.shape) (shape.function more))
      → ((front : List (Piece P)) (p q : Piece P) → old ≡ front ++ p ∷ q ∷ [] → ¬ CanBeLeftOut shape p q more)
      → new ≡ old ++ record { until = until; shape = more } ∷ [] → GoesOn shape (chain_of c old) until more (chain_of c new)
  put_new c old new until more normal later differs needed made =
      subst (λ xs. GoesOn shape (chain_of c old) until more (chain_of c xs)) (sym made)
      (goes_on_new shape c old until more normal (record { differs = differs; needed = needed }) later)
