-- A chain read up to a place: the piece that goes on there, by its place in the list.
use Rattle.std.proofs.Common.{◌≡◌, ◌⊎◌, inl, inr, ℕ, zero, suc, ◌+◌, ◌<◌, ◌≤◌, ◌^◌, List, [], ◌∷◌, Some}
use Rattle.std.proofs.Common.{Bool, true, false, IsTrue, length, refl, sym, ap, subst, arith}
use Rattle.std.specs.Prelude.{slice_get, if◌then◌else◌, ◌↔◌}
use Rattle.std.proofs.Math.Nat.{eq-or-lt_of_le}
use Rattle.std.proofs.lemmas.Bool.{false≢true}
use Rattle.rational.specs.Rational.{IsWithin}
use Rattle.rational.specs.Time.{Rational}
use Rattle.rational.specs.Extended.{value_at}
use Rattle.rational.specs.Affine.{HasBoundedLevel}
use Rattle.rational.specs.Places.{Place, After, Upto, Before, Same, AtMost}
use Rattle.rational.proofs.AffineLemmas.{same_reflᵉ}
use Rattle.rational.proofs.Bounds.{level_bounded}
use Rattle.rational.proofs.Mixed.{within_between}
use Rattle.rational.proofs.PlaceLemmas.{between, place_order, not_before_itself, before_at_most, same_of_at_most, same_before}
use Rattle.rational.proofs.PlaceLemmas.{same_places, le_of_at_most, upto_of_before, after_at_most}
use Rattle.value_laws.specs.Members.{ShapeOf}
use Rattle.pl_signal.proofs.Values.{some_is}
use Rattle.pieces.specs.declared.piece.Piece.{Piece}
pub use Rattle.pieces.specs.Chains.{begin_at}
use Rattle.pieces.specs.Chains.{Chain, end, stop, stop_from, HasShapeIn, Rise, IsWorth, IsWorthFrom, IsLimited, IsNormal}
use Rattle.pieces.proofs.Ends.{at_most_of_before, at_most_of_same, at_most_trans}
use Rattle.pieces.proofs.ChainLemmas.{to_stop}

module _ {P : Type 0} where
  -- the next piece begins where this one ends
  pub next_begin : (c : Place) (ps : List (Piece P)) (i : ℕ) (p : Piece P) → slice_get ps i ≡ Some p → begin_at c ps (suc i) ≡ end p
  next_begin c [] i p h = absurd (cc)
  next_begin c (q ∷ ps) zero p h = ap (λ q. end q) (some_is h)
  next_begin c (q ∷ ps) (suc i) p h = next_begin (end q) ps i p h

  -- behind the last piece is the end
  pub last_begin : (c : Place) (ps : List (Piece P)) → begin_at c ps (length ps) ≡ stop_from c ps
  last_begin c [] = refl
  last_begin c (p ∷ ps) = last_begin (end p) ps

  -- the place of a piece lies before the length of the list
  pub is_inside : (ps : List (Piece P)) (i : ℕ) (p : Piece P) → slice_get ps i ≡ Some p → i < length ps
  is_inside [] i p h = absurd (cc)
  is_inside (q ∷ ps) zero p h = omega arith
  is_inside (q ∷ ps) (suc i) p h = let k = is_inside ps i p h in omega arith

  -- a piece ends after it begins, and not after the chain
  pub rises_at : (c : Place) (ps : List (Piece P)) (i : ℕ) (p : Piece P) → Rise c ps → slice_get ps i ≡ Some p → Before (begin_at c ps i) (end p)
  rises_at c [] i p h e = absurd (cc)
  rises_at c (q ∷ ps) zero p h e = subst (λ q. Before c (end q)) (some_is e) h.0
  rises_at c (q ∷ ps) (suc i) p h e = rises_at (end q) ps i p h.1 e

  -- no piece ends after the chain
  pub end_most : (c : Place) (ps : List (Piece P)) (i : ℕ) (p : Piece P) → Rise c ps → slice_get ps i ≡ Some p → AtMost (end p) (stop_from c ps)
  end_most c [] i p h e = absurd (cc)
  end_most c (q ∷ ps) zero p h e = subst (λ r. AtMost (end r) (stop_from (end q) ps)) (some_is e) (to_stop (end q) ps h.1)
  end_most c (q ∷ ps) (suc i) p h e = end_most (end q) ps i p h.1 e

  -- no piece begins before the chain
  pub begin_most : (c : Place) (ps : List (Piece P)) (i : ℕ) → Rise c ps → AtMost c (begin_at c ps i)
  begin_most c ps zero h t u = u
  begin_most c [] (suc i) h t u = u
  begin_most c (q ∷ ps) (suc i) h t u = begin_most (end q) ps i h.1 t (upto_of_before c (end q) t h.0 u)

  -- the shape of a piece is one of the list
  pub shape_at : (ps : List (Piece P)) (i : ℕ) (p : Piece P) → slice_get ps i ≡ Some p → HasShapeIn ps p.shape
  shape_at [] i p h = absurd (cc)
  shape_at (q ∷ ps) zero p h = inl (sym (ap (λ q. q.shape) (some_is h)))
  shape_at (q ∷ ps) (suc i) p h = inr (shape_at ps i p h)

  -- the chain was read up to the place: the piece at that place of the list, if there is one, goes on there
  pub record StandsAt (chain : Chain P) (at : Place) (i : ℕ) : Type 0 where
    -- there is such a piece, or all were read
    pub inside : i ≤ length chain.pieces
    -- it has begun
    pub begun : AtMost (begin_at chain.from chain.pieces i) at
    -- and does not end there
    pub ahead : (p : Piece P) → slice_get chain.pieces i ≡ Some p → Before at (end p)

  -- at the begin of a chain
  pub stands_first : (chain : Chain P) (at : Place) → Rise chain.from chain.pieces → Same chain.from at → StandsAt chain at 0
  stands_first chain at h same = record {
    inside = omega arith;
    begun = at_most_of_same chain.from at same;
    ahead = λ p e. same_before at chain.from (end p) (same_places same) (rises_at chain.from chain.pieces 0 p h e);
  }

  -- and further on
  pub stands_next : (chain : Chain P) (at to : Place) (i : ℕ) (p : Piece P) (is : Bool) → Rise chain.from chain.pieces → StandsAt chain at i
      → slice_get chain.pieces i ≡ Some p → AtMost at to → AtMost to (end p) → (IsTrue is ↔ Same (end p) to)
      → StandsAt chain to (if is then i + 1 else i)
  stands_next chain at to i p true h s e on most same = record {
    inside = let k = is_inside chain.pieces i p e in omega arith;
    begun = subst (λ c. AtMost c to) (sym begins) (at_most_of_same (end p) to (same.0 refl));
    ahead = λ q f. same_before to (begin_at chain.from chain.pieces (i + 1)) (end q)
        (subst (λ c. Same to c) (sym begins) (same_places (same.0 refl))) (rises_at chain.from chain.pieces (i + 1) q h f);
  }
    where
      place : suc i ≡ i + 1
      place = omega arith

      begins : begin_at chain.from chain.pieces (i + 1) ≡ end p
      begins = subst (λ n. begin_at chain.from chain.pieces n ≡ end p) place (next_begin chain.from chain.pieces i p e)
  stands_next chain at to i p false h s e on most same = record {
    inside = s.inside;
    begun = at_most_trans (begin_at chain.from chain.pieces i) at to s.begun on;
    ahead = λ q f. subst (λ r. Before to (end r)) (of_two q f) (by_order (place_order to (end p)));
  }
    where
      of_two : (q : Piece P) → slice_get chain.pieces i ≡ Some q → p ≡ q
      of_two q f = cc

      by_order : Before to (end p) ⊎ Same to (end p) ⊎ Before (end p) to → Before to (end p)
      by_order (inl b) = b
      by_order (inr (inl k)) = absurd (false≢true (same.1 (same_places k)))
      by_order (inr (inr b)) = absurd (not_before_itself (end p) (before_at_most (end p) to (end p) b most))

  -- a chain that was read to its end
  pub stands_last : (chain : Chain P) (at : Place) (i : ℕ) → StandsAt chain at i → AtMost at (stop chain) → length chain.pieces ≤ i → Same at (stop chain)
  stands_last chain at i s below all =
      let place : i ≡ length chain.pieces = let k = s.inside in omega (arith, all) in
      same_of_at_most at (stop chain) below (subst (λ c. AtMost c at) (last_begin chain.from chain.pieces)
      (subst (λ n. AtMost (begin_at chain.from chain.pieces n) at) place s.begun))

  -- a chain that is not read to its end has a piece there
  pub stands_inside : (chain : Chain P) (at : Place) (i : ℕ) → StandsAt chain at i → Before at (stop chain) → i < length chain.pieces
  stands_inside chain at i s before = by_count (eq-or-lt_of_le s.inside)
    where
      by_count : (i ≡ length chain.pieces) ⊎ (i < length chain.pieces) → i < length chain.pieces
      by_count (inr k) = k
      by_count (inl k) = absurd (let e = stands_last chain at i s (at_most_of_before at (stop chain) before) (omega (arith, k)) in
          not_before_itself at (before_at_most at (stop chain) at before (at_most_of_same (stop chain) at (same_places e))))

  -- the piece that goes on there does not end after the chain
  pub stands_before : (chain : Chain P) (at : Place) (i : ℕ) (p : Piece P) → Rise chain.from chain.pieces → StandsAt chain at i
      → slice_get chain.pieces i ≡ Some p → Before at (stop chain)
  stands_before chain at i p h s e = before_at_most at (end p) (stop chain) (s.ahead p e) (end_most chain.from chain.pieces i p h e)

module _ {P : Type 0} (shape : ShapeOf P) where
  -- what the chain is worth on a piece
  pub worth_place : (c : Place) (ps : List (Piece P)) (i : ℕ) (p : Piece P) (t : Rational) → slice_get ps i ≡ Some p → After (begin_at c ps i) t
      → Upto (end p) t → IsWorthFrom shape c ps t (value_at (shape.function p.shape) t)
  worth_place c [] i p t h a u = absurd (cc)
  worth_place c (q ∷ ps) zero p t h a u = subst (λ q. IsWorthFrom shape c (q ∷ ps) t (value_at (shape.function p.shape) t)) (sym (some_is h))
      (inl (a, u, same_reflᵉ (value_at (shape.function p.shape) t)))
  worth_place c (q ∷ ps) (suc i) p t h a u = inr (worth_place (end q) ps i p t h a u)

  -- from where it was read on
  pub worth_on : (chain : Chain P) (at : Place) (i : ℕ) (p : Piece P) (t : Rational) → StandsAt chain at i → slice_get chain.pieces i ≡ Some p
      → After at t → Upto (end p) t → IsWorth shape chain t (value_at (shape.function p.shape) t)
  worth_on chain at i p t s e a u = worth_place chain.from chain.pieces i p t e (after_at_most (begin_at chain.from chain.pieces i) at t s.begun a) u

  -- the shapes of a limited chain have bounded levels
  pub level_at : (chain : Chain P) (i : ℕ) (p : Piece P) → IsNormal shape chain → IsLimited shape chain → slice_get chain.pieces i ≡ Some p
      → HasBoundedLevel (2 ^ 31) (shape.function p.shape)
  level_at chain i p s limited e =
      let t = between (begin_at chain.from chain.pieces i) (end p) (rises_at chain.from chain.pieces i p s.rising e) in
      level_bounded (2 ^ 31) (shape.function p.shape) t.0 (limited.values t.0 (value_at (shape.function p.shape) t.0)
      (worth_place chain.from chain.pieces i p t.0 e t.1 t.2))

  -- and its pieces end within 2^34
  pub end_within : (chain : Chain P) (i : ℕ) (p : Piece P) → IsNormal shape chain → IsLimited shape chain → slice_get chain.pieces i ≡ Some p
      → IsWithin (2 ^ 34) (end p).at
  end_within chain i p s limited e = within_between (2 ^ 34) limited.begins limited.ends
      (le_of_at_most chain.from (end p) (at_most_trans chain.from (begin_at chain.from chain.pieces i) (end p)
      (begin_most chain.from chain.pieces i s.rising)
      (at_most_of_before (begin_at chain.from chain.pieces i) (end p) (rises_at chain.from chain.pieces i p s.rising e))))
      (le_of_at_most (end p) (stop chain) (end_most chain.from chain.pieces i p s.rising e))
