-- How the queue of a moving range changes.
use Rattle.std.proofs.Common.{subst, ◌∙◌, ◌≡◌, ℕ, suc, ◌+◌, ◌-◌, ◌<◌, ◌≤◌, ◌⊎◌, inl, inr, Bool, true}
use Rattle.std.proofs.Common.{false, List, [], ◌∷◌, ◌++◌, refl, sym, ap, arith, if◌then◌else◌, drop, length}
use Rattle.std.specs.Prelude.{nat_lt, slice_get, Some}
use Rattle.rational.specs.Extended.{Extended, Affine, ◌≤ᵉ◌}
use Rattle.rational.proofs.ExtendedLemmas.{le_transᵉ, le_reflᵉ, le_of_ltᵉ}
use Rattle.rational.proofs.Lists.{slice_get-append_front, slice_get-drop}
use Rattle.rational.specs.Affine.{IsOrderᵉ}
use Rattle.std.specs.declared.cmp.Ordering.{Ordering}
use Rattle.std.proofs.Common.{Less, Equal, Greater}
use Rattle.std.proofs.lemmas.Option.{same_Some}
use Rattle.window_extrema.specs.Range.{IsAtMost, IsGreatestOf}
use Rattle.window_extrema.specs.Stairs.{AreStairs, AreStairsTo, from_place, spread}

-- a value that does not come out as greater is at most as great
pub at_most_where_not_greater : (o : Ordering) (v w : Extended) → IsOrderᵉ o v w → (o ≡ Greater → ⊥) → v ≤ᵉ w
at_most_where_not_greater Less v w h n = le_of_ltᵉ v w h
at_most_where_not_greater Equal v w h n = h.at_most
at_most_where_not_greater Greater v w h n = absurd (n refl)

-- a queue spreads from its last place on over what it spreads over without it
pub spread_last : (queue : List ℕ) (passed : ℕ) → spread (queue ++ passed ∷ []) ≡ spread queue + suc passed
spread_last [] passed = omega arith
spread_last (i ∷ queue) passed = let rest = spread_last queue passed in omega (arith, rest)

-- a queue is what is left of it where no place goes
pub from_first : (queue : List ℕ) → from_place 0 queue ≡ queue
from_first [] = refl
from_first (passed ∷ queue) = by_test (nat_lt passed 0) refl
  where
    by_test : (b : Bool) → nat_lt passed 0 ≡ b → (if b then from_place (0 - suc passed) queue else (passed - 0) ∷ queue) ≡ passed ∷ queue
    by_test true e = absurd (let below : passed < 0 = grind (arith, e) in omega (arith, below))
    by_test false e = ap (λ n. n ∷ queue) (omega arith)

module _ {P : Type 0} (function : P → Affine) (items : List P) where
  -- a greatest of a range is one of the range's end that it lies in
  narrower : {low lo high i : ℕ} → low ≤ lo → lo ≤ i → IsGreatestOf function items low high i → IsGreatestOf function items lo high i
  narrower l m h = record {
    from = m;
    below = h.below;
    greatest = λ j x y from below u v. h.greatest j x y (omega (arith, l, from)) below u v;
  }

  -- a queue of falling items spreads over its range
  pub spread_is : (low high : ℕ) (queue : List ℕ) → AreStairs function items low high queue → low + spread queue ≡ high
  spread_is low high [] h = omega (arith, h)
  spread_is low high (passed ∷ queue) h = let rest = spread_is (suc (low + passed)) high queue h.1 in omega (arith, rest)

  -- it has no more places than the range
  pub length_within : (low high : ℕ) (queue : List ℕ) → AreStairs function items low high queue → length queue + low ≤ high
  length_within low high [] h = omega (arith, h)
  length_within low high (passed ∷ queue) h = let rest = length_within (suc (low + passed)) high queue h.1 in omega (arith, rest)

  -- it is one up to items that are at most the next one, of which there are none yet
  pub stairs_to : (low high : ℕ) (queue : List ℕ) → AreStairs function items low high queue → AreStairsTo function items high low high queue
  stairs_to low high [] h = (h, λ j x y from below u v. absurd (omega (arith, h, from, below)))
  stairs_to low high (passed ∷ queue) h = (h.0, stairs_to (suc (low + passed)) high queue h.1)

  -- a last place whose item is at most the one at `place` may go
  pub without_last : (place low end passed last : ℕ) (queue : List ℕ) (x : P) → suc last ≡ end → slice_get items last ≡ Some x
      → ((y : P) → slice_get items place ≡ Some y → IsAtMost function x y)
      → AreStairsTo function items place low end (queue ++ passed ∷ []) → AreStairsTo function items place low (end - suc passed) queue
  without_last place low end passed last [] x e u le h =
      let here : last ≡ low + passed = (let at = h.1.0 in omega (arith, e, at)) in (
        (let at = h.1.0 in omega (arith, at)),
        λ j z w from below p q. le_transᵉ _ _ _ (h.0.greatest j z x from below p (subst (λ n. slice_get items n ≡ Some x) here u)) (le w q),
      )
  without_last place low end passed last (i ∷ queue) x e u le h = (h.0, without_last place (suc (low + i)) end passed last queue x e u le h.1)

  -- the last place lies in the range
  last_within : (place low end passed last : ℕ) (queue : List ℕ) → suc last ≡ end → AreStairsTo function items place low end (queue ++ passed ∷ [])
      → (low ≤ last) × (last < place)
  last_within place low end passed last [] e h =
      let at = h.1.0 in let below = h.0.below in (omega (arith, e, at), omega (arith, e, at, below))
  last_within place low end passed last (i ∷ queue) e h =
      let m : (suc (low + i) ≤ last) × (last < place) = last_within place (suc (low + i)) end passed last queue e h.1 in (omega (arith, m.0), m.1)

  -- a greatest of the range stays one where the range grows by an item that is not greater
  grown : {low high i : ℕ} → IsGreatestOf function items low high i
      → ((x y : P) → slice_get items high ≡ Some x → slice_get items i ≡ Some y → IsAtMost function x y) → IsGreatestOf function items low (suc high) i
  grown {low = low} {high = high} {i = i} h new = record {
    from = h.from;
    below = omega (arith, h.below);
    greatest = λ j x y from below u v. by_place j x y from u v (split j below);
  }
    where
      split : (j : ℕ) → j < suc high → (j < high) ⊎ (j ≡ high)
      split j below = grind (arith, below)

      by_place : (j : ℕ) (x y : P) → low ≤ j → slice_get items j ≡ Some x → slice_get items i ≡ Some y → (j < high) ⊎ (j ≡ high) → IsAtMost function x y
      by_place j x y from u v (inl below) = h.greatest j x y from below u v
      by_place j x y from u v (inr e) = new x y (subst (λ j. slice_get items j ≡ Some x) e u) v

  -- the place itself, after items that are at most its own
  alone : (place low : ℕ) → low ≤ place
      → ((j : ℕ) (x y : P) → low ≤ j → j < place → slice_get items j ≡ Some x → slice_get items place ≡ Some y → IsAtMost function x y)
      → IsGreatestOf function items low (suc place) place
  alone place low l h = record {
    from = l;
    below = omega arith;
    greatest = λ j x y from below u v. by_place j x y from u v (split j below);
  }
    where
      split : (j : ℕ) → j < suc place → (j < place) ⊎ (j ≡ place)
      split j below = grind (arith, below)

      same : (x y : P) → x ≡ y → IsAtMost function x y
      same x y e = subst (λ y. IsAtMost function x y) e (le_reflᵉ _)

      by_place : (j : ℕ) (x y : P) → low ≤ j → slice_get items j ≡ Some x → slice_get items place ≡ Some y → (j < place) ⊎ (j ≡ place)
          → IsAtMost function x y
      by_place j x y from u v (inl below) = h j x y from below u v
      by_place j x y from u v (inr e) = same x y (same_Some _ _ (sym u ∙ ap (λ j. slice_get items j) e ∙ v))

  -- where no place is left, the new one stands alone, and passes over the others
  pub with_first : (place low end passed : ℕ) → end + passed ≡ place → AreStairsTo function items place low end []
      → AreStairs function items low (suc place) (passed ∷ [])
  with_first place low end passed e h =
      let here : place ≡ low + passed = (let at = h.0 in omega (arith, at, e)) in (
        subst (λ n. IsGreatestOf function items low (suc place) n) here (alone place low (omega (arith, here)) h.1),
        omega (arith, here),
      )

  -- a place whose item is at most the last one's comes after it, and passes over those between
  pub with_last : (place low end before last passed : ℕ) (queue : List ℕ) (x : P) → suc last ≡ end → end + passed ≡ place
      → slice_get items last ≡ Some x → ((y : P) → slice_get items place ≡ Some y → IsAtMost function y x)
      → AreStairsTo function items place low end (queue ++ before ∷ [])
      → AreStairs function items low (suc place) ((queue ++ before ∷ []) ++ passed ∷ [])
  with_last place low end before last passed [] x e f u le h =
      let here : last ≡ low + before = (let at = h.1.0 in omega (arith, e, at)) in
      (grown h.0 (new here), with_first place (suc (low + before)) end passed f h.1)
    where
      new : last ≡ low + before → (y z : P) → slice_get items place ≡ Some y → slice_get items (low + before) ≡ Some z → IsAtMost function y z
      new here y z p q = subst (λ z. IsAtMost function y z) (same_Some _ _ (sym u ∙ ap (λ n. slice_get items n) here ∙ q)) (le y p)
  with_last place low end before last passed (i ∷ queue) x e f u le h =
      let m : (suc (low + i) ≤ last) × (last < place) = last_within place (suc (low + i)) end before last queue e h.1 in
      (grown h.0 (new m), with_last place (suc (low + i)) end before last passed queue x e f u le h.1)
    where
      new : (suc (low + i) ≤ last) × (last < place) → (y z : P) → slice_get items place ≡ Some y → slice_get items (low + i) ≡ Some z
          → IsAtMost function y z
      new m y z p q = le_transᵉ _ _ _ (le y p) (h.0.greatest last x z (omega (arith, m.0)) m.1 u q)

  -- a later range keeps the places that it has
  pub later : (low count high : ℕ) (queue : List ℕ) → low + count ≤ high → AreStairs function items low high queue
      → AreStairs function items (low + count) high (from_place count queue)
  later low count high [] m h = omega (arith, h, m)
  later low count high (passed ∷ queue) m h = by_test (nat_lt passed count) refl
      (λ k. later (suc (low + passed)) (count - suc passed) high queue k h.1)
    where
      by_test : (b : Bool) → nat_lt passed count ≡ b
          → (suc (low + passed) + (count - suc passed) ≤ high
          → AreStairs function items (suc (low + passed) + (count - suc passed)) high (from_place (count - suc passed) queue))
          → AreStairs function items (low + count) high (if b then from_place (count - suc passed) queue else (passed - count) ∷ queue)
      by_test true e rest =
          let past : suc passed ≤ count = grind (arith, e) in
          let same : suc (low + passed) + (count - suc passed) ≡ low + count = omega (arith, past) in
          subst (λ n. AreStairs function items n high (from_place (count - suc passed) queue)) same (rest (omega (arith, same, m)))
      by_test false e rest =
          let within : count ≤ passed = grind (arith, e) in
          let same : low + passed ≡ low + count + (passed - count) = omega (arith, within) in
          subst (λ n. IsGreatestOf function items (low + count) high n × AreStairs function items (suc n) high queue) same
          (narrower (omega arith) (omega (arith, within)) h.0, h.1)

  -- more items behind change nothing
  pub stairs_more : (more : List P) (low high : ℕ) (queue : List ℕ) → high ≤ length items → AreStairs function items low high queue
      → AreStairs function (items ++ more) low high queue
  stairs_more more low high [] m h = h
  stairs_more more low high (passed ∷ queue) m h =
      (record { from = h.0.from; below = h.0.below; greatest = greatest }, stairs_more more (suc (low + passed)) high queue m h.1)
    where
      here : (j : ℕ) (x : P) → j < high → slice_get (items ++ more) j ≡ Some x → slice_get items j ≡ Some x
      here j x below u = sym (slice_get-append_front items more j (omega (arith, below, m))) ∙ u

      greatest : (j : ℕ) (x y : P) → low ≤ j → j < high → slice_get (items ++ more) j ≡ Some x → slice_get (items ++ more) (low + passed) ≡ Some y
          → IsAtMost function x y
      greatest j x y from below u v = h.0.greatest j x y from below (here j x below u) (here (low + passed) y h.0.below v)

  -- where items before the range have gone, it stands nearer to the front
  pub stairs_nearer : (count low high : ℕ) (queue : List ℕ) → AreStairs function items (count + low) (count + high) queue
      → AreStairs function (drop count items) low high queue
  stairs_nearer count low high [] h = omega (arith, h)
  stairs_nearer count low high (passed ∷ queue) h = (
    record { from = omega arith; below = (let below = h.0.below in omega (arith, below)); greatest = greatest },
    stairs_nearer count (suc (low + passed)) high queue (subst (λ n. AreStairs function items n (count + high) queue) (omega arith) h.1),
  )
    where
      here : (j : ℕ) (x : P) → slice_get (drop count items) j ≡ Some x → slice_get items (count + j) ≡ Some x
      here j x u = sym (slice_get-drop count items j) ∙ u

      greatest : (j : ℕ) (x y : P) → low ≤ j → j < high → slice_get (drop count items) j ≡ Some x
          → slice_get (drop count items) (low + passed) ≡ Some y → IsAtMost function x y
      greatest j x y from below u v = h.0.greatest (count + j) x y (omega (arith, from)) (omega (arith, below)) (here j x u)
          (subst (λ n. slice_get items n ≡ Some y) (omega arith) (here (low + passed) y v))
