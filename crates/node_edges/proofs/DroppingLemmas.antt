-- What is left of an edge without its first parts.
use Rattle.std.proofs.Common.{◌≡◌, ◌⊎◌, inl, inr, Option, None, ℤ, ℕ, zero, suc, ◌+◌, ◌-◌, ◌<◌, List, [], ◌∷◌, ◌++◌, drop, length}
use Rattle.std.proofs.Common.{Some, IfSome, ◌≤◌, slice_get, refl, sym, ap, subst, ◌∙◌, arith, length-drop, below_more}
use Rattle.std.proofs.lemmas.Bool.{cases_lt}
use Rattle.std.proofs.lemmas.Option.{slice_get_within}
use Rattle.rational.specs.Rational.{Rational, ◌≤ʳ◌, ◌<ʳ◌, ◌≈◌, whole}
use Rattle.rational.proofs.Order.{le_trans, le_of_same, ge_of_same, lt_of_le_of_lt, le_or_lt}
use Rattle.node_edges.specs.Held.{Edge, held_of, without, IsDroppedBy}
use Rattle.node_edges.specs.Members.{PartOf}

drop-nil : {X : Type 0} (n : ℕ) → drop {A = X} n [] ≡ []
drop-nil zero = refl
drop-nil (suc n) = refl

-- dropping twice is dropping both at once
pub drop-drop : {X : Type 0} (a b : ℕ) (ys : List X) → drop a (drop b ys) ≡ drop (b + a) ys
drop-drop a zero ys = let same : a ≡ 0 + a = omega arith in ap (λ k. drop k ys) same
drop-drop a (suc b) [] = drop-nil a ∙ sym (drop-nil (suc b + a))
drop-drop a (suc b) (y ∷ ys) =
    let same : suc (b + a) ≡ suc b + a = omega arith in
    drop-drop a b ys ∙ ap (λ k. drop k (y ∷ ys)) same

-- what is dropped of two lists is dropped of the first, and then of the second
pub drop-both : {X : Type 0} (n : ℕ) (xs ys : List X) → drop n (xs ++ ys) ≡ drop n xs ++ drop (n - length xs) ys
drop-both zero xs ys = let none : 0 ≡ 0 - length xs = omega arith in ap (λ k. xs ++ drop k ys) none
drop-both (suc n) [] ys = let all : suc n ≡ suc n - 0 = omega arith in ap (λ k. drop k ys) all
drop-both (suc n) (x ∷ xs) ys =
    let same : n - length xs ≡ suc n - suc (length xs) = omega arith in drop-both n xs ys ∙ ap (λ k. drop n xs ++ drop k ys) same

-- the first item behind n others
pub slice_get-drop : {X : Type 0} (n : ℕ) (xs : List X) → slice_get (drop n xs) 0 ≡ slice_get xs n
slice_get-drop zero xs = refl
slice_get-drop (suc n) [] = refl
slice_get-drop (suc n) (x ∷ xs) = slice_get-drop n xs

module _ {T : Type 0} where
  -- an edge without its first parts holds the others
  pub held_of-without : (n : ℕ) (x : Edge T) → held_of (without n x) ≡ drop n (held_of x)
  held_of-without n x = sym (drop-both n x.seen x.fresh)

  -- an edge without none stays
  pub without-none : (x : Edge T) → without 0 x ≡ x
  without-none x =
      let none : 0 - length x.seen ≡ 0 = omega arith in
      ap (λ k. record { seen = x.seen; fresh = drop k x.fresh; number = x.number; joins = x.joins }) none

  -- some parts more are dropped
  pub without-more : (m n : ℕ) (x : Edge T) → without m (without n x) ≡ without (n + m) x
  without-more m n x =
      let count : (n - length x.seen) + (m - length (drop n x.seen)) ≡ n + m - length x.seen = omega (arith, length-drop n x.seen)
      in
      ap (λ s. record { seen = s; fresh = drop (m - length (drop n x.seen)) (drop (n - length x.seen) x.fresh); number = x.number; joins = x.joins })
      (drop-drop m n x.seen)
      ∙ ap (λ f. record { seen = drop (n + m) x.seen; fresh = f; number = x.number; joins = x.joins })
      (drop-drop (m - length (drop n x.seen)) (n - length x.seen) x.fresh ∙ ap (λ k. drop k x.fresh) count)

module _ {T : Type 0} (part : PartOf T) where
  -- some parts are gone from the front, and each of them ends by the limit
  pub record IsCutBy (limit : Rational) (old new : Edge T) : Type 0 where
    -- how many are gone
    pub count : ℕ
    -- the edge is the old one without them
    pub is : new ≡ without count old
    -- each of them ends by the limit
    pub ended : (k : ℕ) → k < count → IfSome (slice_get (held_of old) k) (λ v. part.end v ≤ʳ limit)

module _ {T : Type 0} {part : PartOf T} where
  -- an edge of which nothing is gone is cut by any limit
  pub cut_none : (limit : Rational) (x : Edge T) → IsCutBy part limit x x
  cut_none limit x = record { count = 0; is = sym (without-none x); ended = λ k below. absurd (omega arith) }

  -- one more may go that ends by the limit
  pub cut_one : {limit : Rational} {old new : Edge T} (v : T) → IsCutBy part limit old new → slice_get (held_of new) 0 ≡ Some v
      → part.end v ≤ʳ limit → IsCutBy part limit old (without 1 new)
  cut_one {limit} {old} {new} v cut first ended =
      let here : slice_get (held_of old) cut.count ≡ Some v =
      sym (slice_get-drop cut.count (held_of old))
      ∙ sym (ap (λ xs. slice_get xs 0) (ap held_of cut.is ∙ held_of-without cut.count old)) ∙ first in
      record {
        count = cut.count + 1;
        is = ap (without 1) cut.is ∙ without-more 1 cut.count old;
        ended = below_more (λ k. IfSome (slice_get (held_of old) k) (λ w. part.end w ≤ʳ limit)) cut.count cut.ended
            (rw here ended);
      }

module _ {T : Type 0} where
  -- a part behind others that are gone
  pub held_later : (x : Edge T) (m j : ℕ) → slice_get (held_of (without m x)) j ≡ slice_get (held_of x) (m + j)
  held_later x m j = ap (λ l. slice_get l j) (held_of-without m x) ∙ get-drop m (held_of x) j
    where
      get-drop : {X : Type 0} (n : ℕ) (xs : List X) (k : ℕ) → slice_get (drop n xs) k ≡ slice_get xs (n + k)
      get-drop zero xs k = let e : k ≡ 0 + k = omega arith in ap (slice_get xs) e
      get-drop (suc n) [] k = refl
      get-drop (suc n) (x ∷ xs) k = let e : suc (n + k) ≡ suc n + k = omega arith in get-drop n xs k ∙ ap (slice_get (x ∷ xs)) e

-- each of the first parts is so where the first ones are and those behind them
each_of_two : (P : ℕ → Type 0) (m n : ℕ) → ((k : ℕ) → k < m → P k) → ((j : ℕ) → j < n → P (m + j)) → (k : ℕ) → k < m + n → P k
each_of_two P m n first second k below = by_place (cases_lt k m)
  where
    by_place : (k < m) ⊎ (m ≤ k) → P k
    by_place (inl lt) = first k lt
    by_place (inr le) = let e : m + (k - m) ≡ k = omega (arith, le) in subst P e (second (k - m) (omega (arith, below, le)))

module _ {T : Type 0} {part : PartOf T} where
  -- some more may go that end by the limit
  pub cut_more : {limit : Rational} {old mid : Edge T} (new : Edge T) (n : ℕ) → IsCutBy part limit old mid → new ≡ without n mid
      → ((j : ℕ) → j < n → IfSome (slice_get (held_of mid) j) (λ v. part.end v ≤ʳ limit)) → IsCutBy part limit old new
  cut_more {limit} {old} {mid} new n cut is ended = record {
    count = cut.count + n;
    is = is ∙ ap (without n) cut.is ∙ without-more n cut.count old;
    ended = each_of_two (λ k. IfSome (slice_get (held_of old) k) (λ v. part.end v ≤ʳ limit)) cut.count n cut.ended
        (λ j below. subst (λ o. IfSome o (λ v. part.end v ≤ʳ limit))
        (ap (λ x. slice_get (held_of x) j) cut.is ∙ held_later old cut.count j) (ended j below));
  }

  -- what is dropped then is dropped of all
  pub cut_then : {limit : ℤ} {end : Rational} {old mid new : Edge T} → IsCutBy part end old mid → end ≈ whole limit → IsDroppedBy part limit mid new
      → IsDroppedBy part limit old new
  cut_then {limit} {end} {old} {mid} {new} cut same dropped = record {
    count = cut.count + dropped.count;
    is = dropped.is ∙ ap (without dropped.count) cut.is ∙ without-more dropped.count cut.count old;
    ended = each_of_two (λ k. IfSome (slice_get (held_of old) k) (λ v. part.end v ≤ʳ whole limit)) cut.count dropped.count
        (λ k below. each (slice_get (held_of old) k) (cut.ended k below))
        (λ j below. subst (λ o. IfSome o (λ v. part.end v ≤ʳ whole limit))
        (ap (λ x. slice_get (held_of x) j) cut.is ∙ held_later old cut.count j) (dropped.ended j below));
    rest = dropped.rest;
  }
    where
      each : (o : Option T) → IfSome o (λ v. part.end v ≤ʳ end) → IfSome o (λ v. part.end v ≤ʳ whole limit)
      each None h = h
      each (Some v) h = le_trans h (le_of_same same)

module _ {T : Type 0} where
  -- one part fewer is held
  pub fewer_held : (x : Edge T) (v : T) → slice_get (held_of x) 0 ≡ Some v → length (held_of (without 1 x)) < length (held_of x)
  fewer_held x v first =
      let some : 0 < length (held_of x) = slice_get_within (held_of x) 0 v first in
      let long : length (held_of (without 1 x)) ≡ length (drop 1 (held_of x)) = ap length (held_of-without 1 x) in
      omega (arith, length-drop 1 (held_of x))

module _ {T : Type 0} {part : PartOf T} where
  -- and what is left begins with a later end
  pub dropped_by : {limit : ℤ} {end : Rational} {old new : Edge T} → IsCutBy part end old new → end ≈ whole limit
      → IfSome (slice_get (held_of new) 0) (λ v. end <ʳ part.end v) → IsDroppedBy part limit old new
  dropped_by {limit} {end} {old} {new} cut same rest =
      record {
        count = cut.count;
        is = cut.is;
        ended = λ k below. each (slice_get (held_of old) k) (cut.ended k below);
        rest = beyond (slice_get (held_of new) 0) rest;
      }
    where
      each : (o : Option T) → IfSome o (λ v. part.end v ≤ʳ end) → IfSome o (λ v. part.end v ≤ʳ whole limit)
      each None h = h
      each (Some v) h = le_trans h (le_of_same same)

      beyond : (o : Option T) → IfSome o (λ v. end <ʳ part.end v) → IfSome o (λ v. whole limit <ʳ part.end v)
      beyond None h = h
      beyond (Some v) h = lt_of_le_of_lt (ge_of_same same) h

-- a number that is not at most another is above it
pub above_of_not : (a b : Rational) → (a ≤ʳ b → ⊥) → b <ʳ a
above_of_not a b not_le = elim (le_or_lt a b) [ inl le ↦ absurd (not_le le) | inr lt ↦ lt ]
