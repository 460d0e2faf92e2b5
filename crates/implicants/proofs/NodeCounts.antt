-- Two counts of the same nodes are one, and a sum that passes the limit and one that does not cannot both be.
use Rattle.std.proofs.Common.{◌≡◌, ℕ, suc, ◌+◌, ◌-◌, ◌*◌, ◌<◌, ◌≤◌, ◌⊎◌, inl, inr, List, [], ◌∷◌, length, refl, sym, ap, subst, arith}
use Rattle.rational.specs.Time.{Rational, ◌<ʳ◌, ◌≈◌}
use Rattle.rational.proofs.Order.{same_refl, same_sym, same_trans, same_of_le, lt_irrefl, lt_of_lt_of_le, le_of_same}
use Rattle.stl_syntax.specs.Trace.{Trace}
use Rattle.stl_syntax.specs.Cells.{IsCut, AreCuts, AreRisingTimes, IsAmong}
use Rattle.stl_syntax.specs.Kept.{CellCount, none, more, IsTooMany}
use Rattle.stl_syntax.specs.declared.node.Node.{Node}
use Rattle.implicants.proofs.Certain.{rising_first}
use Rattle.implicants.proofs.CutTimes.{among_cut, cut_same}

-- what is behind the first of rising times is later
rising_after : (x : Rational) (xs : List Rational) (t : Rational) → AreRisingTimes (x ∷ xs) → IsAmong xs t → x <ʳ t
rising_after x [] t r m = absurd m
rising_after x (y ∷ xs) t r m = lt_of_lt_of_le r.0 (rising_first y xs t r.1 m)

-- the times after the first of rising ones rise
pub rising_rest : (x : Rational) (xs : List Rational) → AreRisingTimes (x ∷ xs) → AreRisingTimes xs
rising_rest x [] r = tt
rising_rest x (y ∷ xs) r = r.1

-- rising times with the same members
pub record AreSameTimes (xs ys : List Rational) : Type 0 where
  -- the first are rising
  pub left : AreRisingTimes xs
  -- and the second
  pub right : AreRisingTimes ys
  -- each of the first is among the second
  pub there : (t : Rational) → IsAmong xs t → IsAmong ys t
  -- each of the second is among the first
  pub back : (t : Rational) → IsAmong ys t → IsAmong xs t

-- begin with the same time
pub first_is_same : (x y : Rational) (xs ys : List Rational) → AreSameTimes (x ∷ xs) (y ∷ ys) → x ≈ y
first_is_same x y xs ys s = same_of_le (rising_first x xs y s.left (s.back y (inl (same_refl y)))) (rising_first y ys x s.right (s.there x (inl (same_refl x))))

-- and have the same members behind it
pub rest_is_same : (x y : Rational) (xs ys : List Rational) → AreSameTimes (x ∷ xs) (y ∷ ys) → AreSameTimes xs ys
rest_is_same x y xs ys s = record { left = rising_rest x xs s.left; right = rising_rest y ys s.right; there = there; back = back }
  where
    heads : x ≈ y
    heads = first_is_same x y xs ys s

    there : (t : Rational) → IsAmong xs t → IsAmong ys t
    there t m = elim (s.there t (inr m)) [
      | inl e ↦ absurd (lt_irrefl (lt_of_lt_of_le (rising_after x xs t s.left m) (le_of_same (same_trans e (same_sym heads)))))
      | inr n ↦ n
    ]

    back : (t : Rational) → IsAmong ys t → IsAmong xs t
    back t m = elim (s.back t (inr m)) [
      | inl e ↦ absurd (lt_irrefl (lt_of_lt_of_le (rising_after y ys t s.right m) (le_of_same (same_trans e heads))))
      | inr n ↦ n
    ]

-- they are equally many
pub same_length : (xs ys : List Rational) → AreSameTimes xs ys → length xs ≡ length ys
same_length [] [] s = refl
same_length [] (y ∷ ys) s = absurd (s.back y (inl (same_refl y)))
same_length (x ∷ xs) [] s = absurd (s.there x (inl (same_refl x)))
same_length (x ∷ xs) (y ∷ ys) s = ap suc (same_length xs ys (rest_is_same x y xs ys s))

module _ (nodes : List Node) (tr : Trace) where
  -- a node has one list of cut times
  pub cuts_are_same : (i : ℕ) (xs ys : List Rational) → AreCuts nodes tr i xs → AreCuts nodes tr i ys → AreSameTimes xs ys
  cuts_are_same i xs ys a b = record {
    left = a.rising;
    right = b.rising;
    there = λ t m. b.complete t (cut_of i xs t a m);
    back = λ t m. a.complete t (cut_of i ys t b m);
  }
    where
      cut_of : (i : ℕ) (times : List Rational) (t : Rational) → AreCuts nodes tr i times → IsAmong times t → IsCut nodes tr i t
      cut_of i times t cuts m = let c = among_cut nodes tr i times t cuts.sound m in cut_same nodes tr i t c.0 c.1 c.2

  -- a node has one number of cut times, however they are listed
  pub cuts_are_as_many : (i : ℕ) (xs ys : List Rational) → AreCuts nodes tr i xs → AreCuts nodes tr i ys → length xs ≡ length ys
  cuts_are_as_many i xs ys a b = same_length xs ys (cuts_are_same i xs ys a b)

  -- a count begins at a node, or behind the last one
  count_within : (i n : ℕ) → CellCount nodes tr i n → i ≤ length nodes
  count_within i m none = omega arith
  count_within i m (more {n} times before cuts) = let l = count_within (suc i) n before in omega (arith, l)

  -- the count of a node and those behind it
  record IsMore (i m : ℕ) : Type 0 where
    -- the cells of the later nodes
    pub n : ℕ
    -- the cut times of the node
    pub times : List Rational
    -- that many cells the later nodes have
    pub before : CellCount nodes tr (suc i) n
    -- these are all its cut times
    pub cuts : AreCuts nodes tr i times
    -- each cut time gives a cell, and each gap between two of them
    pub is : m ≡ n + (2 * length times - 1)

  count_cases : (i m : ℕ) → CellCount nodes tr i m → ((i ≡ length nodes) × (m ≡ 0)) ⊎ IsMore i m
  count_cases i m none = inl (refl, refl)
  count_cases i m (more {n} times before cuts) = inr (record { n = n; times = times; before = before; cuts = cuts; is = refl })

  -- the nodes from one place on have one number of cells
  pub one_count : (i j n m : ℕ) → i ≡ j → CellCount nodes tr i n → CellCount nodes tr j m → n ≡ m
  one_count i j k m e none b = by_cases (count_cases j m b)
    where
      by_cases : ((j ≡ length nodes) × (m ≡ 0)) ⊎ IsMore j m → 0 ≡ m
      by_cases (inl h) = sym h.1
      by_cases (inr r) = let l = count_within (suc j) r.n r.before in absurd (omega (arith, l, e))
  one_count i j k m e (more {n} times before cuts) b = by_cases (λ x c. one_count (suc i) (suc j) n x (ap suc e) before c) (count_cases j m b)
    where
      by_cases : ((x : ℕ) → CellCount nodes tr (suc j) x → n ≡ x) → ((j ≡ length nodes) × (m ≡ 0)) ⊎ IsMore j m → n + (2 * length times - 1) ≡ m
      by_cases same (inl h) = let l = count_within (suc i) n before in let f = h.0 in absurd (omega (arith, l, e, f))
      by_cases same (inr r) =
          let first : n ≡ r.n = same r.n r.before in
          let many : length times ≡ length r.times = cuts_are_as_many j times r.times (subst (λ h. AreCuts nodes tr h times) e cuts) r.cuts in
          let is = r.is in
          omega (arith, first, many, is)

  -- the sum does not fall from a node to those before it
  pub count_grows : (i j n m : ℕ) → i ≤ j → CellCount nodes tr i n → CellCount nodes tr j m → m ≤ n
  count_grows i j k m l none b =
      let h = count_within j m b in
      let e : 0 ≡ m = one_count (length nodes) j 0 m (omega (arith, l, h)) none b in
      omega (arith, e)
  count_grows i j k m l (more {n} times before cuts) b = by_place (λ h. count_grows (suc i) j n m h before b) (first_or_later l)
    where
      first_or_later : i ≤ j → (i ≡ j) ⊎ (suc i ≤ j)
      first_or_later h = grind arith

      by_place : (suc i ≤ j → m ≤ n) → (i ≡ j) ⊎ (suc i ≤ j) → m ≤ n + (2 * length times - 1)
      by_place grows (inl e) = let same = one_count i j (n + (2 * length times - 1)) m e (more times before cuts) b in omega (arith, same)
      by_place grows (inr h) = let less = grows h in omega (arith, less)

  -- the sum at which a limit is passed is one
  pub one_too_many : (limit n m : ℕ) → IsTooMany nodes tr limit n → IsTooMany nodes tr limit m → n ≡ m
  one_too_many limit n m a b = by_order (three a.place b.place)
    where
      three : (p q : ℕ) → (p ≡ q) ⊎ (suc p ≤ q) ⊎ (suc q ≤ p)
      three p q = grind arith

      by_order : (a.place ≡ b.place) ⊎ (suc a.place ≤ b.place) ⊎ (suc b.place ≤ a.place) → n ≡ m
      by_order (inl e) = one_count a.place b.place n m e a.count_here b.count_here
      by_order (inr (inl l)) =
          let less = count_grows (suc a.place) b.place a.before m l a.count_before b.count_here in
          let within = a.within in
          let passed = b.passed in
          absurd (omega (arith, less, within, passed))
      by_order (inr (inr l)) =
          let less = count_grows (suc b.place) a.place b.before n l b.count_before a.count_here in
          let within = b.within in
          let passed = a.passed in
          absurd (omega (arith, less, within, passed))

  -- it is passed only where all cells are more
  pub too_many_is_more : (limit count n : ℕ) → IsTooMany nodes tr limit count → CellCount nodes tr 0 n → limit < n
  too_many_is_more limit count n t c =
      let less = count_grows 0 t.place n count (omega arith) c t.count_here in
      let passed = t.passed in
      omega (arith, less, passed)
