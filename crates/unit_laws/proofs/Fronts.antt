-- How far a stream has answered, by another clock.
use Rattle.std.proofs.Common.{◌≡◌, ℕ, ◌+◌, ◌-◌, ◌*◌, ◌<◌, ◌≤◌, Bool, true, false, refl, sym, ap, ◌∙◌, subst, arith, inl, inr, ℤ, pos, Option, Some, None}
use Rattle.std.specs.Prelude.{◌-ℤ◌, ◌≤ℤ◌, int_lt, max, if◌then◌else◌}
use Rattle.std.proofs.Math.Nat.{mul-sub, mul-le-mul_left}
use Rattle.std.proofs.lemmas.Bool.{cases_lt}
use Rattle.rational.specs.Time.{Rational, ◌≤ʳ◌, ◌≈◌, whole}
use Rattle.rational.proofs.Order.{same_sym, same_trans, le_of_same, ge_of_same, lt_of_lt_of_le, lt_of_le_of_lt, not_lt_of_le}
use Rattle.rational.proofs.Mixed.{parts}
use Rattle.rational.proofs.Shift.{lt_whole}
use Rattle.rational.proofs.Tests.{int_order}
use Rattle.stl_syntax.specs.Formula.{Subformula, constant, atom, negation, conjunction, disjunction, horizon}
use Rattle.stl_syntax.specs.Formula.{implication, until, eventually, always, since, once, historically}
use Rattle.stl_syntax.specs.Stream.{answered_by}
use Rattle.bounds.proofs.NearTimes.{ahead}
use Rattle.unit_laws.proofs.Clocks.{clock, clock_lt, clock_same, lt_of_clock}
use Rattle.unit_laws.proofs.FinerTrees.{finer_tree}

-- ---- horizons

max_times : (K a b : ℕ) → max (K * a) (K * b) ≡ K * max a b
max_times K a b = elim (cases_lt a b) [
  | inl l ↦
      let order : a ≤ b = omega (arith, l) in
      let m = mul-le-mul_left K order in
      let e : max a b ≡ b = omega (arith, l) in
      let f : max (K * a) (K * b) ≡ K * b = omega (arith, m) in
      f ∙ ap (λ x. K * x) (sym e)
  | inr l ↦
      let m = mul-le-mul_left K l in
      let e : max a b ≡ a = omega (arith, l) in
      let f : max (K * a) (K * b) ≡ K * a = omega (arith, m) in
      f ∙ ap (λ x. K * x) (sym e)
]

sum_times : (K a b : ℕ) → K * a + K * b ≡ K * (a + b)
sum_times K a b = omega arith

module _ (K M : ℕ) where
  two : (a b x y : ℕ) → x ≡ K * a → y ≡ K * b → max x y ≡ K * max a b
  two a b x y e f = ap (λ z. max z y) e ∙ ap (λ z. max (K * a) z) f ∙ max_times K a b

  onward : (a b x : ℕ) → x ≡ K * b → K * a + x ≡ K * (a + b)
  onward a b x e = ap (λ z. K * a + z) e ∙ sum_times K a b

  backward : (a b x : ℕ) → x ≡ K * b → x - K * a ≡ K * (b - a)
  backward a b x e = ap (λ z. z - K * a) e ∙ sym (mul-sub K b a)

  -- the horizon is K times as far
  pub horizon_by : (p : Subformula) → horizon (finer_tree K M p) ≡ K * horizon p
  horizon_by (constant b) = omega arith
  horizon_by (atom i a) = omega arith
  horizon_by (negation p) = horizon_by p
  horizon_by (conjunction p q) = two (horizon p) (horizon q) _ _ (horizon_by p) (horizon_by q)
  horizon_by (disjunction p q) = two (horizon p) (horizon q) _ _ (horizon_by p) (horizon_by q)
  horizon_by (implication p q) = two (horizon p) (horizon q) _ _ (horizon_by p) (horizon_by q)
  horizon_by (until a b p q) = onward b (max (horizon p) (horizon q)) _ (two (horizon p) (horizon q) _ _ (horizon_by p) (horizon_by q))
  horizon_by (eventually a b a_in b_in p) = onward b (horizon p) _ (horizon_by p)
  horizon_by (always a b a_in b_in p) = onward b (horizon p) _ (horizon_by p)
  horizon_by (since a b p q) = two (horizon p) (horizon q - a) _ _ (horizon_by p) (backward a (horizon q) _ (horizon_by q))
  horizon_by (once a b a_in b_in p) = backward a (horizon p) _ (horizon_by p)
  horizon_by (historically a b a_in b_in p) = backward a (horizon p) _ (horizon_by p)

-- ---- fronts

le_whole : (i j : ℤ) → i ≤ℤ j → whole i ≤ʳ whole j
le_whole i j h = record { le = omega (arith, parts, h) }

-- a difference of two whole numbers
difference : ℕ → ℕ → Rational
difference a b = record { up = a; down = b; den = 1; positive = omega arith }

difference_is : (a b : ℕ) → whole (pos a -ℤ pos b) ≈ difference a b
unfolding difference
difference_is a b = record { same = omega (arith, parts) }

module _ (K o : ℕ) (kp : 0 < K) where
  -- the second number is what the clock shows at the first
  abbrev pub IsShownAt : ℤ → ℤ → Type 0
  IsShownAt i j = whole j ≈ clock K (ahead o) (whole i)

  -- a row time
  pub row_shown : (t : ℕ) → IsShownAt (pos t) (pos (K * t + o))
  row_shown t = record { same = omega arith }

  -- the test of an order is that by the clock
  pub less_shown : (i j i' j' : ℤ) → IsShownAt i i' → IsShownAt j j' → int_lt i' j' ≡ int_lt i j
  less_shown i j i' j' a b = by_tests (int_lt i' j') (int_lt i j) refl refl
    where
      by_tests : (x y : Bool) → int_lt i' j' ≡ x → int_lt i j ≡ y → int_lt i' j' ≡ int_lt i j
      by_tests true true e f = e ∙ sym f
      by_tests false false e f = e ∙ sym f
      by_tests true false e f =
          let l = lt_whole (int_order i' j' true e) in
          let g = lt_of_clock K (ahead o) (lt_of_le_of_lt (ge_of_same a) (lt_of_lt_of_le l (le_of_same b))) in
          absurd (not_lt_of_le (le_whole j i (int_order i j false f)) g)
      by_tests false true e f =
          let l = clock_lt K (ahead o) kp (lt_whole (int_order i j true f)) in
          let g = lt_of_le_of_lt (le_of_same a) (lt_of_lt_of_le l (ge_of_same b)) in
          absurd (not_lt_of_le (le_whole j' i' (int_order i' j' false e)) g)

  -- what was answered, and what was answered by the clock
  abbrev pub AreFronts : Option ℤ → Option ℤ → Type 0
  AreFronts None None = Unit {0}
  AreFronts None (Some j) = ⊥
  AreFronts (Some i) None = ⊥
  AreFronts (Some i) (Some j) = IsShownAt i j

  clock_difference : (a b : ℕ) → clock K (ahead o) (difference a b) ≈ difference (K * a + o) (K * b)
  unfolding difference
  clock_difference a b = record { same = omega arith }

  front_shown : (s h : ℕ) → IsShownAt (pos s -ℤ pos h) (pos (K * s + o) -ℤ pos (K * h))
  front_shown s h =
      same_trans (difference_is (K * s + o) (K * h)) (same_trans (same_sym (clock_difference s h)) (clock_same K (ahead o) (same_sym (difference_is s h))))

  module _ (M : ℕ) (p : Subformula) where
    -- the front of a row is by the clock that of the row
    pub answered_fronts : (begin s : ℕ) → AreFronts (answered_by begin p s) (answered_by (K * begin + o) (finer_tree K M p) (K * s + o))
    answered_fronts begin s =
        subst (λ h. AreFronts (answered_by begin p s) (if int_lt (pos (K * s + o) -ℤ pos h) (pos (K * begin + o))
        then None else Some (pos (K * s + o) -ℤ pos h))) (sym (horizon_by K M p))
        (by_test (pos s -ℤ pos (horizon p)) (pos (K * s + o) -ℤ pos (K * horizon p)) (int_lt (pos s -ℤ pos (horizon p)) (pos begin))
        (int_lt (pos (K * s + o) -ℤ pos (K * horizon p)) (pos (K * begin + o)))
        (less_shown (pos s -ℤ pos (horizon p)) (pos begin) _ _ (front_shown s (horizon p)) (row_shown begin)) (front_shown s (horizon p)))
      where
        by_test : (i j : ℤ) (x y : Bool) → y ≡ x → IsShownAt i j → AreFronts (if x then None else Some i) (if y then None else Some j)
        by_test i j true true e h = tt
        by_test i j false false e h = h
        by_test i j true false e h = absurd (let z : false ≡ true = e in cc)
        by_test i j false true e h = absurd (let z : true ≡ false = e in cc)
