-- The windows of time as tests of a point that has the time in the window first, and then the time at which the window is taken.
use Rattle.std.proofs.Common.{ℕ, ◌↔◌, inl, inr, List, [], ◌∷◌, pos, negsuc, Bool, true, false, Option, Some, None, arith}
use Rattle.std.specs.Prelude.{IfSome}
use Rattle.rational.specs.Rational.{Rational, ◌<ʳ◌, ◌≤ʳ◌, whole, add, negate, multiply}
use Rattle.rational.specs.Time.{Within, Precedes, later}
use Rattle.rational.specs.Windows.{Ahead, Behind}
use Rattle.rational.specs.Extended.{Extended, minus_infinity, finite, infinity, ◌≤ᵉ◌}
use Rattle.rational.proofs.Order.{le_or_lt, lt_irrefl, not_lt_of_le, le_of_same, ge_of_same, lt_of_lt_of_le}
use Rattle.rational.proofs.TimeLemmas.{within_stretch}
use Rattle.values_exist.proofs.Sums.{alone, plus, nought, nothing_first, put, put_value, widen, widen_value}
use Rattle.values_exist.proofs.LinearTests.{Test, above, opposite, both, Passes, changed, changed_alike}
use Rattle.values_exist.proofs.Extremes.{IsSlice, IsUpToTest, TellsWindow}

-- the numbers 1 and -1
abbrev plus_one : Rational
plus_one = whole (pos 1)

abbrev minus_one : Rational
minus_one = whole (negsuc 0)

-- what a test says of no comparison below it
denied : {A : Type 0} (a b : Rational) → (A → a <ʳ b) → (a <ʳ b → A) → (¬ A) ↔ (b ≤ʳ a)
denied a b forth back = (λ n. elim (le_or_lt b a) [ inl h ↦ h | inr h ↦ absurd (n (back h)) ], λ h k. not_lt_of_le h (forth k))

-- k after the second number, the first comes
abbrev first_after : ℕ → Test
first_after k = above (plus plus_one (plus minus_one (alone (negate (whole (pos k))))))

first_after_passes : (k : ℕ) (u t : Rational) (point : List Rational) → Passes (first_after k) (u ∷ t ∷ point) ↔ (later t k <ʳ u)
first_after_passes k u t point = (λ h. omega arith, λ h. omega arith)

-- the first comes before k after the second
abbrev first_before : ℕ → Test
first_before k = above (plus minus_one (plus plus_one (alone (whole (pos k)))))

first_before_passes : (k : ℕ) (u t : Rational) (point : List Rational) → Passes (first_before k) (u ∷ t ∷ point) ↔ (u <ʳ later t k)
first_before_passes k u t point = (λ h. omega arith, λ h. omega arith)

-- the second comes before k after the first
abbrev second_before : ℕ → Test
second_before k = above (plus plus_one (plus minus_one (alone (whole (pos k)))))

second_before_passes : (k : ℕ) (u t : Rational) (point : List Rational) → Passes (second_before k) (u ∷ t ∷ point) ↔ (t <ʳ later u k)
second_before_passes k u t point = (λ h. omega arith, λ h. omega arith)

-- k after the first, the second comes
abbrev second_after : ℕ → Test
second_after k = above (plus minus_one (plus plus_one (alone (negate (whole (pos k))))))

second_after_passes : (k : ℕ) (u t : Rational) (point : List Rational) → Passes (second_after k) (u ∷ t ∷ point) ↔ (later u k <ʳ t)
second_after_passes k u t point = (λ h. omega arith, λ h. omega arith)

-- the window begins k after the second number, and the first has come
abbrev begins_test : Bool → ℕ → Test
begins_test true k = opposite (first_before k)
begins_test false k = first_after k

begins_passes : (b : Bool) (k : ℕ) (u t : Rational) (point : List Rational) → Passes (begins_test b k) (u ∷ t ∷ point) ↔ Precedes b (later t k) u
begins_passes true k u t point = let p = first_before_passes k u t point in denied u (later t k) p.0 p.1
begins_passes false k u t point = first_after_passes k u t point

-- the window ends k after the second number, and the first is not past it
abbrev ends_test : Bool → ℕ → Test
ends_test true k = opposite (first_after k)
ends_test false k = first_before k

ends_passes : (b : Bool) (k : ℕ) (u t : Rational) (point : List Rational) → Passes (ends_test b k) (u ∷ t ∷ point) ↔ Precedes b u (later t k)
ends_passes true k u t point = let p = first_after_passes k u t point in denied (later t k) u p.0 p.1
ends_passes false k u t point = first_before_passes k u t point

-- the second number is at most k after the first
abbrev behind_begins_test : Bool → Option ℕ → Test
behind_begins_test b None = opposite (above (alone nought))
behind_begins_test true (Some k) = opposite (second_after k)
behind_begins_test false (Some k) = second_before k

behind_begins_passes : (b : Bool) (k : Option ℕ) (u t : Rational) (point : List Rational)
    → Passes (behind_begins_test b k) (u ∷ t ∷ point) ↔ IfSome k (λ k. Precedes b t (later u k))
behind_begins_passes true None u t point = (λ h. tt, λ h k. lt_irrefl k)
behind_begins_passes false None u t point = (λ h. tt, λ h k. lt_irrefl k)
behind_begins_passes true (Some k) u t point = let p = second_after_passes k u t point in denied (later u k) t p.0 p.1
behind_begins_passes false (Some k) u t point = second_before_passes k u t point

-- the second number is at least k after the first
abbrev behind_ends_test : Bool → ℕ → Test
behind_ends_test true k = opposite (second_before k)
behind_ends_test false k = second_after k

behind_ends_passes : (b : Bool) (k : ℕ) (u t : Rational) (point : List Rational) → Passes (behind_ends_test b k) (u ∷ t ∷ point) ↔ Precedes b (later u k) t
behind_ends_passes true k u t point = let p = second_before_passes k u t point in denied t (later u k) p.0 p.1
behind_ends_passes false k u t point = second_after_passes k u t point

-- a time and a number as a point
abbrev pub one_time : Rational → Rational → List Rational
one_time t x = t ∷ x ∷ []

-- two times and a number
abbrev pub two_times : Rational → Rational → Rational → List Rational
two_times u t x = u ∷ t ∷ x ∷ []

-- the window ahead
abbrev pub ahead_test : ℕ → ℕ → Bool → Bool → Test
ahead_test a b a_in b_in = both (begins_test a_in a) (ends_test b_in b)

-- is told by that test
pub tells_ahead : (from to : Rational) (a b : ℕ) (a_in b_in : Bool) (t : Rational)
    → TellsWindow from to (one_time t) (Ahead from to a b a_in b_in t) (ahead_test a b a_in b_in)
tells_ahead from to a b a_in b_in t = record {
  inside = λ u m. m.inside;
  passes = λ u x m. ((begins_passes a_in a u t (x ∷ [])).1 m.begins, (ends_passes b_in b u t (x ∷ [])).1 m.ends);
  is_in = λ u x w p. record { inside = w; begins = (begins_passes a_in a u t (x ∷ [])).0 p.0; ends = (ends_passes b_in b u t (x ∷ [])).0 p.1 };
}

-- the window behind
abbrev pub behind_test : ℕ → Option ℕ → Bool → Bool → Test
behind_test a b a_in b_in = both (behind_begins_test b_in b) (behind_ends_test a_in a)

-- is told by that test
pub tells_behind : (from to : Rational) (a : ℕ) (b : Option ℕ) (a_in b_in : Bool) (t : Rational)
    → TellsWindow from to (one_time t) (Behind from to a b a_in b_in t) (behind_test a b a_in b_in)
tells_behind from to a b a_in b_in t = record {
  inside = λ u m. m.inside;
  passes = λ u x m. ((behind_begins_passes b_in b u t (x ∷ [])).1 m.begins, (behind_ends_passes a_in a u t (x ∷ [])).1 m.ends);
  is_in = λ u x w p. record {
    inside = w;
    begins = (behind_begins_passes b_in b u t (x ∷ [])).0 p.0;
    ends = (behind_ends_passes a_in a u t (x ∷ [])).0 p.1;
  };
}

-- the first number comes before the second, and after it
abbrev before_second : Test
before_second = above (plus minus_one (plus plus_one (alone nought)))

abbrev after_second : Test
after_second = above (plus plus_one (plus minus_one (alone nought)))

before_second_passes : (y u : Rational) (point : List Rational) → Passes before_second (y ∷ u ∷ point) ↔ (y <ʳ u)
before_second_passes y u point = (λ h. omega arith, λ h. omega arith)

after_second_passes : (y u : Rational) (point : List Rational) → Passes after_second (y ∷ u ∷ point) ↔ (u <ʳ y)
after_second_passes y u point = (λ h. omega arith, λ h. omega arith)

-- so with the third
before_third_passes : (y u t : Rational) (point : List Rational) → Passes (changed widen before_second) (y ∷ u ∷ t ∷ point) ↔ (y <ʳ t)
before_third_passes y u t point =
    let w = changed_alike widen (y ∷ u ∷ t ∷ point) (y ∷ t ∷ point) (λ f. widen_value f y u (t ∷ point)) before_second in
    let p = before_second_passes y t point in
    (λ h. p.0 (w.0 h), λ h. w.1 (p.1 h))

after_third_passes : (y u t : Rational) (point : List Rational) → Passes (changed widen after_second) (y ∷ u ∷ t ∷ point) ↔ (t <ʳ y)
after_third_passes y u t point =
    let w = changed_alike widen (y ∷ u ∷ t ∷ point) (y ∷ t ∷ point) (λ f. widen_value f y u (t ∷ point)) after_second in
    let p = after_second_passes y t point in
    (λ h. p.0 (w.0 h), λ h. w.1 (p.1 h))

-- the first number lies from the third to the second
abbrev pub from_third_test : Test
from_third_test = both (opposite (changed widen before_second)) (opposite after_second)

-- which tells the stretch from t to u
pub tells_from_third : (from to u t : Rational) → Within from to t → Within from to u → TellsWindow from to (two_times u t) (Within t u) from_third_test
tells_from_third from to u t wt wu = record {
  inside = λ y m. within_stretch wt wu m;
  passes = λ y x m.
      let p = before_third_passes y u t (x ∷ []) in
      let q = after_second_passes y u (t ∷ x ∷ []) in
      ((denied y t p.0 p.1).1 m.above, (denied u y q.0 q.1).1 m.below);
  is_in = λ y x w h.
      let p = before_third_passes y u t (x ∷ []) in
      let q = after_second_passes y u (t ∷ x ∷ []) in
      record { above = (denied y t p.0 p.1).0 h.0; below = (denied u y q.0 q.1).0 h.1 };
}

-- the first number lies from the second to the third
abbrev pub to_third_test : Test
to_third_test = both (opposite before_second) (opposite (changed widen after_second))

-- which tells the stretch from u to t
pub tells_to_third : (from to u t : Rational) → Within from to t → Within from to u → TellsWindow from to (two_times u t) (Within u t) to_third_test
tells_to_third from to u t wt wu = record {
  inside = λ y m. within_stretch wu wt m;
  passes = λ y x m.
      let p = before_second_passes y u (t ∷ x ∷ []) in
      let q = after_third_passes y u t (x ∷ []) in
      ((denied y u p.0 p.1).1 m.above, (denied t y q.0 q.1).1 m.below);
  is_in = λ y x w h.
      let p = before_second_passes y u (t ∷ x ∷ []) in
      let q = after_third_passes y u t (x ∷ []) in
      record { above = (denied y u p.0 p.1).0 h.0; below = (denied t y q.0 q.1).0 h.1 };
}

-- the second number is at most a value
abbrev pub limit_test : Extended → Test
limit_test minus_infinity = above (alone nought)
limit_test (finite l) = opposite (above (plus nought (plus plus_one (alone (negate l)))))
limit_test infinity = opposite (above (alone nought))

limit_passes : (r : Extended) (z x : Rational) (point : List Rational) → Passes (limit_test r) (z ∷ x ∷ point) ↔ (finite x ≤ᵉ r)
limit_passes minus_infinity z x point = (λ h. absurd (lt_irrefl h), λ h. absurd h)
limit_passes infinity z x point = (λ h. tt, λ h k. lt_irrefl k)
limit_passes (finite l) z x point = denied l x (λ h. out z l x (lt_of_lt_of_le h (le_of_same (nothing_first z (add (multiply plus_one x) (negate l))))))
    (λ h. lt_of_lt_of_le (into l x h) (ge_of_same (nothing_first z (add (multiply plus_one x) (negate l)))))
  where
    out : (z l x : Rational) → nought <ʳ add (multiply plus_one x) (negate l) → l <ʳ x
    out z l x h = omega arith

    into : (l x : Rational) → l <ʳ x → nought <ʳ add (multiply plus_one x) (negate l)
    into l x h = omega arith

-- at one time
pub limit_at_one : (r : Extended) (t : Rational) → IsUpToTest (one_time t) (limit_test r) r
limit_at_one r t x = limit_passes r t x []

-- at two
pub limit_at_two : (r : Extended) (u t : Rational) → IsUpToTest (two_times u t) (changed widen (limit_test r)) r
limit_at_two r u t x =
    let w = changed_alike widen (u ∷ t ∷ x ∷ []) (u ∷ x ∷ []) (λ f. widen_value f u t (x ∷ [])) (limit_test r) in
    let p = limit_passes r u x [] in
    (λ h. p.0 (w.0 h), λ h. w.1 (p.1 h))

-- at a fixed time a test of a time and a number is one of the number
pub slice_at_one : (t : Rational) → IsSlice (one_time t)
slice_at_one t φ = (changed (put (alone t)) φ, λ x. changed_alike (put (alone t)) (x ∷ []) (t ∷ x ∷ []) (λ f. put_value (alone t) f (x ∷ [])) φ)

-- at two fixed times, too
pub slice_at_two : (u t : Rational) → IsSlice (two_times u t)
slice_at_two u t φ =
    let s = slice_at_one t (changed (put (alone u)) φ) in (
      s.0,
      λ x.
          let p = changed_alike (put (alone u)) (t ∷ x ∷ []) (u ∷ t ∷ x ∷ []) (λ f. put_value (alone u) f (t ∷ x ∷ [])) φ in
          (λ h. p.0 ((s.1 x).0 h), λ h. (s.1 x).1 (p.1 h)),
    )
