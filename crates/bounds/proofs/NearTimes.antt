-- Open stretches about a time, and times that lie in them.
use Rattle.std.proofs.Common.{ℕ, ◌+◌, ◌*◌, ◌≤◌, arith, inl, inr}
use Rattle.std.specs.Prelude.{◌⊎◌}
use Rattle.rational.specs.Time.{Rational, ◌≤ʳ◌, ◌<ʳ◌, ◌≈◌, Within}
use Rattle.rational.proofs.Order.{le_refl, le_of_lt, lt_of_lt_of_le, lt_of_le_of_lt, le_or_lt, not_lt_of_le, lt_or_same_or_gt}
use Rattle.std.proofs.Math.Nat.{mul-pos}

-- a whole number, as a difference
pub record Move : Type 0 where
  -- how far ahead
  pub up : ℕ
  -- how far behind
  pub down : ℕ

-- t plus it
abbrev pub by : Rational → Move → Rational
by t k = record { up = t.up + k.up * t.den; down = t.down + k.down * t.den; den = t.den; positive = t.positive }

-- the number turned
abbrev pub back : Move → Move
back k = record { up = k.down; down = k.up }

abbrev pub ahead : ℕ → Move
ahead a = record { up = a; down = 0 }

abbrev pub behind : ℕ → Move
behind a = record { up = 0; down = a }

-- one tick behind is earlier
pub one_before : (t : Rational) → by t (behind 1) <ʳ t
one_before t = record { lt = let p = mul-pos t.positive t.positive in omega (arith, p) }

-- one tick ahead is later
pub one_after : (t : Rational) → t <ʳ by t (ahead 1)
one_after t = record { lt = let p = mul-pos t.positive t.positive in omega (arith, p) }

-- an open stretch about t
pub record Near (t : Rational) : Type 0 where
  -- from when
  pub from : Rational
  -- until when
  pub to : Rational
  -- it begins before the time
  pub before : from <ʳ t
  -- and ends after it
  pub after : t <ʳ to

-- u lies in it
pub record IsNear {t : Rational} (n : Near t) (u : Rational) : Type 0 where
  -- later than its begin
  pub above : n.from <ʳ u
  -- and earlier than its end
  pub below : u <ʳ n.to

-- what lies between two times of it does too
pub between : {t : Rational} (n : Near t) {x y u : Rational} → IsNear n x → IsNear n y → x ≤ʳ u → u ≤ʳ y → IsNear n u
between n p q h k = record { above = lt_of_lt_of_le p.above h; below = lt_of_le_of_lt k q.below }

-- the times less than one earlier or later than t
abbrev pub soon : (t : Rational) → Near t
soon t = record { from = by t (behind 1); to = by t (ahead 1); before = one_before t; after = one_after t }

-- a time is near itself
pub itself : {t : Rational} (n : Near t) → IsNear n t
itself n = record { above = n.before; below = n.after }

-- a time before t that is not before a or b
pub record Later (t a b : Rational) : Type 0 where
  -- a time
  pub time : Rational
  -- earlier than t
  pub before : time <ʳ t
  -- but not than the one
  pub left : a ≤ʳ time
  -- nor than the other
  pub right : b ≤ʳ time

-- two earlier times have such a time
pub later_one : (t a b : Rational) → a <ʳ t → b <ʳ t → Later t a b
later_one t a b p q = elim (le_or_lt a b) [
  | inl h ↦ record { time = b; before = q; left = h; right = le_refl b }
  | inr h ↦ record { time = a; before = p; left = le_refl a; right = le_of_lt h }
]

-- a time after t that is not after a or b
pub record Earlier (t a b : Rational) : Type 0 where
  -- a time
  pub time : Rational
  -- later than t
  pub after : t <ʳ time
  -- but not than the one
  pub left : time ≤ʳ a
  -- nor than the other
  pub right : time ≤ʳ b

-- two later times have such a time
pub earlier_one : (t a b : Rational) → t <ʳ a → t <ʳ b → Earlier t a b
earlier_one t a b p q = elim (le_or_lt a b) [
  | inl h ↦ record { time = a; after = p; left = le_refl a; right = h }
  | inr h ↦ record { time = b; after = q; left = le_of_lt h; right = le_refl b }
]

-- a stretch within two
pub record Within2 {t : Rational} (n m : Near t) : Type 0 where
  -- a stretch about the time
  pub near : Near t
  -- which lies in the first
  pub first : (u : Rational) → IsNear near u → IsNear n u
  -- and in the second
  pub second : (u : Rational) → IsNear near u → IsNear m u

-- two stretches about a time have one in both
pub within_both : {t : Rational} (n m : Near t) → Within2 n m
within_both {t} n m =
    let l = later_one t n.from m.from n.before m.before in
    let e = earlier_one t n.to m.to n.after m.after in record {
      near = record { from = l.time; to = e.time; before = l.before; after = e.after };
      first = λ u h. record { above = lt_of_le_of_lt l.left h.above; below = lt_of_lt_of_le h.below e.left };
      second = λ u h. record { above = lt_of_le_of_lt l.right h.above; below = lt_of_lt_of_le h.below e.right };
    }

-- moving keeps the order
pub lt_by : {t u : Rational} (k : Move) → t <ʳ u → by t k <ʳ by u k
lt_by {t} {u} k h = record { lt = omega (arith, h.lt) }

-- and so it does where the two may be one
pub le_by : {t u : Rational} (k : Move) → t ≤ʳ u → by t k ≤ʳ by u k
le_by {t} {u} k h = record { le = omega (arith, h.le) }

-- what is earlier than a moved time is, moved back, earlier than it
pub back_below : {t a : Rational} (k : Move) → a <ʳ by t k → by a (back k) <ʳ t
back_below {t} {a} k h = record { lt = omega (arith, h.lt) }

-- what is later than a moved time is, moved back, later than the time
pub back_above : {t a : Rational} (k : Move) → by t k <ʳ a → t <ʳ by a (back k)
back_above {t} {a} k h = record { lt = omega (arith, h.lt) }

on_below : {t a : Rational} (k : Move) → by a (back k) <ʳ t → a <ʳ by t k
on_below {t} {a} k h = record { lt = omega (arith, h.lt) }

on_above : {t a : Rational} (k : Move) → t <ʳ by a (back k) → by t k <ʳ a
on_above {t} {a} k h = record { lt = omega (arith, h.lt) }

-- the times that lie in a stretch about a time once they are moved
abbrev pub pulled : {t : Rational} (k : Move) → Near (by t k) → Near t
pulled k n = record { from = by n.from (back k); to = by n.to (back k); before = back_below k n.before; after = back_above k n.after }

-- a time near the stretch moved back is, moved, near the stretch
pub pushed : {t : Rational} (k : Move) (n : Near (by t k)) {u : Rational} → IsNear (pulled k n) u → IsNear n (by u k)
pushed k n h = record { above = on_below k h.above; below = on_above k h.below }

-- a stretch that lies on one side of s
pub record Clear (s t : Rational) : Type 0 where
  -- a stretch about the time
  pub near : Near t
  -- which lies on one side of s
  pub side : ((u : Rational) → IsNear near u → u <ʳ s) ⊎ ((u : Rational) → IsNear near u → s <ʳ u)

-- a time that is not s has such a stretch
pub clear_of : (s t : Rational) → ¬ (t ≈ s) → Clear s t
clear_of s t other = elim (lt_or_same_or_gt t s) [
  | inl h ↦ record {
    near = record { from = by t (behind 1); to = s; before = one_before t; after = h };
    side = inl (λ u i. i.below);
  }
  | inr (inl e) ↦ absurd (other e)
  | inr (inr h) ↦ record {
    near = record { from = s; to = by t (ahead 1); before = h; after = one_after t };
    side = inr (λ u i. i.above);
  }
]

-- so the times of it lie between two numbers all or none
pub stays : {S T t : Rational} {n : Near t} (s : Clear S t) (e : Clear T t) → ((u : Rational) → IsNear n u → IsNear s.near u)
    → ((u : Rational) → IsNear n u → IsNear e.near u)
    → (u v : Rational) → IsNear n u → IsNear n v → Within S T u → Within S T v
stays {S} {T} s e f g u v p q w = record {
  above = elim s.side [ inl h ↦ absurd (not_lt_of_le w.above (h u (f u p))) | inr h ↦ le_of_lt (h v (f v q)) ];
  below = elim e.side [ inl h ↦ le_of_lt (h v (g v q)) | inr h ↦ absurd (not_lt_of_le w.below (h u (g u p))) ];
}

-- two times of it lie on one side
pub side : {s t : Rational} (c : Clear s t) {u v : Rational} → IsNear c.near u → IsNear c.near v → (u <ʳ s) × (v <ʳ s) ⊎ (s <ʳ u) × (s <ʳ v)
side c {u} {v} p q = elim c.side [ inl f ↦ inl (f u p, f v q) | inr f ↦ inr (f u p, f v q) ]

-- t is no fraction with a denominator up to N
abbrev pub IsRare : ℕ → Rational → Type 0
IsRare N t = (v : Rational) → v.den ≤ N → ¬ (t ≈ v)

-- such a time stays so when it is moved
pub rare_by : (N : ℕ) (t : Rational) (k : Move) → IsRare N t → IsRare N (by t k)
rare_by N t k r v few e = r (by v (back k)) few (record { same = omega (arith, e.same) })
