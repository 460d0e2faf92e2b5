-- Moves and multiples of a number do not depend on its pair.
use Rattle.std.proofs.Common.{◌≡◌, ℕ, ℤ, pos, ◌≤ℤ◌, ◌*◌, ◌≤◌, ◌⊎◌, arith, mul-le-mul_right, ap, sym, ◌∙◌, inl, inr, Bool, true, false, ◌&&◌, IsTrue, refl}
use Rattle.std.proofs.Common.{Option, Some, None}
use Rattle.std.specs.Prelude.{IfSome}
use Rattle.rational.specs.Rational.{part_above, part_below, middle}
use Rattle.rational.proofs.Order.{lt_or_same_or_gt, not_lt_of_le, le_or_lt, le_refl, le_trans, lt_of_le_of_lt}
use Rattle.rational.proofs.Order.{left_of_middle, right_of_middle, lt_of_lt_of_le, le_of_lt, le_of_same, ge_of_same, same_sym}
use Rattle.rational.proofs.Field.{add_zero}
use Rattle.rational.proofs.Shift.{le_shift_by}
use Rattle.rational.specs.Time.{Rational, Within, ◌≤ʳ◌, ◌<ʳ◌, ◌≈◌, Interval, IsIn, IsNotEmpty}
use Rattle.rational.specs.Time.{Precedes, add, whole, shifted, later, times, less, HasTimeBetween}

-- a way leads to the same time or later, and a longer way no less far
pub later_from : (t : Rational) (k : ℕ) → t ≤ʳ later t k
later_from t k = record { le = omega arith }

-- a longer way leads no less far
pub later_more : (t : Rational) (j k : ℕ) → j ≤ k → later t j ≤ʳ later t k
later_more t j k h = record { le = omega (arith, mul-le-mul_right (t.den * t.den) h) }

-- no way leads nowhere
pub later_zero : (t : Rational) → later t 0 ≤ʳ t
later_zero t = record { le = omega arith }

-- a way keeps the order
pub later_le : {t u : Rational} (k : ℕ) → t ≤ʳ u → later t k ≤ʳ later u k
later_le {t} {u} k h = record { le = omega (arith, h.le) }

-- so where they differ
pub later_lt : (t u : Rational) (k : ℕ) → t <ʳ u → later t k <ʳ later u k
later_lt t u k h = record { lt = omega (arith, h.lt) }

-- and what is in order after a way was so before it
pub later_le_back : (t u : Rational) (k : ℕ) → later t k ≤ʳ later u k → t ≤ʳ u
later_le_back t u k h = record { le = (let l = h.le in omega (arith, l)) }

-- u + k is at most t and t at most v + k, so u is at most v
pub le_by_later : (t u v : Rational) (k : ℕ) → later u k ≤ʳ t → t ≤ʳ later v k → u ≤ʳ v
le_by_later t u v k h l = later_le_back u v k (le_trans h l)

-- what a window reaches from a time it reaches from each later one
pub still_begins : (b : Option ℕ) (t u w : Rational) → u ≤ʳ w → IfSome b (λ b. t ≤ʳ later u b) → IfSome b (λ b. t ≤ʳ later w b)
still_begins None t u w h k = k
still_begins (Some b) t u w h k = le_trans k (later_le b h)

-- a way from one time, by whichever pair, leads to one time
pub same_later : {t u : Rational} (k : ℕ) → t ≈ u → later t k ≈ later u k
same_later {t} {u} k h = record { same = omega (arith, h.same) }

-- so for a move either way
pub same_shifted : {t u : Rational} (k : ℤ) → t ≈ u → shifted t k ≈ shifted u k
same_shifted {t} {u} k h = record { same = omega (arith, h.same) }

-- and for a multiple
pub same_times : {t u : Rational} (k : ℤ) → t ≈ u → times k t ≈ times k u
same_times {t} {u} k h = record { same = omega (arith, ap (λ n. n * part_above k) h.same, ap (λ n. n * part_below k) h.same) }

-- the order with an end in or out goes on with the order
pub precedes_after : (b : Bool) (t u v : Rational) → t ≤ʳ u → Precedes b u v → Precedes b t v
precedes_after true t u v h k = le_trans h k
precedes_after false t u v h k = lt_of_le_of_lt h k

-- the order with an end in or out may be begun by the order
pub precedes_before : (b : Bool) (t u v : Rational) → Precedes b t u → u ≤ʳ v → Precedes b t v
precedes_before true t u v h k = le_trans h k
precedes_before false t u v h k = lt_of_lt_of_le h k

-- what precedes is at most
pub precedes_le : (b : Bool) (t u : Rational) → Precedes b t u → t ≤ʳ u
precedes_le true t u h = h
precedes_le false t u h = le_of_lt h

-- the test of the order says the order
pub less_out : (t u : Rational) → less t u ≡ true → t <ʳ u
less_out t u h = record { lt = grind arith }

-- the test says yes below
pub less_in : (t u : Rational) → t <ʳ u → less t u ≡ true
less_in t u h = let k = h.lt in grind arith

-- and no at or above
pub less_no : (t u : Rational) → u ≤ʳ t → less t u ≡ false
less_no t u h = let k = h.le in grind arith

-- the test of the order is the same for one number's pairs
pub less_same : {t t' : Rational} (u : Rational) → t ≈ t' → less t u ≡ less t' u
less_same {t} {t'} u h = by_order (le_or_lt u t)
  where
    by_order : (u ≤ʳ t) ⊎ (t <ʳ u) → less t u ≡ less t' u
    by_order (inl l) = less_no t u l ∙ sym (less_no t' u (le_trans l (le_of_same h)))
    by_order (inr l) = less_in t u l ∙ sym (less_in t' u (lt_of_le_of_lt (le_of_same (same_sym h)) l))

-- below precedes, whether the end is in or out
pub precedes_of_lt : (b : Bool) (t u : Rational) → t <ʳ u → Precedes b t u
precedes_of_lt true t u h = le_of_lt h
precedes_of_lt false t u h = h

-- some time lies between two ends exactly where the first precedes the second, or is the second where both ends are in
pub not_empty_of_precedes : (on : Interval) → Precedes (on.from_in && on.to_in) on.from on.to → IsNotEmpty on
not_empty_of_precedes on h = by_ends on.from_in on.to_in h
  where
    by_ends : (b c : Bool) → Precedes (b && c) on.from on.to → (on.from <ʳ on.to) ⊎ ((on.from ≈ on.to) × IsTrue b × IsTrue c)
    by_ends true true h = elim (lt_or_same_or_gt on.from on.to) as (λ v. (on.from <ʳ on.to) ⊎ ((on.from ≈ on.to) × IsTrue true × IsTrue true)) [
      | inl l ↦ inl l
      | inr v ↦ elim v as (λ v. (on.from <ʳ on.to) ⊎ ((on.from ≈ on.to) × IsTrue true × IsTrue true)) [
        | inl e ↦ inr (e, refl, refl)
        | inr l ↦ absurd (not_lt_of_le h l)
      ]
    ]
    by_ends true false h = inl h
    by_ends false c h = inl h

-- an interval that is not empty has a time
pub time_inside : (on : Interval) → IsNotEmpty on → (t : Rational) × IsIn on t
time_inside on (inl h) = (
  middle on.from on.to,
  record {
    above = precedes_of_lt on.from_in on.from (middle on.from on.to) (left_of_middle h);
    below = precedes_of_lt on.to_in (middle on.from on.to) on.to (right_of_middle h);
  },
)
time_inside on (inr (e, a, b)) = (on.from, record { above = rw a (le_refl on.from); below = rw b (le_of_same e) })

-- and the other way round
pub precedes_of_not_empty : (on : Interval) → IsNotEmpty on → Precedes (on.from_in && on.to_in) on.from on.to
precedes_of_not_empty on (inl l) = precedes_of_lt (on.from_in && on.to_in) on.from on.to l
precedes_of_not_empty on (inr h) = rw (h.1, h.2) (le_of_same h.0)

-- the one inequality says that the first end precedes the second, or is the second where both are in
pub room_of_precedes : (b : Bool) (t u : Rational) → Precedes b t u → HasTimeBetween t u b
room_of_precedes true t u h = let k = h.le in record { room = omega (arith, k) }
room_of_precedes false t u h = let k = h.lt in record { room = omega (arith, k) }

-- and the other way round
pub precedes_of_room : (b : Bool) (t u : Rational) → HasTimeBetween t u b → Precedes b t u
precedes_of_room true t u h = let k = h.room in record { le = omega (arith, k) }
precedes_of_room false t u h = let k = h.room in record { lt = omega (arith, k) }

-- whether a time lies in an interval does not depend on its pair
pub IsIn-same : {t u : Rational} (on : Interval) → t ≈ u → IsIn on t → IsIn on u
IsIn-same {t} {u} on e h = record {
  above = precedes_before on.from_in on.from t u h.above (le_of_same e);
  below = precedes_after on.to_in u t on.to (ge_of_same e) h.below;
}

-- a time moved by a whole number is the sum
pub shifted-add : (t : Rational) (k : ℤ) → shifted t k ≈ add t (whole k)
shifted-add t k = omega arith

-- so for a way to a later time
pub later-add : (t : Rational) (k : ℕ) → later t k ≈ add t (whole (pos k))
later-add t k = omega arith

-- a time moved ahead is no earlier
pub le_ahead : (t : Rational) (k : ℤ) → pos 0 ≤ℤ k → t ≤ʳ shifted t k
le_ahead t k h = le_trans (ge_of_same (add_zero t)) (le_trans (le_shift_by {j = pos 0} {k = k} t h) (ge_of_same (shifted-add t k)))

-- a time moved behind is no later
pub behind_le : (t : Rational) (k : ℤ) → k ≤ℤ pos 0 → shifted t k ≤ʳ t
behind_le t k h = le_trans (le_of_same (shifted-add t k)) (le_trans (le_shift_by {j = k} {k = pos 0} t h) (le_of_same (add_zero t)))

-- whether a time lies in an interval is decided
pub decided_order : (b : Bool) (t u : Rational) → Precedes b t u ⊎ ¬ (Precedes b t u)
decided_order true t u = elim (le_or_lt t u) [ inl h ↦ inl h | inr h ↦ inr (λ k. not_lt_of_le k h) ]
decided_order false t u = elim (le_or_lt u t) [ inl h ↦ inr (λ k. not_lt_of_le h k) | inr h ↦ inl h ]

-- so for an interval
pub decided_in : (on : Interval) (t : Rational) → IsIn on t ⊎ ¬ (IsIn on t)
decided_in on t = both (decided_order on.from_in on.from t) (decided_order on.to_in t on.to)
  where
    both : Precedes on.from_in on.from t ⊎ ¬ (Precedes on.from_in on.from t)
        → Precedes on.to_in t on.to ⊎ ¬ (Precedes on.to_in t on.to) → IsIn on t ⊎ ¬ (IsIn on t)
    both (inl h) (inl k) = inl (record { above = h; below = k })
    both (inl h) (inr k) = inr (λ i. k i.below)
    both (inr h) k = inr (λ i. h i.above)

-- the later of two times, and the earlier
pub record IsLater (t u a : Rational) : Type 0 where
  -- the first is no later
  pub left : t ≤ʳ a
  -- the second is no later
  pub right : u ≤ʳ a
  -- and any other such time is no earlier
  pub least : (x : Rational) → t ≤ʳ x → u ≤ʳ x → a ≤ʳ x

-- two times have a later one
pub later_of : (t u : Rational) → (a : Rational) × IsLater t u a
later_of t u = elim (le_or_lt t u) [
  | inl h ↦ (u, record { left = h; right = le_refl u; least = λ x a b. b })
  | inr h ↦ (t, record { left = le_refl t; right = le_of_lt h; least = λ x a b. a })
]

pub record IsEarlier (t u a : Rational) : Type 0 where
  -- the first is no earlier
  pub left : a ≤ʳ t
  -- the second is no earlier
  pub right : a ≤ʳ u
  -- and any other such time is no later
  pub most : (x : Rational) → x ≤ʳ t → x ≤ʳ u → x ≤ʳ a

-- and an earlier one
pub earlier_of : (t u : Rational) → (a : Rational) × IsEarlier t u a
earlier_of t u = elim (le_or_lt t u) [
  | inl h ↦ (t, record { left = le_refl t; right = h; most = λ x a b. a })
  | inr h ↦ (u, record { left = le_of_lt h; right = le_refl u; most = λ x a b. b })
]

-- a time between two times of a stretch is in it
pub within_stretch : {from to t u v : Rational} → Within from to t → Within from to u → Within t u v → Within from to v
within_stretch h k l = record { above = le_trans h.above l.above; below = le_trans l.below k.below }
