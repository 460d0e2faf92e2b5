-- The order of places between times.
use Rattle.std.proofs.Common.{◌≡◌, ◌⊎◌, inl, inr, Bool, true, false, not, ◌&&◌, ap, sym, ◌∙◌, refl}
use Rattle.std.specs.Prelude.{MatchBool}
use Rattle.rational.specs.Rational.{Rational, ◌≤ʳ◌, ◌<ʳ◌, ◌≈◌, middle}
use Rattle.rational.proofs.Order.{lt_or_same_or_gt, le_or_lt, le_refl, le_trans, le_of_same, le_of_lt, lt_of_lt_of_le}
use Rattle.rational.proofs.Order.{lt_of_le_of_lt, lt_trans, not_lt_of_le, same_trans, same_sym, left_of_middle, right_of_middle}
use Rattle.rational.specs.Time.{HasTimeBetween, Interval, IsNotEmpty}
use Rattle.rational.proofs.TimeLemmas.{room_of_precedes, precedes_of_lt}
use Rattle.rational.specs.Places.{Place, begins, ends, After, Upto, Before, Same, AtMost}

-- each time lies on one side of a place
pub sides : (c : Place) (t : Rational) → Upto c t ⊎ After c t
sides c t = by_side c.after
  where
    by_side : (b : Bool) → MatchBool b (t ≤ʳ c.at) (t <ʳ c.at) ⊎ MatchBool b (c.at <ʳ t) (c.at ≤ʳ t)
    by_side true = le_or_lt t c.at
    by_side false = elim (le_or_lt c.at t) [ inl h ↦ inr h | inr h ↦ inl h ]

-- no time is both before a place and behind it
pub not_both : (c : Place) (t : Rational) → Upto c t → After c t → ⊥
not_both c t = by_side c.after
  where
    by_side : (b : Bool) → MatchBool b (t ≤ʳ c.at) (t <ʳ c.at) → MatchBool b (c.at <ʳ t) (c.at ≤ʳ t) → ⊥
    by_side true h k = not_lt_of_le h k
    by_side false h k = not_lt_of_le k h

-- of two places one is earlier, or they are the same
pub place_order : (c d : Place) → Before c d ⊎ Same c d ⊎ Before d c
place_order c d = by_time (lt_or_same_or_gt c.at d.at)
  where
    by_side : (a b : Bool) → c.after ≡ a → d.after ≡ b → c.at ≈ d.at → Before c d ⊎ Same c d ⊎ Before d c
    by_side true true e f s = inr (inl (s, e ∙ sym f))
    by_side true false e f s = inr (inr (inr (same_sym s, f, e)))
    by_side false true e f s = inl (inr (s, e, f))
    by_side false false e f s = inr (inl (s, e ∙ sym f))

    by_time : (c.at <ʳ d.at) ⊎ (c.at ≈ d.at) ⊎ (d.at <ʳ c.at) → Before c d ⊎ Same c d ⊎ Before d c
    by_time (inl l) = inl (inl l)
    by_time (inr (inl s)) = by_side c.after d.after refl refl s
    by_time (inr (inr l)) = inr (inr (inl l))

-- what lies before a place lies before each later one
pub upto_of_before : (c d : Place) (t : Rational) → Before c d → Upto c t → Upto d t
upto_of_before c d t h = by_side c.after d.after refl refl h
  where
    by_side : (a b : Bool) → c.after ≡ a → d.after ≡ b → Before c d → MatchBool a (t ≤ʳ c.at) (t <ʳ c.at)
        → MatchBool b (t ≤ʳ d.at) (t <ʳ d.at)
    by_side true true e f (inl l) k = le_of_lt (lt_of_le_of_lt k l)
    by_side true false e f (inl l) k = lt_of_le_of_lt k l
    by_side false true e f (inl l) k = le_of_lt (lt_trans k l)
    by_side false false e f (inl l) k = lt_trans k l
    by_side true b e f (inr (s, g, i)) k = absurd (let x : true ≡ false = sym e ∙ g in cc)
    by_side false true e f (inr (s, g, i)) k = le_of_lt (lt_of_lt_of_le k (le_of_same s))
    by_side false false e f (inr (s, g, i)) k = absurd (let x : true ≡ false = sym i ∙ f in cc)

-- what lies behind a later place lies behind an earlier one
pub after_of_before : (c d : Place) (t : Rational) → Before c d → After d t → After c t
after_of_before c d t h k = elim (sides c t) [ inl u ↦ absurd (not_both d t (upto_of_before c d t h u) k) | inr a ↦ a ]

-- if one place is the same as another, that one is the same as it
pub same_places : {c d : Place} → Same c d → Same d c
same_places (s, e) = (same_sym s, sym e)

-- times before a place are before another way to write it
pub upto_same : (c d : Place) (t : Rational) → Same c d → Upto c t → Upto d t
upto_same c d t (s, e) = by_side c.after d.after e
  where
    by_side : (a b : Bool) → a ≡ b → MatchBool a (t ≤ʳ c.at) (t <ʳ c.at) → MatchBool b (t ≤ʳ d.at) (t <ʳ d.at)
    by_side true true e k = le_trans k (le_of_same s)
    by_side true false e k = absurd (let x : true ≡ false = e in cc)
    by_side false true e k = absurd (let x : false ≡ true = e in cc)
    by_side false false e k = lt_of_lt_of_le k (le_of_same s)

-- times behind a place are behind another way to write it
pub after_same : (c d : Place) (t : Rational) → Same c d → After c t → After d t
after_same c d t s k = elim (sides d t) [ inl u ↦ absurd (not_both c t (upto_same d c t (same_places s) u) k) | inr a ↦ a ]

-- between two places there is a time
pub between : (c d : Place) → Before c d → (t : Rational) × After c t × Upto d t
between c d (inl l) = (middle c.at d.at, after_in c.after, upto_in d.after)
  where
    after_in : (b : Bool) → MatchBool b (c.at <ʳ middle c.at d.at) (c.at ≤ʳ middle c.at d.at)
    after_in true = left_of_middle l
    after_in false = le_of_lt (left_of_middle l)

    upto_in : (b : Bool) → MatchBool b (middle c.at d.at ≤ʳ d.at) (middle c.at d.at <ʳ d.at)
    upto_in true = le_of_lt (right_of_middle l)
    upto_in false = right_of_middle l
between c d (inr (s, e, f)) = (c.at, after_in c.after e, upto_in d.after f)
  where
    after_in : (b : Bool) → b ≡ false → MatchBool b (c.at <ʳ c.at) (c.at ≤ʳ c.at)
    after_in true g = absurd (let x : true ≡ false = g in cc)
    after_in false g = le_refl c.at

    upto_in : (b : Bool) → b ≡ true → MatchBool b (c.at ≤ʳ d.at) (c.at <ʳ d.at)
    upto_in true g = le_of_same s
    upto_in false g = absurd (let x : false ≡ true = g in cc)

-- a place before a time that lies before another place comes before that place
pub before_through : (c d : Place) (t : Rational) → After c t → Upto d t → Before c d
before_through c d t a u = elim (place_order c d) [
  | inl h ↦ h
  | inr h ↦ elim h [
    | inl s ↦ absurd (not_both d t u (after_same c d t s a))
    | inr b ↦ absurd (not_both d t u (after_of_before d c t b a))
  ]
]

-- two intervals that are not empty, of which neither ends before the other begins, share a time
pub share : (b e l h : Place) → Before b e → Before l h → Before b h → Before l e
    → (u : Rational) × After b u × Upto e u × After l u × Upto h u
share b e l h be lh bh le = by_low (place_order b l) (place_order e h)
  where
    low : (c d : Place) → Before c d ⊎ Same c d → (u : Rational) → After d u → After c u
    low c d (inl x) u a = after_of_before c d u x a
    low c d (inr s) u a = after_same d c u (same_places s) a

    high : (c d : Place) → Before c d ⊎ Same c d → (u : Rational) → Upto c u → Upto d u
    high c d (inl x) u k = upto_of_before c d u x k
    high c d (inr s) u k = upto_same c d u s k

    pick : (c d : Place) → Before c d → ((u : Rational) → After c u → After b u × After l u)
        → ((u : Rational) → Upto d u → Upto e u × Upto h u)
        → (u : Rational) × After b u × Upto e u × After l u × Upto h u
    pick c d x f g = let t = between c d x in (t.0, (f t.0 t.1).0, (g t.0 t.2).0, (f t.0 t.1).1, (g t.0 t.2).1)

    from_l : Before b l ⊎ Same b l → (u : Rational) → After l u → After b u × After l u
    from_l o u a = (low b l o u a, a)

    from_b : Before l b ⊎ Same l b → (u : Rational) → After b u → After b u × After l u
    from_b o u a = (a, low l b o u a)

    to_e : Before e h ⊎ Same e h → (u : Rational) → Upto e u → Upto e u × Upto h u
    to_e o u k = (k, high e h o u k)

    to_h : Before h e ⊎ Same h e → (u : Rational) → Upto h u → Upto e u × Upto h u
    to_h o u k = (high h e o u k, k)

    by_low : Before b l ⊎ Same b l ⊎ Before l b → Before e h ⊎ Same e h ⊎ Before h e
        → (u : Rational) × After b u × Upto e u × After l u × Upto h u
    by_low (inl x) (inl y) = pick l e le (from_l (inl x)) (to_e (inl y))
    by_low (inl x) (inr (inl s)) = pick l e le (from_l (inl x)) (to_e (inr s))
    by_low (inl x) (inr (inr y)) = pick l h lh (from_l (inl x)) (to_h (inl y))
    by_low (inr (inl r)) (inl y) = pick l e le (from_l (inr r)) (to_e (inl y))
    by_low (inr (inl r)) (inr (inl s)) = pick l e le (from_l (inr r)) (to_e (inr s))
    by_low (inr (inl r)) (inr (inr y)) = pick l h lh (from_l (inr r)) (to_h (inl y))
    by_low (inr (inr x)) (inl y) = pick b e be (from_b (inl x)) (to_e (inl y))
    by_low (inr (inr x)) (inr (inl s)) = pick b e be (from_b (inl x)) (to_e (inr s))
    by_low (inr (inr x)) (inr (inr y)) = pick b h bh (from_b (inl x)) (to_h (inl y))

-- what lies before a place lies before each that does not come before it
pub at_most_of_not_before : (c d : Place) → (Before d c → ⊥) → (t : Rational) → Upto c t → Upto d t
at_most_of_not_before c d n t h = elim (place_order c d) [
  | inl x ↦ upto_of_before c d t x h
  | inr x ↦ elim x [ inl s ↦ upto_same c d t s h | inr b ↦ absurd (n b) ]
]

-- a place that is before another is so in another way to write it
pub same_before : (c d e : Place) → Same c d → Before d e → Before c e
same_before c d e s h = let t = between d e h in before_through c e t.0 (after_same d c t.0 (same_places s) t.1) t.2

-- a place is also before another way to write a later place
pub before_same : (c d e : Place) → Before c d → Same d e → Before c e
before_same c d e h s = let t = between c d h in before_through c e t.0 t.1 (upto_same d e t.0 s t.2)

-- a place that is before one before a third is before the third
pub before_trans : (c d e : Place) → Before c d → Before d e → Before c e
before_trans c d e h k = let t = between c d h in before_through c e t.0 t.1 (upto_of_before d e t.0 k t.2)

-- places that are the same as one place are the same
pub same_trans_places : {c d e : Place} → Same c d → Same d e → Same c e
same_trans_places (s, e) (r, f) = (same_trans s r, e ∙ f)

-- between two places there is room where the one comes before the other
pub room_of_before : (c d : Place) → Before c d → HasTimeBetween c.at d.at (not c.after && d.after)
room_of_before c d (inl l) = room_of_precedes (not c.after && d.after) c.at d.at (precedes_of_lt (not c.after && d.after) c.at d.at l)
room_of_before c d (inr (s, e, f)) = rw (e, f) (room_of_precedes true c.at d.at (le_of_same s))

-- the begin of an interval that is not empty comes before its end
pub before_of_not_empty : (on : Interval) → IsNotEmpty on → Before (begins on) (ends on)
before_of_not_empty on (inl l) = inl l
before_of_not_empty on (inr (s, i, o)) = inr (s, ap not i, o)

-- no place comes before itself
pub not_before_itself : (c : Place) → Before c c → ⊥
not_before_itself c b = let t = between c c b in not_both c t.0 t.2 t.1

-- what lies after a place lies after each that is at most it
pub after_at_most : (c d : Place) (t : Rational) → AtMost c d → After d t → After c t
after_at_most c d t h a = elim (sides c t) [ inl u ↦ absurd (not_both d t (h t u) a) | inr b ↦ b ]

-- a place that is at most one that comes before another comes before that
pub before_of_at_most : (c d e : Place) → AtMost c d → Before d e → Before c e
before_of_at_most c d e h b = let t = between d e b in before_through c e t.0 (after_at_most c d t.0 h t.1) t.2

-- a place that comes before one that is at most another comes before that
pub before_at_most : (c d e : Place) → Before c d → AtMost d e → Before c e
before_at_most c d e b h = let t = between c d b in before_through c e t.0 t.1 (h t.0 t.2)

-- places of which each is at most the other are one
pub same_of_at_most : (c d : Place) → AtMost c d → AtMost d c → Same c d
same_of_at_most c d h k = elim (place_order c d) [
  | inl b ↦ absurd (not_before_itself c (before_at_most c d c b k))
  | inr o ↦ elim o [ inl s ↦ s | inr b ↦ absurd (not_before_itself d (before_at_most d c d b h)) ]
]

-- the times of places are in their order
pub le_of_before : (c d : Place) → Before c d → c.at ≤ʳ d.at
le_of_before c d (inl l) = le_of_lt l
le_of_before c d (inr (s, e, f)) = le_of_same s

-- a place that is at most another has no later time
pub le_of_at_most : (c d : Place) → AtMost c d → c.at ≤ʳ d.at
le_of_at_most c d h = elim (place_order c d) [
  | inl b ↦ le_of_before c d b
  | inr o ↦ elim o [ inl s ↦ le_of_same s.0 | inr b ↦ absurd (not_before_itself d (before_at_most d c d b h)) ]
]

-- what lies before a place comes no later than what lies after it
pub le_through : (c : Place) (t u : Rational) → Upto c t → After c u → t ≤ʳ u
le_through c t u = by_side c.after
  where
    by_side : (b : Bool) → MatchBool b (t ≤ʳ c.at) (t <ʳ c.at) → MatchBool b (c.at <ʳ u) (c.at ≤ʳ u) → t ≤ʳ u
    by_side true h k = le_trans h (le_of_lt k)
    by_side false h k = le_trans (le_of_lt h) k

-- what is earlier than a time before a place is before it
pub upto_earlier : (c : Place) (t u : Rational) → t ≤ʳ u → Upto c u → Upto c t
upto_earlier c t u l = by_side c.after
  where
    by_side : (b : Bool) → MatchBool b (u ≤ʳ c.at) (u <ʳ c.at) → MatchBool b (t ≤ʳ c.at) (t <ʳ c.at)
    by_side true h = le_trans l h
    by_side false h = lt_of_le_of_lt l h

-- what is later than a time behind a place is behind it
pub after_later : (c : Place) (t u : Rational) → t ≤ʳ u → After c t → After c u
after_later c t u l = by_side c.after
  where
    by_side : (b : Bool) → MatchBool b (c.at <ʳ t) (c.at ≤ʳ t) → MatchBool b (c.at <ʳ u) (c.at ≤ʳ u)
    by_side true h = lt_of_lt_of_le h l
    by_side false h = le_trans h l
