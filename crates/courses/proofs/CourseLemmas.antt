-- What a since is on a gap: the ways in which it is the least or the greatest of two shapes.
use Rattle.std.proofs.Common.{◌≡◌, ◌⊎◌, ◌∙◌, inl, inr, refl, subst, sym, Bool, true, false, is_eq}
use Rattle.std.proofs.lemmas.Bool.{false≢true}
use Rattle.std.specs.Prelude.{MatchBool}
use Rattle.std.specs.Ordering.{MatchOrdering}
use Rattle.std.specs.declared.cmp.Ordering.{Ordering}
use Rattle.std.specs.declared.cmp.Ordering.TheVariants.{Less, Equal, Greater}
use Rattle.rational.specs.Rational.{Rational, ◌<ʳ◌, ◌≤ʳ◌, ◌≈◌}
use Rattle.rational.specs.Extended.{Extended, ◌≤ᵉ◌, ◌≈ᵉ◌, IsLeast, IsGreatest, Affine, value_at}
use Rattle.rational.specs.Affine.{IsOrderᵉ, IsTrend, MeetAlone}
use Rattle.rational.proofs.Order.{le_of_lt, le_or_lt, same_of_le}
use Rattle.rational.proofs.ExtendedLemmas.{le_reflᵉ, le_transᵉ}
use Rattle.rational.proofs.AffineLemmas.{value_same, at_least_an_end}
use Rattle.rational.proofs.ExtendedLemmas.{greatest_of, clashᵉ, least_of, le_totalᵉ}
use Rattle.frac128.specs.Value.{value}
use Rattle.value_laws.specs.Members.{ShapeOf}
use Rattle.pl_signal.specs.declared.joining.Side.{Side}
use Rattle.pl_signal.specs.declared.joining.Side.TheVariants.{Least, Greatest}
use Rattle.pl_signal.specs.Joining.{IsChosen, TurnsOver}
use Rattle.frac128.specs.declared.frac.Frac.{Frac}
use Rattle.courses.specs.declared.course.Meet.{Meet}
use Rattle.courses.specs.declared.course.Course.{Course}
use Rattle.courses.specs.declared.course.Gap.{Gap}
use Rattle.courses.specs.Courses.{IsBegun, IsCourse, IsLow, IsMeet, IsOfGap, IsOnwardIn, IsPlayed, IsPointOf, IsReached, IsStart}
use Rattle.courses.specs.Courses.{change_places, goes_under}
use Rattle.rational.specs.Onward.{Climbs, Sinks, InOrder, IsBelow, IsOnward}
use Rattle.rational.proofs.AffineMeetings.{between}
use Rattle.rational.proofs.ExtendedLemmas.{le_of_ltᵉ}

-- what is not above is at most
pub not_above : (o : Ordering) (v w : Extended) → IsOrderᵉ o v w → ¬ (o ≡ Greater) → v ≤ᵉ w
not_above Less v w h n = le_of_ltᵉ v w h
not_above Equal v w h n = h.at_most
not_above Greater v w h n = absurd (n refl)

-- what is not below is at least
pub not_below : (o : Ordering) (v w : Extended) → IsOrderᵉ o v w → ¬ (o ≡ Less) → w ≤ᵉ v
not_below Less v w h n = absurd (n refl)
not_below Equal v w h n = h.at_least
not_below Greater v w h n = le_of_ltᵉ w v h

-- what is said to be equal is
pub equal_of : (o : Ordering) → is_eq o ≡ true → o ≡ Equal
equal_of Less e = absurd (false≢true e)
equal_of Equal e = refl
equal_of Greater e = absurd (false≢true e)

-- what does not rise sinks
pub sinks_of : (o : Ordering) (f : Affine) → IsTrend o f → ¬ (o ≡ Greater) → Sinks f
sinks_of Less f h n = λ t u k. elim (le_or_lt u t) [
  | inl e ↦ (value_same f (same_of_le e k)).at_most
  | inr l ↦ le_of_ltᵉ (value_at f u) (value_at f t) (h t u l)
]
sinks_of Equal f h n = λ t u k. (h u t).at_most
sinks_of Greater f h n = absurd (n refl)

-- and what does not sink climbs
pub climbs_of : (o : Ordering) (f : Affine) → IsTrend o f → ¬ (o ≡ Less) → Climbs f
climbs_of Less f h n = absurd (n refl)
climbs_of Equal f h n = λ t u k. (h t u).at_most
climbs_of Greater f h n = λ t u k. elim (le_or_lt u t) [
  | inl e ↦ (value_same f (same_of_le k e)).at_most
  | inr l ↦ le_of_ltᵉ (value_at f t) (value_at f u) (h t u l)
]

-- the order at both ends holds between them, and as the gap ends
pub below_on : (f h : Affine) (l t r : Rational) → IsBelow f h l r → l ≤ʳ t → t ≤ʳ r → value_at f t ≤ᵉ value_at h t
below_on f h l t r below a b = by_begin (le_or_lt t l)
  where
    at : (u : Rational) → t ≈ u → value_at f u ≤ᵉ value_at h u → value_at f t ≤ᵉ value_at h t
    at u s k = le_transᵉ (value_at f t) (value_at f u) (value_at h t) (value_same f s).at_most
        (le_transᵉ (value_at f u) (value_at h u) (value_at h t) k (value_same h s).at_least)

    by_end : l <ʳ t → (r ≤ʳ t) ⊎ (t <ʳ r) → value_at f t ≤ᵉ value_at h t
    by_end o (inl e) = at r (same_of_le b e) below.right
    by_end o (inr k) = between f h l t r o k below.left below.right

    by_begin : (t ≤ʳ l) ⊎ (l <ʳ t) → value_at f t ≤ᵉ value_at h t
    by_begin (inl e) = at l (same_of_le e a) below.left
    by_begin (inr o) = by_end o (le_or_lt r t)

module _ (r : Extended) (f h : Affine) (t0 t : Rational) (v low top : Extended) (is_low : IsLeast r (value_at f t0) low)
    (is_top : IsGreatest low (value_at h t0) top) where
  onward : ((high : Extended) → IsGreatest top (value_at h t) high → IsLeast (value_at f t) high v) → IsOnward r f h t0 t v
  onward made = let g = greatest_of top (value_at h t) in
      record { low = low; top = top; high = g.0; is_low = is_low; is_top = is_top; is_high = g.1; is_value = made g.0 g.1 }

  -- the left side alone, where that is at most the start or the right side
  pub by_left : (value_at f t ≤ᵉ top) ⊎ (value_at f t ≤ᵉ value_at h t) → IsChosen Least (value_at f t) (value_at f t) v → IsOnward r f h t0 t v
  by_left under c = onward (λ high g. record {
    left = c.left;
    right = le_transᵉ v (value_at f t) high c.left
        (elim under [ inl k ↦ le_transᵉ (value_at f t) top high k g.left | inr k ↦ le_transᵉ (value_at f t) (value_at h t) high k g.right ]);
    one_of = inl (elim c.one_of [ inl k ↦ k | inr k ↦ k ]);
  })

  -- the least of the left side and of where it starts, while the right side sinks
  pub by_top : (x : Extended) → x ≈ᵉ top → value_at h t ≤ᵉ value_at h t0 → IsChosen Least (value_at f t) x v → IsOnward r f h t0 t v
  by_top x e sinks c = onward (λ high g. record {
    left = c.left;
    right = le_transᵉ v x high c.right (le_transᵉ x top high e.at_most g.left);
    one_of = elim c.one_of [ inl k ↦ inl k | inr k ↦ inr (le_transᵉ high x v (le_transᵉ high top x (at_top high g g.one_of) e.at_least) k) ];
  })
    where
      at_top : (high : Extended) → IsGreatest top (value_at h t) high → (high ≤ᵉ top) ⊎ (high ≤ᵉ value_at h t) → high ≤ᵉ top
      at_top high g (inl k) = k
      at_top high g (inr k) = le_transᵉ high (value_at h t) top k (le_transᵉ (value_at h t) (value_at h t0) top sinks is_top.right)

  -- top is low, where the right side starts below it
  top_is_low : value_at h t0 ≤ᵉ low → top ≤ᵉ low
  top_is_low higher = elim is_top.one_of [ inl k ↦ k | inr k ↦ le_transᵉ top (value_at h t0) low k higher ]

  module _ (climbs : value_at h t0 ≤ᵉ value_at h t) (under : value_at h t ≤ᵉ value_at f t) where
    -- the right side alone, where it starts above what was before
    pub by_right : low ≤ᵉ value_at h t0 → IsChosen Least (value_at h t) (value_at h t) v → IsOnward r f h t0 t v
    by_right lower c = onward (λ high g. record {
      left = le_transᵉ v (value_at h t) (value_at f t) c.left under;
      right = le_transᵉ v (value_at h t) high c.left g.right;
      one_of = inr (le_transᵉ high (value_at h t) v (at_right high g.one_of) (elim c.one_of [ inl k ↦ k | inr k ↦ k ]));
    })
      where
        start : (top ≤ᵉ low) ⊎ (top ≤ᵉ value_at h t0) → top ≤ᵉ value_at h t0
        start (inl k) = le_transᵉ top low (value_at h t0) k lower
        start (inr k) = k

        at_right : (high : Extended) → (high ≤ᵉ top) ⊎ (high ≤ᵉ value_at h t) → high ≤ᵉ value_at h t
        at_right high (inl k) = le_transᵉ high top (value_at h t) k (le_transᵉ top (value_at h t0) (value_at h t) (start is_top.one_of) climbs)
        at_right high (inr k) = k

    module _ (x : Extended) (same : x ≈ᵉ low) (higher : value_at h t0 ≤ᵉ low) where
      -- the greatest of the start and of the right side, where the start is not above the left side
      pub by_low_over : x ≤ᵉ value_at f t → IsChosen Greatest x (value_at h t) v → IsOnward r f h t0 t v
      by_low_over within c = onward (λ high g. record {
        left = elim c.one_of [ inl k ↦ le_transᵉ v x (value_at f t) k within | inr k ↦ le_transᵉ v (value_at h t) (value_at f t) k under ];
        right = elim c.one_of [
          | inl k ↦ le_transᵉ v x high k (le_transᵉ x low high same.at_most (le_transᵉ low top high is_top.left g.left))
          | inr k ↦
              le_transᵉ v (value_at h t) high k g.right
        ];
        one_of = inr (elim g.one_of [
          | inl k ↦ le_transᵉ high top v k (le_transᵉ top low v (top_is_low higher) (le_transᵉ low x v same.at_least c.left))
          | inr k ↦ le_transᵉ high (value_at h t) v k c.right
        ]);
      })

      -- the least of the start and of the left side, where the right side stays below the start
      pub by_low_under : value_at h t ≤ᵉ x → IsChosen Least (value_at f t) x v → IsOnward r f h t0 t v
      by_low_under below c = onward (λ high g. record {
        left = c.left;
        right = le_transᵉ v x high c.right (le_transᵉ x low high same.at_most (le_transᵉ low top high is_top.left g.left));
        one_of = elim c.one_of [
          | inl k ↦ inl k
          | inr k ↦ inr (le_transᵉ high x v (at_low high g.one_of) k)
        ];
      })
        where
          at_low : (high : Extended) → (high ≤ᵉ top) ⊎ (high ≤ᵉ value_at h t) → high ≤ᵉ x
          at_low high (inl k) = le_transᵉ high top x k (le_transᵉ top low x (top_is_low higher) same.at_least)
          at_low high (inr k) = le_transᵉ high (value_at h t) x k below

-- what is at most both of a function's values at the ends is at most its value between them
pub within_ends : (f : Affine) (l t r : Rational) (x : Extended) → l ≤ʳ t → t ≤ʳ r → x ≤ᵉ value_at f l → x ≤ᵉ value_at f r → x ≤ᵉ value_at f t
within_ends f l t r x a b h k = elim (at_least_an_end f l r t a b) [
  | inl m ↦ le_transᵉ x (value_at f l) (value_at f t) h m
  | inr m ↦ le_transᵉ x (value_at f r) (value_at f t) k m
]

-- a value is what is chosen of itself
pub chosen_of_itself : (side : Side) (v : Extended) → IsChosen side v v v
chosen_of_itself Least v = record { left = le_reflᵉ v; right = le_reflᵉ v; one_of = inl (le_reflᵉ v) }
chosen_of_itself Greatest v = record { left = le_reflᵉ v; right = le_reflᵉ v; one_of = inl (le_reflᵉ v) }

-- a course that is one shape goes where the shape goes
pub only_course : {P : Type 0} (shape : ShapeOf P) (gap : Gap P) (course : Course P) (x : P) → course.side ≡ Least → course.first ≡ x
    → course.second ≡ x → IsPlayed shape gap x
    → ((t : Rational) (v : Extended) → value gap.from ≤ʳ t → t ≤ʳ value gap.to
    → IsChosen Least (value_at (shape.function x) t) (value_at (shape.function x) t) v → IsOnwardIn shape gap t v)
    → IsCourse shape gap course
only_course {P} shape gap course x s f e played goes = record {
  one = λ _. e ∙ sym f;
  first = subst (IsPlayed shape gap) (sym f) played;
  second = subst (IsPlayed shape gap) (sym e) played;
  onward = λ t v a b chosen. goes t v a b
      (subst (λ d. IsChosen d (value_at (shape.function x) t) (value_at (shape.function x) t) v) s
      (subst (λ y. IsChosen course.side (value_at (shape.function x) t) (value_at (shape.function y) t) v) e
      (subst (λ y. IsChosen course.side (value_at (shape.function y) t) (value_at (shape.function course.second) t) v) f chosen)));
}

module _ (f h : Affine) (l r : Rational) where
  -- two that change places turn over
  pub turned : (s e : Ordering) → IsOrderᵉ s (value_at f l) (value_at h l) → IsOrderᵉ e (value_at f r) (value_at h r) → change_places s e ≡ true
      → TurnsOver f h l r
  turned Less Less a b c = absurd (false≢true c)
  turned Less Equal a b c = absurd (false≢true c)
  turned Less Greater a b c = inl (a, b)
  turned Equal e a b c = absurd (false≢true c)
  turned Greater Less a b c = inr (a, b)
  turned Greater Equal a b c = absurd (false≢true c)
  turned Greater Greater a b c = absurd (false≢true c)

  -- and two that do not are in one order
  pub unturned : (s e : Ordering) → IsOrderᵉ s (value_at f l) (value_at h l) → IsOrderᵉ e (value_at f r) (value_at h r) → change_places s e ≡ false
      → InOrder f h l r
  unturned Less Less a b c = inl (record { left = le_of_ltᵉ (value_at f l) (value_at h l) a; right = le_of_ltᵉ (value_at f r) (value_at h r) b })
  unturned Less Equal a b c = inl (record { left = le_of_ltᵉ (value_at f l) (value_at h l) a; right = b.at_most })
  unturned Less Greater a b c = absurd (false≢true (sym c))
  unturned Equal Less a b c = inl (record { left = a.at_most; right = le_of_ltᵉ (value_at f r) (value_at h r) b })
  unturned Equal Equal a b c = inl (record { left = a.at_most; right = b.at_most })
  unturned Equal Greater a b c = inr (record { left = a.at_least; right = le_of_ltᵉ (value_at h r) (value_at f r) b })
  unturned Greater Less a b c = absurd (false≢true (sym c))
  unturned Greater Equal a b c = inr (record { left = le_of_ltᵉ (value_at h l) (value_at f l) a; right = b.at_least })
  unturned Greater Greater a b c = inr (record { left = le_of_ltᵉ (value_at h l) (value_at f l) a; right = le_of_ltᵉ (value_at h r) (value_at f r) b })

  -- up to where they meet they are in one order
  pub order_to_meeting : value_at f r ≈ᵉ value_at h r → InOrder f h l r
  order_to_meeting meet = elim (le_totalᵉ (value_at f l) (value_at h l)) [
    | inl k ↦ inl (record { left = k; right = meet.at_most })
    | inr k ↦ inr (record { left = le_of_ltᵉ (value_at h l) (value_at f l) k; right = meet.at_least })
  ]

-- a meeting is the next time at which the two come out of order
pub meets : (f h : Affine) (from next : Frac) (turn : Meet) → turn.met ≡ true → MeetAlone f h (value from) (value next) (value turn.time)
    → IsMeet f h from next turn
meets f h from next turn e m = record {
  after = m.after;
  not_later = le_of_lt m.before;
  in_order = order_to_meeting f h (value from) (value turn.time) m.meet;
  kind = subst (λ b. MatchBool b (MeetAlone f h (value from) (value next) (value turn.time)) (turn.time ≡ next)) (sym e) m;
}

-- the value at the end of a stretch on which two keep their order: they meet there, or their order there is e
abbrev EndsBy : Affine → Affine → Rational → Ordering → Type 0
EndsBy f h t e = (value_at f t ≈ᵉ value_at h t) ⊎ IsOrderᵉ e (value_at f t) (value_at h t)

ends_by : (f h : Affine) (from next : Frac) (turn : Meet) (e : Ordering) → (met : Bool)
    → MatchBool met (MeetAlone f h (value from) (value next) (value turn.time)) (turn.time ≡ next)
    → IsOrderᵉ e (value_at f (value next)) (value_at h (value next)) → EndsBy f h (value turn.time) e
ends_by f h from next turn e true m k = inl m.meet
ends_by f h from next turn e false m k = inr (subst (λ t. IsOrderᵉ e (value_at f (value t)) (value_at h (value t))) (sym m) k)

-- which of two is below the other up to a meeting, or up to the end, by their orders at both ends
pub goes_below : (f h : Affine) (from next : Frac) (turn : Meet) (s e : Ordering) → IsMeet f h from next turn
    → IsOrderᵉ s (value_at f (value from)) (value_at h (value from)) → IsOrderᵉ e (value_at f (value next)) (value_at h (value next))
    → MatchBool (goes_under s e) (IsBelow f h (value from) (value turn.time)) (IsBelow h f (value from) (value turn.time))
goes_below f h from next turn s e is a k = by_order s e a (ends_by f h from next turn e turn.met is.kind k) is.in_order
  where
    by_order : (s e : Ordering) → IsOrderᵉ s (value_at f (value from)) (value_at h (value from)) → EndsBy f h (value turn.time) e
        → InOrder f h (value from) (value turn.time)
        → MatchBool (goes_under s e) (IsBelow f h (value from) (value turn.time)) (IsBelow h f (value from) (value turn.time))
    by_order Less e a b (inl o) = o
    by_order Less e a b (inr o) = clashᵉ (value_at f (value from)) (value_at h (value from)) a o.left
    by_order Equal Less a (inl m) o = record { left = a.at_most; right = m.at_most }
    by_order Equal Less a (inr m) o = record { left = a.at_most; right = le_of_ltᵉ (value_at f (value turn.time)) (value_at h (value turn.time)) m }
    by_order Equal Equal a (inl m) o = record { left = a.at_most; right = m.at_most }
    by_order Equal Equal a (inr m) o = record { left = a.at_most; right = m.at_most }
    by_order Equal Greater a (inl m) o = record { left = a.at_least; right = m.at_least }
    by_order Equal Greater a (inr m) o = record { left = a.at_least; right = le_of_ltᵉ (value_at h (value turn.time)) (value_at f (value turn.time)) m }
    by_order Greater e a b (inl o) = clashᵉ (value_at h (value from)) (value_at f (value from)) a o.left
    by_order Greater e a b (inr o) = o

-- the left side, where it is reached as the gap begins, is not above the top
pub reached_top : (o s : Ordering) (b l r low top : Extended) → IsOrderᵉ o b l → IsOrderᵉ s l r → IsReached o s → IsLeast b l low → IsGreatest low r top
    → l ≤ᵉ top
reached_top o s b l r low top h k (inl n) x y =
    le_transᵉ l low top (elim x.one_of [ inl m ↦ le_transᵉ l b low (not_below o b l h n) m | inr m ↦ m ]) y.left
reached_top o s b l r low top h k (inr e) x y = le_transᵉ l r top (subst (λ s. IsOrderᵉ s l r) e k).at_most y.right

module _ {P : Type 0} (shape : ShapeOf P) where
  -- the lower of two by their order is the least of them
  pub lower_is_least : (t : Rational) (o : Ordering) (p q r : P) → IsOrderᵉ o (value_at (shape.function p) t) (value_at (shape.function q) t)
      → MatchOrdering o (r ≡ p) (r ≡ q) (r ≡ q)
      → IsLeast (value_at (shape.function p) t) (value_at (shape.function q) t) (value_at (shape.function r) t)
  lower_is_least t o p q r h e = by_order o h e
    where
      v : P → Extended
      v x = value_at (shape.function x) t

      by_order : (o : Ordering) → IsOrderᵉ o (v p) (v q) → MatchOrdering o (r ≡ p) (r ≡ q) (r ≡ q) → IsLeast (v p) (v q) (v r)
      by_order Less h e = subst (λ r. IsLeast (v p) (v q) (v r)) (sym e)
          (record { left = le_reflᵉ (v p); right = le_of_ltᵉ (v p) (v q) h; one_of = inl (le_reflᵉ (v p)) })
      by_order Equal h e = subst (λ r. IsLeast (v p) (v q) (v r)) (sym e) (record { left = h.at_least; right = le_reflᵉ (v q); one_of = inr (le_reflᵉ (v q)) })
      by_order Greater h e = subst (λ r. IsLeast (v p) (v q) (v r)) (sym e)
          (record { left = le_of_ltᵉ (v q) (v p) h; right = le_reflᵉ (v q); one_of = inr (le_reflᵉ (v q)) })

  -- and the higher of two is the greatest
  pub higher_is_greatest : (t : Rational) (o : Ordering) (p q r : P) → IsOrderᵉ o (value_at (shape.function p) t) (value_at (shape.function q) t)
      → MatchOrdering o (r ≡ q) (r ≡ p) (r ≡ p)
      → IsGreatest (value_at (shape.function p) t) (value_at (shape.function q) t) (value_at (shape.function r) t)
  higher_is_greatest t o p q r h e = by_order o h e
    where
      v : P → Extended
      v x = value_at (shape.function x) t

      by_order : (o : Ordering) → IsOrderᵉ o (v p) (v q) → MatchOrdering o (r ≡ q) (r ≡ p) (r ≡ p) → IsGreatest (v p) (v q) (v r)
      by_order Less h e = subst (λ r. IsGreatest (v p) (v q) (v r)) (sym e)
          (record { left = le_of_ltᵉ (v p) (v q) h; right = le_reflᵉ (v q); one_of = inr (le_reflᵉ (v q)) })
      by_order Equal h e = subst (λ r. IsGreatest (v p) (v q) (v r)) (sym e)
          (record { left = le_reflᵉ (v p); right = h.at_least; one_of = inl (le_reflᵉ (v p)) })
      by_order Greater h e = subst (λ r. IsGreatest (v p) (v q) (v r)) (sym e)
          (record { left = le_reflᵉ (v p); right = le_of_ltᵉ (v q) (v p) h; one_of = inl (le_reflᵉ (v p)) })

  -- what the since is no higher than as the gap begins
  pub begins_low : (gap : Gap P) (o : Ordering) (low : P)
      → IsOrderᵉ o (value_at (shape.function gap.before) (value gap.from)) (value_at (shape.function gap.left) (value gap.from))
      → MatchOrdering o (low ≡ gap.before) (low ≡ gap.left) (low ≡ gap.left) → IsLow shape gap low
  begins_low gap o low h e = record { low_of = by_order o e; is_low = lower_is_least (value gap.from) o gap.before gap.left low h e }
    where
      by_order : (o : Ordering) → MatchOrdering o (low ≡ gap.before) (low ≡ gap.left) (low ≡ gap.left) → IsOfGap shape gap low
      by_order Less e = inl e
      by_order Equal e = inr (inl e)
      by_order Greater e = inr (inl e)

  -- and what it begins with
  pub begins_top : (gap : Gap P) (o : Ordering) (low top : P) → IsLow shape gap low
      → IsOrderᵉ o (value_at (shape.function low) (value gap.from)) (value_at (shape.function gap.right) (value gap.from))
      → MatchOrdering o (top ≡ gap.right) (top ≡ low) (top ≡ low) → IsStart shape gap low top
  begins_top gap o low top is h e = record {
    low_of = is.low_of;
    top_of = by_order o e;
    is_low = is.is_low;
    is_top = higher_is_greatest (value gap.from) o low gap.right top h e;
  }
    where
      by_order : (o : Ordering) → MatchOrdering o (top ≡ gap.right) (top ≡ low) (top ≡ low) → IsOfGap shape gap top
      by_order Less e = inr (inr e)
      by_order Equal e = subst (IsOfGap shape gap) (sym e) is.low_of
      by_order Greater e = subst (IsOfGap shape gap) (sym e) is.low_of

-- a value chosen of one value alone that is at most another is the least of both
pub level_under : (w x v : Extended) → x ≤ᵉ w → IsChosen Least x x v → IsChosen Least w x v
level_under w x v under c = record {
  left = le_transᵉ v x w c.left under;
  right = c.left;
  one_of = inr (elim c.one_of [ inl k ↦ k | inr k ↦ k ]);
}

-- and one that is at least another is the greatest
pub level_over : (x w v : Extended) → w ≤ᵉ x → IsChosen Least x x v → IsChosen Greatest x w v
level_over x w v over c = let up : x ≤ᵉ v = elim c.one_of [ inl k ↦ k | inr k ↦ k ] in record {
  left = up;
  right = le_transᵉ w x v over up;
  one_of = inl c.left;
}

-- what is at least two values is at least the greatest of them
pub top_within : (low r top x : Extended) → IsGreatest low r top → low ≤ᵉ x → r ≤ᵉ x → top ≤ᵉ x
top_within low r top x g a b = elim g.one_of [ inl k ↦ le_transᵉ top low x k a | inr k ↦ le_transᵉ top r x k b ]

module _ {P : Type 0} (shape : ShapeOf P) (gap : Gap P) (low top : P) (start : IsStart shape gap low top) where
  abbrev here : P → Extended
  here x = value_at (shape.function x) (value gap.from)

  -- a since whose right side is not above the left goes on with the top
  pub begun_top : IsBelow (shape.function gap.right) (shape.function gap.left) (value gap.from) (value gap.to) → IsBegun shape gap top
  begun_top below = (
    start.top_of,
    record {
      low = here low;
      top = here top;
      high = here top;
      is_low = start.is_low;
      is_top = start.is_top;
      is_high = record { left = le_reflᵉ (here top); right = start.is_top.right; one_of = inl (le_reflᵉ (here top)) };
      is_value = record {
        left = top_within (here low) (here gap.right) (here top) (here gap.left) start.is_top start.is_low.right below.left;
        right = le_reflᵉ (here top);
        one_of = inr (le_reflᵉ (here top));
      };
    },
  )

  -- and where that is below low, with low
  pub begun_low : here gap.right ≤ᵉ here low → IsBegun shape gap low
  begun_low higher = (
    start.low_of,
    record {
      low = here low;
      top = here low;
      high = here low;
      is_low = start.is_low;
      is_top = record { left = le_reflᵉ (here low); right = higher; one_of = inl (le_reflᵉ (here low)) };
      is_high = record { left = le_reflᵉ (here low); right = higher; one_of = inl (le_reflᵉ (here low)) };
      is_value = record { left = start.is_low.right; right = le_reflᵉ (here low); one_of = inr (le_reflᵉ (here low)) };
    },
  )

-- what is chosen of two values
chosen_of_two : (side : Side) (x y : Extended) → (v : Extended) × IsChosen side x y v
chosen_of_two Least x y = least_of x y
chosen_of_two Greatest x y = greatest_of x y

-- where both sides have one value, the since has it
pub point_where_met : (side : Side) (x y p q : Extended) → p ≈ᵉ q → IsPointOf side x y p q p
point_where_met side x y p q e =
    let limit = chosen_of_two side x y in
    let most = greatest_of q limit.0 in
    record {
      limit = limit.0;
      most = most.0;
      is_limit = limit.1;
      is_most = most.1;
      is_value = record { left = le_reflᵉ p; right = le_transᵉ p q most.0 e.at_most most.1.left; one_of = inl (le_reflᵉ p) };
    }
