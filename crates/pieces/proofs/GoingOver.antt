-- How a since goes on over a part of both sides: at one time, over a gap by a course, and in two stretches.
use Rattle.std.proofs.Common.{◌≡◌, ◌⊎◌, inl, inr, ◌^◌, true, false, refl, sym, subst}
use Rattle.std.specs.Prelude.{MatchBool}
use Rattle.std.specs.declared.cmp.Ordering.{Ordering}
use Rattle.std.specs.declared.cmp.Ordering.TheVariants.{Less, Equal, Greater}
use Rattle.rational.specs.Rational.{Rational, IsOrder, ◌<ʳ◌, ◌≤ʳ◌}
use Rattle.rational.specs.Time.{◌≈◌}
use Rattle.rational.specs.Extended.{Extended, ◌≈ᵉ◌, IsLeast, IsGreatest, Affine, Passes, value_at}
use Rattle.rational.specs.Affine.{HasBoundedLevel, IsBounded, IsOrderᵉ, MeetAlone}
use Rattle.rational.specs.Onward.{InOrder, IsBelow}
use Rattle.rational.specs.Places.{After, Upto}
use Rattle.rational.proofs.Order.{le_refl, le_of_lt, not_lt_of_le, same_sym, same_trans}
use Rattle.rational.proofs.AffineLemmas.{bounded_same, value_same}
use Rattle.rational.proofs.Bounds.{bounded_between, greatest_bounded, least_bounded, level_bounded}
use Rattle.rational.proofs.ExtendedLemmas.{le_transᵉ, le_totalᵉ, le_of_ltᵉ}
use Rattle.rational.proofs.Mixed.{within_between}
use Rattle.rational.proofs.Sames.{symᵉ, transᵉ}
use Rattle.frac128.specs.Value.{value}
use Rattle.frac128.specs.Cuts.{place}
use Rattle.frac128.specs.declared.cut.Cut.{Cut}
use Rattle.frac128.specs.declared.frac.Frac.{Frac}
use Rattle.value_laws.specs.Members.{ShapeOf}
use Rattle.pl_signal.specs.Joining.{IsChosen}
use Rattle.courses.specs.declared.course.Course.{Course}
use Rattle.courses.specs.declared.course.Gap.{Gap}
use Rattle.courses.specs.declared.course.Meet.{Meet}
use Rattle.courses.specs.Courses.{IsCourse, IsGap, IsMeet, IsOfGap, IsOnwardIn, IsPlayed, goes_under}
use Rattle.courses.proofs.CourseLemmas.{goes_below, order_to_meeting}
use Rattle.pieces.specs.Chains.{Chain, HasShape, IsWorth, stop}
use Rattle.pieces.specs.Building.{GoesOn}
use Rattle.pieces.specs.Joining.{Joins}
use Rattle.pieces.specs.Sinces.{GoesOver, IsFit, IsUsed, up_to, from_on}
use Rattle.pieces.proofs.Ends.{after_le, upto_le, only_time}
use Rattle.pieces.proofs.SincePlaces.{here_onward}
use Rattle.pieces.proofs.SinceSteps.{order_from_meeting}

-- what is not less, and not greater, is the same
pub same_of_order : (o : Ordering) (a b : Rational) → IsOrder o a b → ¬ (o ≡ Less) → a ≤ʳ b → a ≈ b
same_of_order Less a b h n le = absurd (n refl)
same_of_order Equal a b h n le = h
same_of_order Greater a b h n le = absurd (not_lt_of_le le h)

-- a turn that is a crossing, and one that is the end
module _ {f h : Affine} {from next : Frac} (turn : Meet) (is : IsMeet f h from next turn) where
  pub meets_of : turn.met ≡ true → MeetAlone f h (value from) (value next) (value turn.time)
  meets_of e = subst (λ b. MatchBool b (MeetAlone f h (value from) (value next) (value turn.time)) (turn.time ≡ next)) e is.kind

  pub ends_of : turn.met ≡ false → turn.time ≡ next
  ends_of e = subst (λ b. MatchBool b (MeetAlone f h (value from) (value next) (value turn.time)) (turn.time ≡ next)) e is.kind

module _ {P : Type 0} (shape : ShapeOf P) (gap : Gap P) where
  -- a shape that is played on a gap has a bounded level
  pub played_level : (x : P) → IsGap shape gap → IsPlayed shape gap x → HasBoundedLevel (2 ^ 31) (shape.function x)
  played_level x is played = level_bounded (2 ^ 31) (shape.function x) (value gap.from) (small x played)
    where
      of_gap : (o : P) → IsOfGap shape gap o → IsBounded (2 ^ 31) (value_at (shape.function o) (value gap.from))
      of_gap o (inl e) = subst (λ o. IsBounded (2 ^ 31) (value_at (shape.function o) (value gap.from))) (sym e) is.before_small
      of_gap o (inr (inl e)) = subst (λ o. IsBounded (2 ^ 31) (value_at (shape.function o) (value gap.from))) (sym e) is.left_small
      of_gap o (inr (inr e)) = subst (λ o. IsBounded (2 ^ 31) (value_at (shape.function o) (value gap.from))) (sym e) is.right_small

      small : (x : P) → IsPlayed shape gap x → IsBounded (2 ^ 31) (value_at (shape.function x) (value gap.from))
      small x (inl e) = of_gap x (inr (inl e))
      small x (inr (inl e)) = of_gap x (inr (inr e))
      small x (inr (inr (o, begun, fixed, still))) = bounded_same (2 ^ 31) (value_at (shape.function x) (value gap.from))
          (value_at (shape.function o) (value gap.from)) (fixed (value gap.from)) (of_gap o begun.0)

  -- what the since is at a time is bounded where the sides are
  onward_small : (t : Rational) (v : Extended) → IsFit shape gap → IsBounded (2 ^ 31) (value_at (shape.function gap.left) t)
      → IsBounded (2 ^ 31) (value_at (shape.function gap.right) t) → IsOnwardIn shape gap t v → IsBounded (2 ^ 31) v
  onward_small t v fit l r on =
      let low = least_bounded (2 ^ 31) (value_at (shape.function gap.before) (value gap.from)) (value_at (shape.function gap.left) (value gap.from)) on.low
      on.is_low fit.before_small fit.left_small in
      let top = greatest_bounded (2 ^ 31) on.low (value_at (shape.function gap.right) (value gap.from)) on.top on.is_top low fit.right_small in
      let high = greatest_bounded (2 ^ 31) on.top (value_at (shape.function gap.right) t) on.high on.is_high top r in
      least_bounded (2 ^ 31) (value_at (shape.function gap.left) t) on.high v on.is_value l high

  -- a gap in one order
  pub whole_gap : IsFit shape gap → value gap.from <ʳ value gap.to
      → InOrder (shape.function gap.left) (shape.function gap.right) (value gap.from) (value gap.to) → IsGap shape gap
  whole_gap fit later order = record {
    later = later;
    from_within = fit.from_within;
    to_within = fit.to_within;
    before_small = fit.before_small;
    left_small = fit.left_small;
    right_small = fit.right_small;
    in_order = order;
  }

  -- up to a crossing
  pub first_gap : (time : Frac) → IsFit shape gap
      → MeetAlone (shape.function gap.left) (shape.function gap.right) (value gap.from) (value gap.to) (value time) → IsGap shape (up_to gap time)
  first_gap time fit m = record {
    later = m.after;
    from_within = fit.from_within;
    to_within = within_between (2 ^ 34) fit.from_within fit.to_within (le_of_lt m.after) (le_of_lt m.before);
    before_small = fit.before_small;
    left_small = fit.left_small;
    right_small = fit.right_small;
    in_order = order_to_meeting (shape.function gap.left) (shape.function gap.right) (value gap.from) (value time) m.meet;
  }

  -- and from there on
  pub second_gap : (time : Frac) (middle : P) → IsFit shape gap
      → MeetAlone (shape.function gap.left) (shape.function gap.right) (value gap.from) (value gap.to) (value time)
      → IsOnwardIn shape gap (value time) (value_at (shape.function middle) (value time)) → IsGap shape (from_on gap time middle)
  second_gap time middle fit m on =
      let l = bounded_between (2 ^ 31) (shape.function gap.left) (value gap.from) (value time) (value gap.to) m.after m.before fit.left_small fit.left_last in
      let r = bounded_between (2 ^ 31) (shape.function gap.right) (value gap.from) (value time) (value gap.to) m.after m.before
      fit.right_small fit.right_last in
      record {
        later = m.before;
        from_within = within_between (2 ^ 34) fit.from_within fit.to_within (le_of_lt m.after) (le_of_lt m.before);
        to_within = fit.to_within;
        before_small = onward_small (value time) (value_at (shape.function middle) (value time)) fit l r on;
        left_small = l;
        right_small = r;
        in_order = order_from_meeting (shape.function gap.left) (shape.function gap.right) (value time) (value gap.to) m.meet;
      }

  -- which side is below the other from a crossing on
  pub second_under : (time : Frac) (end : Ordering)
      → MeetAlone (shape.function gap.left) (shape.function gap.right) (value gap.from) (value gap.to) (value time)
      → IsOrderᵉ end (value_at (shape.function gap.left) (value gap.to)) (value_at (shape.function gap.right) (value gap.to))
      → MatchBool (goes_under Equal end) (IsBelow (shape.function gap.left) (shape.function gap.right) (value time) (value gap.to))
      (IsBelow (shape.function gap.right) (shape.function gap.left) (value time) (value gap.to))
  second_under time end m order =
      goes_below (shape.function gap.left) (shape.function gap.right) time gap.to (record { time = gap.to; met = false }) Equal end
      (record {
        after = m.before;
        not_later = le_refl (value gap.to);
        in_order = order_from_meeting (shape.function gap.left) (shape.function gap.right) (value time) (value gap.to) m.meet;
        kind = refl;
      }) m.meet order

  -- a chain that goes on by a course
  pub by_course : {course : Course P} {old new : Chain P} (until : Cut) (last : P) → IsGap shape gap → IsCourse shape gap course
      → value gap.from ≡ (stop old).at → gap.to ≡ until.time → Joins shape course.side old course.first course.second until new
      → (last ≡ course.first) ⊎ (last ≡ course.second)
      → IsChosen course.side (value_at (shape.function course.first) (value until.time)) (value_at (shape.function course.second) (value until.time))
      (value_at (shape.function last) (value until.time))
      → GoesOver shape gap until old new last
  by_course {course} {old} {new} until last is goes begins ends joins one chosen = record {
    in_order = is.in_order;
    normal = joins.normal;
    begins = joins.begins;
    ends = joins.ends;
    worth = λ t v w. by_part t v ((joins.worth t v).0 w);
    shapes = λ r h. by_shape r (joins.shapes r h);
    here = goes.onward (value gap.to) (value_at (shape.function last) (value gap.to)) (le_of_lt is.later) (le_refl (value gap.to))
        (subst (λ t. IsChosen course.side (value_at (shape.function course.first) (value t)) (value_at (shape.function course.second) (value t))
        (value_at (shape.function last) (value t))) (sym ends) chosen);
    last_of = by_one one;
  }
    where
      by_part : (t : Rational) (v : Extended) → IsWorth shape old t v ⊎ (After (stop old) t × Upto (place until) t
          × IsChosen course.side (value_at (shape.function course.first) t) (value_at (shape.function course.second) t) v)
          → IsWorth shape old t v ⊎ (After (stop old) t × Upto (place until) t × IsOnwardIn shape gap t v)
      by_part t v (inl w) = inl w
      by_part t v (inr w) = inr (
        w.0,
        w.1,
        goes.onward t v (subst (λ s. s ≤ʳ t) (sym begins) (after_le (stop old) t w.0))
            (subst (λ s. t ≤ʳ value s) (sym ends) (upto_le (place until) t w.1)) w.2,
      )

      by_shape : (r : P) → HasShape old r ⊎ (r ≡ course.first) ⊎ (r ≡ course.second) → HasShape old r ⊎ IsUsed shape gap r
      by_shape r (inl h) = inl h
      by_shape r (inr (inl e)) = inr (inl (subst (IsPlayed shape gap) (sym e) goes.first))
      by_shape r (inr (inr e)) = inr (inl (subst (IsPlayed shape gap) (sym e) goes.second))

      by_one : (last ≡ course.first) ⊎ (last ≡ course.second) → IsUsed shape gap last
      by_one (inl e) = inl (subst (IsPlayed shape gap) (sym e) goes.first)
      by_one (inr e) = inl (subst (IsPlayed shape gap) (sym e) goes.second)

  -- at one time alone they are in one order
  order_at_once : (f h : Affine) (l r : Rational) → l ≈ r → InOrder f h l r
  order_at_once f h l r same = elim (le_totalᵉ (value_at f l) (value_at h l)) [
    | inl k ↦ inl (record {
      left = k;
      right = le_transᵉ (value_at f r) (value_at f l) (value_at h r) (value_same f same).at_least
          (le_transᵉ (value_at f l) (value_at h l) (value_at h r) k (value_same h same).at_most);
    })
    | inr k ↦ (let o = le_of_ltᵉ (value_at h l) (value_at f l) k in inr (record {
      left = o;
      right = le_transᵉ (value_at h r) (value_at h l) (value_at f r) (value_same h same).at_least
          (le_transᵉ (value_at h l) (value_at f l) (value_at f r) o (value_same f same).at_most);
    }))
  ]

  -- a chain that goes on at one time alone
  pub by_time : {old new : Chain P} (until : Cut) (most last : P) → value gap.from ≈ value gap.to → value gap.from ≡ (stop old).at
      → gap.to ≡ until.time → (most ≡ gap.right) ⊎ (most ≡ gap.before) → (last ≡ gap.left) ⊎ (last ≡ most)
      → IsGreatest (value_at (shape.function gap.right) (value gap.from)) (value_at (shape.function gap.before) (value gap.from))
      (value_at (shape.function most) (value gap.from))
      → IsLeast (value_at (shape.function gap.left) (value gap.from)) (value_at (shape.function most) (value gap.from))
      (value_at (shape.function last) (value gap.from))
      → GoesOn shape old until last new → GoesOver shape gap until old new last
  by_time {old} {new} until most last same begins ends of_most of_last greatest least on = record {
    in_order = order_at_once (shape.function gap.left) (shape.function gap.right) (value gap.from) (value gap.to) same;
    normal = on.normal;
    begins = on.begins;
    ends = on.ends;
    worth = λ t v w. by_part t v ((on.worth t v).0 w);
    shapes = λ r h. by_shape r (on.shapes r h);
    here = onward (value gap.to) (value_at (shape.function last) (value gap.to)) same (value_same (shape.function last) same);
    last_of = used of_most of_last;
  }
    where
      onward : (t : Rational) (v : Extended) → value gap.from ≈ t → value_at (shape.function last) (value gap.from) ≈ᵉ v → IsOnwardIn shape gap t v
      onward t v e is = here_onward (value_at (shape.function gap.before) (value gap.from)) (value_at (shape.function most) (value gap.from))
          (value_at (shape.function last) (value gap.from)) (shape.function gap.left) (shape.function gap.right) (value gap.from) t greatest least e v is

      here : (t : Rational) → After (stop old) t → Upto (place until) t → value gap.from ≈ t
      here t a u = same_trans (subst (λ s. value gap.from ≈ value s) ends same)
          (same_sym (only_time (stop old) (place until) t (subst (λ s. s ≈ value until.time) begins (subst (λ s. value gap.from ≈ value s) ends same)) a u))

      by_part : (t : Rational) (v : Extended) → IsWorth shape old t v ⊎ (After (stop old) t × Upto (place until) t × Passes (shape.function last) t v)
          → IsWorth shape old t v ⊎ (After (stop old) t × Upto (place until) t × IsOnwardIn shape gap t v)
      by_part t v (inl w) = inl w
      by_part t v (inr w) = let e = here t w.0 w.1 in
          inr (w.0, w.1, onward t v e (transᵉ (value_same (shape.function last) e) (symᵉ w.2)))

      used : (most ≡ gap.right) ⊎ (most ≡ gap.before) → (last ≡ gap.left) ⊎ (last ≡ most) → IsUsed shape gap last
      used x (inl e) = inl (inl e)
      used (inl x) (inr e) = inl (inr (inl (subst (λ m. last ≡ m) x e)))
      used (inr x) (inr e) = inr (subst (λ m. last ≡ m) x e)

      by_shape : (r : P) → HasShape old r ⊎ (r ≡ last) → HasShape old r ⊎ IsUsed shape gap r
      by_shape r (inl h) = inl h
      by_shape r (inr e) = inr (subst (IsUsed shape gap) (sym e) (used of_most of_last))
