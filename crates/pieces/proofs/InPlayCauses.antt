-- A window goes on with shapes that are in play, and what it refuses on the way has a cause.
use Rattle.std.proofs.Common.{◌≡◌, ◌⊎◌, inl, inr, [], sym, subst}
use Rattle.rational.specs.Time.{Rational, ◌≤ʳ◌, ◌<ʳ◌, ◌≈◌}
use Rattle.rational.specs.Extended.{value_at, ◌≤ᵉ◌, ◌≈ᵉ◌}
use Rattle.rational.specs.Affine.{MeetAlone}
use Rattle.rational.specs.Places.{Place, Before}
use Rattle.rational.proofs.Order.{le_of_lt, le_of_same, ge_of_same, lt_of_le_of_lt, lt_of_lt_of_le, not_lt_of_le}
use Rattle.rational.proofs.ExtendedLemmas.{le_transᵉ}
use Rattle.rational.proofs.AffineLemmas.{at_least_an_end, at_most_an_end}
use Rattle.rational.proofs.AffineMeetings.{alone_swap}
use Rattle.rational.proofs.Sames.{symᵉ, transᵉ}
use Rattle.frac128.specs.Value.{value}
use Rattle.value_laws.specs.Members.{ShapeOf, ShapeLaws}
use Rattle.pl_signal.specs.declared.joining.Side.{Side}
use Rattle.pl_signal.specs.declared.joining.Side.TheVariants.{Least, Greatest}
use Rattle.pl_signal.specs.declared.faults.WidePair.{WidePair}
use Rattle.pl_signal.specs.declared.faults.WidePair.TheVariants.{Cross, Value}
use Rattle.pieces.specs.declared.reach.Reach.{Reach}
use Rattle.pieces.specs.declared.sliding.Sliding.{Sliding}
use Rattle.pieces.specs.Best.{none_of}
use Rattle.pieces.specs.Chains.{Chain, HasShape, stop}
use Rattle.pieces.specs.Over.{InPlay, IsMovedTo, Plays}
use Rattle.pieces.specs.Sliding.{HasTold, IsCrossFault, IsToldFault}
use Rattle.pieces.specs.Causes.{IsCauseBelow}
use Rattle.pieces.specs.Steps.{CountsInside, HasCounted, HasSlid, IsOfSteps, steps_end}
use Rattle.pieces.proofs.BuildingLemmas.{chain_of}

module _ {P : Type 0} (shape : ShapeOf P) (laws : ShapeLaws shape) where
  -- nothing meets the value of no values at one time alone, since nothing lies beyond it
  pub never_meets_none : (side : Side) (p none : P) (l r t : Rational)
      → ((t : Rational) → value_at (shape.function none) t ≈ᵉ none_of side shape.lowest shape.highest)
      → MeetAlone (shape.function p) (shape.function none) l r t → ⊥
  never_meets_none Greatest p none l r t is m = by_end (at_least_an_end (shape.function p) l r t (le_of_lt m.after) (le_of_lt m.before))
    where
      same : (u : Rational) → value_at (shape.function p) u ≤ᵉ value_at (shape.function p) t → u ≈ t
      same u h = m.alone u (transᵉ (record {
        at_most = le_transᵉ (value_at (shape.function p) u) (value_at (shape.function p) t) shape.lowest h (transᵉ m.meet (is t)).at_most;
        at_least = laws.lowest_is_least p u;
      }) (symᵉ (is u)))

      by_end : (value_at (shape.function p) l ≤ᵉ value_at (shape.function p) t) ⊎ (value_at (shape.function p) r ≤ᵉ value_at (shape.function p) t) → ⊥
      by_end (inl h) = not_lt_of_le (ge_of_same (same l h)) m.after
      by_end (inr h) = not_lt_of_le (le_of_same (same r h)) m.before
  never_meets_none Least p none l r t is m = by_end (at_most_an_end (shape.function p) l r t (le_of_lt m.after) (le_of_lt m.before))
    where
      same : (u : Rational) → value_at (shape.function p) t ≤ᵉ value_at (shape.function p) u → u ≈ t
      same u h = m.alone u (transᵉ (record {
        at_most = laws.highest_is_greatest p u;
        at_least = le_transᵉ shape.highest (value_at (shape.function p) t) (value_at (shape.function p) u) (transᵉ m.meet (is t)).at_least h;
      }) (symᵉ (is u)))

      by_end : (value_at (shape.function p) t ≤ᵉ value_at (shape.function p) l) ⊎ (value_at (shape.function p) t ≤ᵉ value_at (shape.function p) r) → ⊥
      by_end (inl h) = not_lt_of_le (ge_of_same (same l h)) m.after
      by_end (inr h) = not_lt_of_le (le_of_same (same r h)) m.before

  -- so what crosses where the value of no values counts beside others are two of the others
  pub cross_of_others : (side : Side) (none : P) → ((t : Rational) → value_at (shape.function none) t ≈ᵉ none_of side shape.lowest shape.highest)
      → (Has : Rational → P → Type 0) (from to : Rational) (pair : WidePair P) → IsCrossFault shape (λ tau p. Has tau p ⊎ (p ≡ none)) from to pair
      → IsCrossFault shape Has from to pair
  cross_of_others side none is Has from to (Value p at den) h = absurd h
  cross_of_others side none is Has from to (Cross p q a b den) h = record {
    time = h.time;
    meet = h.meet;
    above = h.above;
    below = h.below;
    first = left h.first;
    second = right h.second;
    denominator = h.denominator;
    wide = h.wide;
  }
    where
      never : (x y : P) → y ≡ none → MeetAlone (shape.function x) (shape.function y) (value a) (value b) h.time → ⊥
      never x y e m = never_meets_none side x none (value a) (value b) h.time is
          (subst (λ y. MeetAlone (shape.function x) (shape.function y) (value a) (value b) h.time) e m)

      left : Has h.time p ⊎ (p ≡ none) → Has h.time p
      left (inl k) = k
      left (inr e) = absurd (never q p e (alone_swap h.meet))

      right : Has h.time q ⊎ (q ≡ none) → Has h.time q
      right (inl k) = k
      right (inr e) = absurd (never p q e h.meet)

module _ {P : Type 0} (shape : ShapeOf P) (chain : Chain P) (over : Reach) (last : Place) where
  -- a crossing of two shapes that are in play is a cause at a time below a limit in the domain, where it comes no later
  pub cause_of_cross : (Has : Rational → P → Type 0) (from to limit : Rational) → chain.from.at ≤ʳ from → to ≤ʳ limit → limit ≤ʳ (stop chain).at
      → ((tau : Rational) (p : P) → from <ʳ tau → tau <ʳ to → Has tau p → InPlay shape chain over tau (shape.function p))
      → (pair : WidePair P) → IsCrossFault shape Has from to pair → IsCauseBelow shape chain over limit pair
  cause_of_cross Has from to limit begins ends inside plays (Value p at den) h = absurd h
  cause_of_cross Has from to limit begins ends inside plays (Cross p q a b den) h =
      let after : from <ʳ h.time = lt_of_le_of_lt h.above h.meet.after in
      let before : h.time <ʳ to = lt_of_lt_of_le h.meet.before h.below in
      record {
        tau = h.time;
        after_start = lt_of_le_of_lt begins after;
        before_stop = lt_of_lt_of_le (lt_of_lt_of_le before ends) inside;
        above = h.meet.after;
        below = h.meet.before;
        first = (plays h.time p after before h.first, lt_of_lt_of_le before ends);
        second = (plays h.time q after before h.second, lt_of_lt_of_le before ends);
        meet = h.meet.meet;
        alone = h.meet.alone;
        denominator = h.denominator;
        wide = h.wide;
      }

  -- what is refused where a window tells more is a cause, where the shape under which it does is in play
  pub told_cause : (side : Side) (gap : P) (until : Place) (limit : Rational) (old : Sliding P) → Plays shape chain over last old
      → chain.from.at ≤ʳ (stop old.out).at → until.at ≤ʳ limit → limit ≤ʳ (stop chain).at
      → ((tau : Rational) → (stop old.out).at <ʳ tau → tau <ʳ until.at → InPlay shape chain over tau (shape.function gap))
      → (pair : WidePair P) → IsToldFault shape side gap until old pair → IsCauseBelow shape chain over limit pair
  told_cause side gap until limit old plays begins ends inside of_gap = cause_of_cross
      (λ tau p. CountsInside (stop old.out) old.steps.items tau p ⊎ (p ≡ gap)) (stop old.out).at until.at limit begins ends inside by_part
    where
      by_part : (tau : Rational) (p : P) → (stop old.out).at <ʳ tau → tau <ʳ until.at
          → CountsInside (stop old.out) old.steps.items tau p ⊎ (p ≡ gap) → InPlay shape chain over tau (shape.function p)
      by_part tau p a b (inl k) = plays.in_play tau p k
      by_part tau p a b (inr e) = subst (λ p. InPlay shape chain over tau (shape.function p)) (sym e) (of_gap tau a b)

  -- what is refused where it tells more under the value of no values is a cause
  pub told_cause_none : ShapeLaws shape → (side : Side) (none : P) (until : Place) (limit : Rational) (old : Sliding P)
      → ((t : Rational) → value_at (shape.function none) t ≈ᵉ none_of side shape.lowest shape.highest) → Plays shape chain over last old
      → chain.from.at ≤ʳ (stop old.out).at → until.at ≤ʳ limit → limit ≤ʳ (stop chain).at
      → (pair : WidePair P) → IsToldFault shape side none until old pair → IsCauseBelow shape chain over limit pair
  told_cause_none laws side none until limit old is plays begins ends inside pair h = cause_of_cross
      (λ tau p. CountsInside (stop old.out) old.steps.items tau p) (stop old.out).at until.at limit begins ends inside
      (λ tau p a b k. plays.in_play tau p k) pair
      (cross_of_others shape laws side none is (λ tau p. CountsInside (stop old.out) old.steps.items tau p) (stop old.out).at until.at pair h)

  -- a window that has told nothing has no shapes
  pub plays_none : (s : Sliding P) (from : Place) → s.out ≡ chain_of from [] → s.steps.items ≡ [] → Plays shape chain over last s
  plays_none s from out nothing = record {
    told = λ p h. absurd (subst (λ o. HasShape o p) out h);
    moved = λ p h. absurd (subst (λ xs. IsOfSteps xs p) nothing h);
    in_play = λ tau p h. absurd (subst (λ xs. CountsInside (stop s.out) xs tau p) nothing h);
  }

  module _ (side : Side) (old new : Sliding P) (plays : Plays shape chain over last old) where
    -- a window that has told more, under a shape with such a base, has shapes that are in play
    pub plays_told : (gap : P) → IsMovedTo shape chain over last gap → HasTold shape side gap old new → Plays shape chain over last new
    plays_told gap moved told = record {
      told = λ p h. by_part p (told.shapes p h);
      moved = λ p h. plays.moved p (told.fewer p h);
      in_play = λ tau p h. plays.in_play tau p (told.counts tau p h);
    }
      where
        by_part : (p : P) → HasShape old.out p ⊎ IsOfSteps old.steps.items p ⊎ (p ≡ gap) → IsMovedTo shape chain over last p
        by_part p (inl h) = plays.told p h
        by_part p (inr (inl h)) = plays.moved p h
        by_part p (inr (inr e)) = subst (λ p. IsMovedTo shape chain over last p) (sym e) moved

    module _ (out : new.out ≡ old.out) where
      -- so has one with which a constant counts that is in play while it counts
      pub plays_counted : (k : P) (e : Place) → IsMovedTo shape chain over last k
          → ((tau : Rational) → (stop old.out).at <ʳ tau → tau <ʳ e.at → InPlay shape chain over tau (shape.function k))
          → HasCounted shape side (stop old.out) old.steps.items k e new.steps.items → Plays shape chain over last new
      plays_counted k e moved of_k counted = record {
        told = λ p h. plays.told p (subst (λ o. HasShape o p) out h);
        moved = λ p h. elim (counted.of p h) [
          | inl m ↦ plays.moved p m
          | inr same ↦ subst (λ p. IsMovedTo shape chain over last p) (sym same) moved
        ];
        in_play = λ tau p h. by_part tau p (counted.shapes tau p (subst (λ o. CountsInside (stop o) new.steps.items tau p) out h));
      }
        where
          by_part : (tau : Rational) (p : P) → CountsInside (stop old.out) old.steps.items tau p ⊎ ((p ≡ k) × ((stop old.out).at <ʳ tau) × (tau <ʳ e.at))
              → InPlay shape chain over tau (shape.function p)
          by_part tau p (inl h) = plays.in_play tau p h
          by_part tau p (inr (same, a, b)) = subst (λ p. InPlay shape chain over tau (shape.function p)) (sym same) (of_k tau a b)

      -- and one whose steps a shape follows that is in play from their end on
      pub plays_slid : (k : P) (e : Place) → (Before (steps_end (stop old.out) old.steps.items) e → IsMovedTo shape chain over last k)
          → ((tau : Rational) → (steps_end (stop old.out) old.steps.items).at <ʳ tau → tau <ʳ e.at → InPlay shape chain over tau (shape.function k))
          → HasSlid shape side (stop old.out) old.steps.items k e new.steps.items → Plays shape chain over last new
      plays_slid k e moved of_k slid = record {
        told = λ p h. plays.told p (subst (λ o. HasShape o p) out h);
        moved = λ p h. elim (slid.of p h) [
          | inl m ↦ plays.moved p m
          | inr m ↦ subst (λ p. IsMovedTo shape chain over last p) (sym m.0) (moved m.1)
        ];
        in_play = λ tau p h. by_part tau p (slid.shapes tau p (subst (λ o. CountsInside (stop o) new.steps.items tau p) out h));
      }
        where
          by_part : (tau : Rational) (p : P) → CountsInside (stop old.out) old.steps.items tau p
              ⊎ ((p ≡ k) × ((steps_end (stop old.out) old.steps.items).at <ʳ tau) × (tau <ʳ e.at)) → InPlay shape chain over tau (shape.function p)
          by_part tau p (inl h) = plays.in_play tau p h
          by_part tau p (inr (same, a, b)) = subst (λ p. InPlay shape chain over tau (shape.function p)) (sym same) (of_k tau a b)
