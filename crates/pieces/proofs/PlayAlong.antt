-- What is in play in a step over one function is in play in the step over another that agrees with it on the domain; and so for causes.
use Rattle.std.proofs.Common.{◌≡◌, ◌⊎◌, inl, inr, ℕ, ℤ, pos, Bool, true}
use Rattle.std.specs.Prelude.{Option, IfSome}
use Rattle.rational.specs.Time.{Rational, shifted, ◌<ʳ◌, ◌≈◌}
use Rattle.rational.specs.Extended.{Affine}
use Rattle.rational.specs.Windows.{Function, Window, Ahead, Behind}
use Rattle.rational.specs.InPlay.{IsBreakpoint, start, stop, inner, IsLeftLimit, IsRightLimit, of_two, window_ahead}
use Rattle.rational.specs.InPlay.{Step, window_behind, until_end, since_start, IsEndBehind, IsEndPart, IsValueWithin}
use Rattle.rational.specs.InPlay.{IsLimitWithin, IsNext, IsPrevious, IsCrossing, IsInPlay, IsWideCrossing, IsWideValue}
use Rattle.rational.proofs.Order.{lt_of_le_of_lt, lt_of_lt_of_le, lt_trans, le_of_same, ge_of_same, same_trans}
use Rattle.frac128.specs.Value.{value}
use Rattle.value_laws.specs.Members.{ShapeOf}
use Rattle.pl_signal.specs.declared.faults.WidePair.TheVariants.{Cross, Value}
use Rattle.pl_signal.specs.declared.faults.OpFault.{OpFault}
use Rattle.pl_signal.specs.declared.faults.OpFault.TheVariants as F
use Rattle.pl_signal.specs.Wide.{HasCause}
use Rattle.pieces.proofs.Stretches.{IsOn, line_along, part_along, breakpoint_along, left_along, right_along, AreAlike, left_within, right_within}
use Rattle.pieces.proofs.Stretches.{within_same_ends}

module _ (from to from' to' : Rational) (begins : from ≈ from') (ends : to ≈ to') where
  -- a window ahead does not depend on the pairs of the domain
  pub ahead_ends : {a b : ℕ} {a_in b_in : Bool} {t u : Rational} → Ahead from to a b a_in b_in t u → Ahead from' to' a b a_in b_in t u
  ahead_ends w = record { inside = within_same_ends begins ends w.inside; begins = w.begins; ends = w.ends }

  -- nor does one behind
  pub behind_ends : {a : ℕ} {b : Option ℕ} {a_in b_in : Bool} {t u : Rational} → Behind from to a b a_in b_in t u → Behind from' to' a b a_in b_in t u
  behind_ends w = record { inside = within_same_ends begins ends w.inside; begins = w.begins; ends = w.ends }

  breakpoint_ends : {F : Function} {u : Rational} → IsBreakpoint F from to u → IsBreakpoint F from' to' u
  breakpoint_ends (start e) = start (same_trans e begins)
  breakpoint_ends (stop e) = stop (same_trans e ends)
  breakpoint_ends (inner i no_line) = inner (within_same_ends begins ends i) no_line

  module _ (F G : Function) (on : IsOn from to F G) where
    break : {u : Rational} → IsBreakpoint F from to u → IsBreakpoint G from' to' u
    break b = breakpoint_ends (breakpoint_along from to F G on b)

    end_part : (tau : Rational) (line : Affine) (Ends : ℤ → Type 0) → IsEndPart F from to tau line Ends → IsEndPart G from' to' tau line Ends
    end_part tau line Ends (k, e, old, i, p, m) = (k, e, old, within_same_ends begins ends i, part_along from to F G on p, m)

    value_within : (line : Affine) (W W' : Window) → ((u : Rational) → W u → W' u) → IsValueWithin F from to W line → IsValueWithin G from' to' W' line
    value_within line W W' w (u, b, i, v, f, c) = (u, break b, w u i, v, on.forth u v f, c)

    limit_within : (line : Affine) (C C' L R : Window) → ((u : Rational) → C u → C' u) → IsLimitWithin F from to C L R line
        → IsLimitWithin G from' to' C' L R line
    limit_within line C C' L R w (u, b, i, v, inl (h, l, k), c) =
        (u, break b, w u i, v, inl (lt_of_le_of_lt (ge_of_same begins) h, l, left_along from to F G on k), c)
    limit_within line C C' L R w (u, b, i, v, inr (h, r, k), c) =
        (u, break b, w u i, v, inr (lt_of_lt_of_le h (le_of_same ends), r, right_along from to F G on k), c)

    -- in the step of a window ahead
    pub ahead_along : (a b : ℕ) (a_in b_in : Bool) (tau : Rational) (line : Affine) → IsInPlay (window_ahead F a b a_in b_in) from to tau line
        → IsInPlay (window_ahead G a b a_in b_in) from' to' tau line
    ahead_along a b a_in b_in tau line (h, inl p) = ((h.0, ahead_ends h.1), inl (end_part tau line (λ k. (k ≡ pos a) ⊎ (k ≡ pos b)) p))
    ahead_along a b a_in b_in tau line (h, inr (inl p)) =
        ((h.0, ahead_ends h.1), inr (inl (value_within line (Ahead from to a b a_in b_in tau) (Ahead from' to' a b a_in b_in tau) (λ u w. ahead_ends w) p)))
    ahead_along a b a_in b_in tau line (h, inr (inr p)) = (
      (h.0, ahead_ends h.1),
      inr
          (inr (limit_within line (Ahead from to a b true true tau) (Ahead from' to' a b true true tau) (λ u. shifted tau (pos a) <ʳ u)
          (λ u. u <ʳ shifted tau (pos b)) (λ u w. ahead_ends w) p)),
    )

    -- of one behind
    pub behind_along : (a : ℕ) (b : Option ℕ) (a_in b_in : Bool) (tau : Rational) (line : Affine)
        → IsInPlay (window_behind F a b a_in b_in) from to tau line → IsInPlay (window_behind G a b a_in b_in) from' to' tau line
    behind_along a b a_in b_in tau line (h, inl p) = ((h.0, behind_ends h.1), inl (end_part tau line (IsEndBehind a b) p))
    behind_along a b a_in b_in tau line (h, inr (inl p)) =
        ((h.0, behind_ends h.1), inr (inl (value_within line (Behind from to a b a_in b_in tau) (Behind from' to' a b a_in b_in tau) (λ u w. behind_ends w) p)))
    behind_along a b a_in b_in tau line (h, inr (inr p)) = (
      (h.0, behind_ends h.1),
      inr
          (inr (limit_within line (Behind from to a b true true tau) (Behind from' to' a b true true tau)
          (λ u. IfSome b (λ b. tau <ʳ shifted u (pos b))) (λ u. shifted u (pos a) <ʳ tau) (λ u w. behind_ends w) p)),
    )

  -- steps over two functions, whose result agrees with another on the domain
  module _ (F F' G G' R R' : Function) (left : IsOn from to F F') (right : IsOn from to G G') (result : AreAlike from to R R') where
    next_along : (tau u : Rational) → IsNext F G from to tau u → IsNext F' G' from' to' tau u
    next_along tau u n = record {
      inside = within_same_ends begins ends n.inside;
      after = n.after;
      left = n.left;
      right = n.right;
      left_on = line_along from to F F' left n.left n.left_on;
      right_on = line_along from to G G' right n.right n.right_on;
      none_before = n.none_before;
      here = by_kind n.here;
    }
      where
        by_kind : IsBreakpoint F from to u ⊎ IsBreakpoint G from to u ⊎ IsCrossing n.left n.right u → IsBreakpoint F' from' to' u
            ⊎ IsBreakpoint G' from' to' u ⊎ IsCrossing n.left n.right u
        by_kind (inl b) = inl (break F F' left b)
        by_kind (inr (inl b)) = inr (inl (break G G' right b))
        by_kind (inr (inr c)) = inr (inr c)

    -- of until to the end
    pub until_along : (tau : Rational) (line : Affine) → from <ʳ tau → IsInPlay (until_end F G R) from to tau line
        → IsInPlay (until_end F' G' R') from' to' tau line
    until_along tau line h (inl p) = inl (part_along from to F F' left p)
    until_along tau line h (inr (inl p)) = inr (inl (part_along from to G G' right p))
    until_along tau line h (inr (inr (u, n, v, c, side))) = inr (inr (u, next_along tau u n, v, c, by_side side))
      where
        by_side : (F u v ⊎ IsLeftLimit F u v) ⊎ (G u v ⊎ IsLeftLimit G u v) ⊎ (R u v ⊎ IsLeftLimit R u v) → (F' u v ⊎ IsLeftLimit F' u v)
            ⊎ (G' u v ⊎ IsLeftLimit G' u v) ⊎ (R' u v ⊎ IsLeftLimit R' u v)
        by_side (inl (inl f)) = inl (inl (left.forth u v f))
        by_side (inl (inr l)) = inl (inr (left_along from to F F' left l))
        by_side (inr (inl (inl f))) = inr (inl (inl (right.forth u v f)))
        by_side (inr (inl (inr l))) = inr (inl (inr (left_along from to G G' right l)))
        by_side (inr (inr (inl f))) = inr (inr (inl (result.forth u v n.inside f)))
        by_side (inr (inr (inr l))) = inr (inr (inr (left_within from to R R' result (lt_trans h n.after) n.inside.below l)))

    previous_along : (tau u : Rational) → IsPrevious F G from to tau u → IsPrevious F' G' from' to' tau u
    previous_along tau u n = record {
      inside = within_same_ends begins ends n.inside;
      before = n.before;
      left = n.left;
      right = n.right;
      left_on = line_along from to F F' left n.left n.left_on;
      right_on = line_along from to G G' right n.right n.right_on;
      none_before = n.none_before;
      here = by_kind n.here;
    }
      where
        by_kind : IsBreakpoint F from to u ⊎ IsBreakpoint G from to u ⊎ IsCrossing n.left n.right u → IsBreakpoint F' from' to' u
            ⊎ IsBreakpoint G' from' to' u ⊎ IsCrossing n.left n.right u
        by_kind (inl b) = inl (break F F' left b)
        by_kind (inr (inl b)) = inr (inl (break G G' right b))
        by_kind (inr (inr c)) = inr (inr c)

    -- of since from the start
    pub since_along : (tau : Rational) (line : Affine) → tau <ʳ to → IsInPlay (since_start F G R) from to tau line
        → IsInPlay (since_start F' G' R') from' to' tau line
    since_along tau line h (inl p) = inl (part_along from to F F' left p)
    since_along tau line h (inr (inl p)) = inr (inl (part_along from to G G' right p))
    since_along tau line h (inr (inr (u, n, v, c, side))) = inr (inr (u, previous_along tau u n, v, c, by_side side))
      where
        by_side : (F u v ⊎ IsRightLimit F u v) ⊎ (G u v ⊎ IsRightLimit G u v) ⊎ (R u v ⊎ IsRightLimit R u v) → (F' u v ⊎ IsRightLimit F' u v)
            ⊎ (G' u v ⊎ IsRightLimit G' u v) ⊎ (R' u v ⊎ IsRightLimit R' u v)
        by_side (inl (inl f)) = inl (inl (left.forth u v f))
        by_side (inl (inr l)) = inl (inr (right_along from to F F' left l))
        by_side (inr (inl (inl f))) = inr (inl (inl (right.forth u v f)))
        by_side (inr (inl (inr l))) = inr (inl (inr (right_along from to G G' right l)))
        by_side (inr (inr (inl f))) = inr (inr (inl (result.forth u v n.inside f)))
        by_side (inr (inr (inr l))) = inr (inr (inr (right_within from to R R' result n.inside.above (lt_trans n.before h) l)))

-- of two functions
pub of_two_along : {l r l' r' : Rational} (from to from' to' : Rational) (F F' G G' : Function) → IsOn l r F F' → IsOn l' r' G G'
    → (tau : Rational) (line : Affine) → IsInPlay (of_two F G) from to tau line → IsInPlay (of_two F' G') from' to' tau line
of_two_along {l} {r} from to from' to' F F' G G' left right tau line (inl p) = inl (part_along l r F F' left p)
of_two_along {l' = l'} {r' = r'} from to from' to' F F' G G' left right tau line (inr p) = inr (part_along l' r' G G' right p)

-- a step and another on the same stretch, in which is in play whatever is in play in the first
pub record GoesAlong (Step Other : Rational → Affine → Type 0) (from to from' to' : Rational) : Type 0 where
  -- the two begin at one time
  pub begins : from ≈ from'
  -- and end at one time
  pub ends : to ≈ to'
  -- between them what is in play in the one step is in play in the other
  pub forth : (tau : Rational) (line : Affine) → from <ʳ tau → tau <ʳ to → Step tau line → Other tau line

-- a cause in the one step is a cause in the other
pub crossing_along : {Step Other : Rational → Affine → Type 0} {from to from' to' : Rational} → GoesAlong Step Other from to from' to'
    → (p q : Affine) (a b : Rational) (den : ℕ) → IsWideCrossing Step from to p q a b den → IsWideCrossing Other from' to' p q a b den
crossing_along along p q a b den w = record {
  tau = w.tau;
  after_start = lt_of_le_of_lt (ge_of_same along.begins) w.after_start;
  before_stop = lt_of_lt_of_le w.before_stop (le_of_same along.ends);
  above = w.above;
  below = w.below;
  first = along.forth w.tau p w.after_start w.before_stop w.first;
  second = along.forth w.tau q w.after_start w.before_stop w.second;
  meet = w.meet;
  alone = w.alone;
  denominator = w.denominator;
  wide = w.wide;
}

-- and so for a constant
pub value_along : {Step Other : Rational → Affine → Type 0} {from to from' to' : Rational} → GoesAlong Step Other from to from' to'
    → (p : Affine) (u : Rational) (den : ℕ) → IsWideValue Step from to p u den → IsWideValue Other from' to' p u den
value_along along p u den w = record {
  tau = w.tau;
  after_start = lt_of_le_of_lt (ge_of_same along.begins) w.after_start;
  before_stop = lt_of_lt_of_le w.before_stop (le_of_same along.ends);
  value = w.value;
  is_value = w.is_value;
  line = w.line;
  constant = w.constant;
  in_play = along.forth w.tau w.line w.after_start w.before_stop w.in_play;
  denominator = w.denominator;
  wide = w.wide;
}

-- so for a fault
pub cause_along : {P : Type 0} (shape : ShapeOf P) (step other : Step) (from to from' to' : Rational) (e : OpFault P)
    → GoesAlong (IsInPlay step from to) (IsInPlay other from' to') from to from' to' → HasCause shape step from to e → HasCause shape other from' to' e
cause_along shape step other from to from' to' F.Memory along h = tt
cause_along shape step other from to from' to' (F.Wide (Cross p q a b den)) along h =
    crossing_along along (shape.function p) (shape.function q) (value a) (value b) den h
cause_along shape step other from to from' to' (F.Wide (Value p at den)) along h = value_along along (shape.function p) (value at) den h
