-- The window of a node without a far bound: the best over it is the node's margin, and what is in play in it is in play at the node.
use Rattle.std.proofs.Common.{◌≡◌, ◌⊎◌, inl, inr, ℕ, ◌^◌, Bool, true, false, sym, subst, arith, None, ℤ, pos}
use Rattle.std.specs.Prelude.{neg_ℤ}
use Rattle.std.proofs.lemmas.Int.{ints}
use Rattle.rational.specs.Time.{Rational, shifted, whole, ◌≤ʳ◌, ◌<ʳ◌}
use Rattle.rational.specs.Extended.{Affine, Extended, minus_infinity, infinity}
use Rattle.rational.specs.InPlay.{IsEndBehind, IsInPlay, IsLeftLimit, IsRightLimit, window_behind}
use Rattle.rational.specs.Windows.{Function, Behind}
use Rattle.rational.proofs.Order.{le_of_lt, le_of_same, le_refl, lt_of_le_of_lt, not_lt_of_le}
use Rattle.rational.proofs.Shift.{lt_whole}
use Rattle.rational.proofs.WindowLemmas.{inf_over_alike, sup_over_alike}
use Rattle.pl_signal.specs.declared.joining.Side.{Side}
use Rattle.pl_signal.specs.declared.joining.Side.TheVariants.{Least, Greatest}
use Rattle.stl_syntax.specs.Trace.{Trace, start, stop}
use Rattle.stl_syntax.specs.Formula.{Subformula, tree_of}
use Rattle.stl_syntax.specs.SupInf.{Robustness, margin_setting}
use Rattle.stl_syntax.specs.WideCause.{IsInPlayAt}
use Rattle.stl_syntax.specs.declared.node.Node.{Node}
use Rattle.stl_syntax.specs.declared.node.Node.TheVariants as N
use Rattle.online_nodes.specs.StreamedWide.{BehindConstant, IsSettledConstant, front_at}
use Rattle.online_robust.specs.Standing.{IsPastOf, past_window}
use Rattle.online_robust.specs.Windows.{Holds, InPlayOver, SettledOver, best_over}
use Rattle.online_robust.specs.declared.slide.Window.{Window}
use Rattle.online_robust.proofs.MovedTimes.{back_before, before_back, none_so_far, shifted_pos}

-- ---- times in a window

module _ (from to : Rational) (p : ℕ) (side : Side) (a : ℕ) (a_in b_in : Bool) (t u : Rational) where
  holds_past : Holds from to (past_window p side a a_in) t u → Behind from to a None a_in b_in t u
  holds_past h = record { inside = h.inside; begins = tt; ends = before_back a_in t u a h.ends }

  -- no time of the rows is as far back
  past_holds : whole (pos 0) ≤ʳ from → t ≤ʳ whole (pos 4294967295) → Behind from to a None a_in b_in t u → Holds from to (past_window p side a a_in) t u
  past_holds first last h = record {
    inside = h.inside;
    begins = le_of_lt (none_so_far from (whole (pos 4294967295)) first
        (lt_whole {j = pos 4294967295} {k = pos (2 ^ 32)} (omega (arith, ints))) t u last h.inside.above);
    ends = back_before a_in t u a h.ends;
  }

-- ---- the best over the window

-- up to a time of 32 bits it is the margin of the node
pub best_past : (f : ℕ → Subformula) (place : ℕ) (n : Node) (w : Window) (tr : Trace) → IsPastOf n w → whole (pos 0) ≤ʳ start tr → (t : Rational) (r : Extended)
    → t ≤ʳ whole (pos 4294967295) → best_over tr (Robustness (f w.of) tr) w t r → Robustness (tree_of f place n) tr t r
best_past f place (N.Once p a None a_in b_in) w tr is first t r last h =
    sup_over_alike (Holds (start tr) (stop tr) (past_window p Greatest a a_in) t) (Behind (start tr) (stop tr) a None a_in b_in t)
    (Robustness (f p) tr) minus_infinity r
    (λ u. holds_past (start tr) (stop tr) p Greatest a a_in b_in t u) (λ u. past_holds (start tr) (stop tr) p Greatest a a_in b_in t u first last)
    (subst (λ (x : Window). best_over tr (Robustness (f x.of) tr) x t r) is h)
best_past f place (N.Historically p a None a_in b_in) w tr is first t r last h =
    inf_over_alike (Holds (start tr) (stop tr) (past_window p Least a a_in) t) (Behind (start tr) (stop tr) a None a_in b_in t) (Robustness (f p) tr) infinity r
    (λ u. holds_past (start tr) (stop tr) p Least a a_in b_in t u) (λ u. past_holds (start tr) (stop tr) p Least a a_in b_in t u first last)
    (subst (λ (x : Window). best_over tr (Robustness (f x.of) tr) x t r) is h)
best_past f place _ w tr is first t r last h = absurd is

-- ---- in play

-- the sides from which the window goes on
sides_past : (P : Function) (from to : Rational) (a : ℕ) (low : ℤ) (tau u : Rational) (v : Extended)
    → ((from <ʳ u) × (shifted tau low <ʳ u) × IsLeftLimit P u v) ⊎ ((u <ʳ to) × (u <ʳ shifted tau (neg_ℤ (pos a))) × IsRightLimit P u v)
    → ((from <ʳ u) × Unit {0} × IsLeftLimit P u v) ⊎ ((u <ʳ to) × (shifted u (pos a) <ʳ tau) × IsRightLimit P u v)
sides_past P from to a low tau u v (inl h) = inl (h.0, tt, h.2)
sides_past P from to a low tau u v (inr h) = inr (h.0, lt_of_le_of_lt (le_of_same (shifted_pos u a)) (before_back false tau u a h.1), h.2)

over_past : (P : Function) (from to : Rational) {p : ℕ} {side : Side} (a : ℕ) (a_in b_in : Bool) (tau : Rational) (line : Affine) → whole (pos 0) ≤ʳ from
    → tau ≤ʳ whole (pos 4294967295) → InPlayOver P from to (past_window p side a a_in) tau line → IsInPlay (window_behind P a None a_in b_in) from to tau line
over_past P from to {p} {side} a a_in b_in tau line first last (has, inl (k, is, old, inside, part, moved)) =
    ((has.0, holds_past from to p side a a_in b_in tau has.0 has.1), inl (k, by_end is, old, inside, part, moved))
  where
    by_end : (k ≡ neg_ℤ (pos 4294967296)) ⊎ (k ≡ neg_ℤ (pos a)) → IsEndBehind a None k
    by_end (inl e) = absurd (not_lt_of_le inside.above (subst (λ (z : ℤ). shifted tau z <ʳ from) (sym e)
        (none_so_far from (whole (pos 4294967295)) first
        (lt_whole {j = pos 4294967295} {k = pos (2 ^ 32)} (omega (arith, ints))) tau from last (le_refl from))))
    by_end (inr e) = e
over_past P from to {p} {side} a a_in b_in tau line first last (has, inr (inl (u, point, inside, v, f, constant))) = (
  (has.0, holds_past from to p side a a_in b_in tau has.0 has.1),
  inr (inl (u, point, holds_past from to p side a a_in b_in tau u inside, v, f, constant)),
)
over_past P from to {p} {side} a a_in b_in tau line first last (has, inr (inr (u, point, closes, v, sides, constant))) = (
  (has.0, holds_past from to p side a a_in b_in tau has.0 has.1),
  inr (inr (u, point, holds_past from to p side a true true tau u closes, v, sides_past P from to a (neg_ℤ (pos 4294967296)) tau u v sides, constant)),
)

-- at the node of the window
pub in_play_past : (f : ℕ → Subformula) (place : ℕ) (n : Node) (w : Window) (tr : Trace) → IsPastOf n w
    → whole (pos 0) ≤ʳ start tr → (tau : Rational) (line : Affine)
    → tau ≤ʳ whole (pos 4294967295) → InPlayOver (Robustness (f w.of) tr) (start tr) (stop tr) w tau line
    → IsInPlayAt (tree_of f place n) (margin_setting tr) tau line
in_play_past f place (N.Once p a None a_in b_in) w tr is first tau line last h =
    over_past (Robustness (f p) tr) (start tr) (stop tr) a a_in b_in tau line first last
    (subst (λ (x : Window). InPlayOver (Robustness (f x.of) tr) (start tr) (stop tr) x tau line) is h)
in_play_past f place (N.Historically p a None a_in b_in) w tr is first tau line last h =
    over_past (Robustness (f p) tr) (start tr) (stop tr) a a_in b_in tau line first last
    (subst (λ (x : Window). InPlayOver (Robustness (f x.of) tr) (start tr) (stop tr) x tau line) is h)
in_play_past f place _ w tr is first tau line last h = absurd is

-- ---- constants that are settled

settled_over : (ended : Bool) (now : ℤ) (p : Subformula) (tr : Trace) (of : ℕ) (side : Side) (a : ℕ) (a_in b_in : Bool) (tau : Rational) (line : Affine)
    → SettledOver (Robustness p tr) (start tr) (stop tr) (whole (front_at ended now p)) (past_window of side a a_in) tau line
    → BehindConstant ended now p (margin_setting tr) a None a_in b_in tau line
settled_over ended now p tr of side a a_in b_in tau line (inl (u, point, (inside, before), v, f, constant)) =
    inl (u, point, (holds_past (start tr) (stop tr) of side a a_in b_in tau u inside, before), v, f, constant)
settled_over ended now p tr of side a a_in b_in tau line (inr (u, point, (closes, before), v, sides, constant)) =
    inr (
      u,
      point,
      (holds_past (start tr) (stop tr) of side a true true tau u closes, before),
      v,
      sides_past (Robustness p tr) (start tr) (stop tr) a (neg_ℤ (pos 4294967296)) tau u v sides,
      constant,
    )

-- what is in play over the window is in play at the node
pub settled_past : (f : ℕ → Subformula) (place : ℕ) (n : Node) (w : Window) (tr : Trace) (ended : Bool) (now : ℤ) → IsPastOf n w
    → (tau : Rational) (line : Affine)
    → SettledOver (Robustness (f w.of) tr) (start tr) (stop tr) (whole (front_at ended now (f w.of))) w tau line
    → IsSettledConstant ended now (tree_of f place n) (margin_setting tr) tau line
settled_past f place (N.Once p a None a_in b_in) w tr ended now is tau line h =
    settled_over ended now (f p) tr p Greatest a a_in b_in tau line
    (subst (λ (x : Window). SettledOver (Robustness (f x.of) tr) (start tr) (stop tr) (whole (front_at ended now (f x.of))) x tau line) is h)
settled_past f place (N.Historically p a None a_in b_in) w tr ended now is tau line h =
    settled_over ended now (f p) tr p Least a a_in b_in tau line
    (subst (λ (x : Window). SettledOver (Robustness (f x.of) tr) (start tr) (stop tr) (whole (front_at ended now (f x.of))) x tau line) is h)
settled_past f place _ w tr ended now is tau line h = absurd is
