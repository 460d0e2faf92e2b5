-- The window of a node: the best over it is the node's margin, and what is in play in it is in play at the node.
use Rattle.std.proofs.Common.{◌≡◌, inl, inr, ℕ, Bool, true, false, sym, subst, Some, ℤ, pos}
use Rattle.std.specs.Prelude.{◌⊎◌, neg_ℤ}
use Rattle.rational.specs.Time.{Rational, shifted, later, whole, ◌<ʳ◌}
use Rattle.rational.specs.Extended.{Affine, Extended, minus_infinity, infinity}
use Rattle.rational.specs.InPlay.{IsInPlay, IsLeftLimit}
use Rattle.rational.specs.InPlay.{IsRightLimit, window_ahead, window_behind}
use Rattle.rational.specs.Windows.{Function, Ahead, Behind}
use Rattle.rational.proofs.Order.{le_of_same, ge_of_same, lt_of_le_of_lt, lt_of_lt_of_le}
use Rattle.rational.proofs.WindowLemmas.{inf_over_alike, sup_over_alike}
use Rattle.pl_signal.specs.declared.joining.Side.{Side}
use Rattle.pl_signal.specs.declared.joining.Side.TheVariants.{Least, Greatest}
use Rattle.rational.proofs.TimeLemmas.{precedes_after, precedes_before}
use Rattle.stl_syntax.specs.Trace.{Trace, start, stop}
use Rattle.stl_syntax.specs.Formula.{Subformula, eventually, always, once, historically, tree_of}
use Rattle.stl_syntax.specs.SupInf.{Robustness, margin_setting}
use Rattle.stl_syntax.specs.WideCause.{IsInPlayAt}
use Rattle.stl_syntax.specs.declared.node.Node.{Node}
use Rattle.stl_syntax.specs.declared.node.Node.TheVariants as N
use Rattle.online_nodes.specs.StreamedWide.{AheadConstant, BehindConstant, IsSettledConstant, front_at}
use Rattle.online_robust.specs.Standing.{IsWindowOf, ahead_window, behind_window}
use Rattle.online_robust.specs.Windows.{Holds, InPlayOver, SettledOver, best_over}
use Rattle.online_robust.specs.declared.slide.Window.{Window}
use Rattle.online_robust.proofs.MovedTimes.{after_back, back_after, back_before, before_back, shifted_pos}

-- ---- times in a window

module _ (from to : Rational) (p : ℕ) (side : Side) (a b : ℕ) (a_in b_in : Bool) (t u : Rational) where
  holds_ahead : Holds from to (ahead_window p side a b a_in b_in) t u → Ahead from to a b a_in b_in t u
  holds_ahead h = record {
    inside = h.inside;
    begins = precedes_after a_in (later t a) (shifted t (pos a)) u (ge_of_same (shifted_pos t a)) h.begins;
    ends = precedes_before b_in u (shifted t (pos b)) (later t b) h.ends (le_of_same (shifted_pos t b));
  }

  ahead_holds : Ahead from to a b a_in b_in t u → Holds from to (ahead_window p side a b a_in b_in) t u
  ahead_holds h = record {
    inside = h.inside;
    begins = precedes_after a_in (shifted t (pos a)) (later t a) u (le_of_same (shifted_pos t a)) h.begins;
    ends = precedes_before b_in u (later t b) (shifted t (pos b)) h.ends (ge_of_same (shifted_pos t b));
  }

  holds_behind : Holds from to (behind_window p side a b a_in b_in) t u → Behind from to a (Some b) a_in b_in t u
  holds_behind h = record { inside = h.inside; begins = after_back b_in t u b h.begins; ends = before_back a_in t u a h.ends }

  behind_holds : Behind from to a (Some b) a_in b_in t u → Holds from to (behind_window p side a b a_in b_in) t u
  behind_holds h = record { inside = h.inside; begins = back_after b_in t u b h.begins; ends = back_before a_in t u a h.ends }

-- ---- the best over the window

-- it is the margin of the node
pub best_is : (f : ℕ → Subformula) (place : ℕ) (n : Node) (w : Window) (tr : Trace) → IsWindowOf n w → (t : Rational) (r : Extended)
    → (best_over tr (Robustness (f w.of) tr) w t r → Robustness (tree_of f place n) tr t r)
    × (Robustness (tree_of f place n) tr t r → best_over tr (Robustness (f w.of) tr) w t r)
best_is f place (N.Eventually p a b a_in b_in) w tr is t r =
    subst (λ (x : Window). (best_over tr (Robustness (f x.of) tr) x t r → Robustness (eventually a b a_in b_in (f p)) tr t r)
    × (Robustness (eventually a b a_in b_in (f p)) tr t r → best_over tr (Robustness (f x.of) tr) x t r)) (sym is) (
      sup_over_alike (Holds (start tr) (stop tr) (ahead_window p Greatest a b a_in b_in) t)
          (Ahead (start tr) (stop tr) a b a_in b_in t) (Robustness (f p) tr) minus_infinity r
          (holds_ahead (start tr) (stop tr) p Greatest a b a_in b_in t) (ahead_holds (start tr) (stop tr) p Greatest a b a_in b_in t),
      sup_over_alike (Ahead (start tr) (stop tr) a b a_in b_in t)
          (Holds (start tr) (stop tr) (ahead_window p Greatest a b a_in b_in) t) (Robustness (f p) tr) minus_infinity r
          (ahead_holds (start tr) (stop tr) p Greatest a b a_in b_in t) (holds_ahead (start tr) (stop tr) p Greatest a b a_in b_in t),
    )
best_is f place (N.Always p a b a_in b_in) w tr is t r =
    subst (λ (x : Window). (best_over tr (Robustness (f x.of) tr) x t r → Robustness (always a b a_in b_in (f p)) tr t r)
    × (Robustness (always a b a_in b_in (f p)) tr t r → best_over tr (Robustness (f x.of) tr) x t r)) (sym is) (
      inf_over_alike (Holds (start tr) (stop tr) (ahead_window p Least a b a_in b_in) t)
          (Ahead (start tr) (stop tr) a b a_in b_in t) (Robustness (f p) tr) infinity r
          (holds_ahead (start tr) (stop tr) p Least a b a_in b_in t) (ahead_holds (start tr) (stop tr) p Least a b a_in b_in t),
      inf_over_alike (Ahead (start tr) (stop tr) a b a_in b_in t)
          (Holds (start tr) (stop tr) (ahead_window p Least a b a_in b_in) t) (Robustness (f p) tr) infinity r
          (ahead_holds (start tr) (stop tr) p Least a b a_in b_in t) (holds_ahead (start tr) (stop tr) p Least a b a_in b_in t),
    )
best_is f place (N.Once p a (Some b) a_in b_in) w tr is t r =
    subst (λ (x : Window). (best_over tr (Robustness (f x.of) tr) x t r → Robustness (once a (Some b) a_in b_in (f p)) tr t r)
    × (Robustness (once a (Some b) a_in b_in (f p)) tr t r → best_over tr (Robustness (f x.of) tr) x t r)) (sym is) (
      sup_over_alike (Holds (start tr) (stop tr) (behind_window p Greatest a b a_in b_in) t)
          (Behind (start tr) (stop tr) a (Some b) a_in b_in t) (Robustness (f p) tr) minus_infinity r
          (holds_behind (start tr) (stop tr) p Greatest a b a_in b_in t) (behind_holds (start tr) (stop tr) p Greatest a b a_in b_in t),
      sup_over_alike (Behind (start tr) (stop tr) a (Some b) a_in b_in t)
          (Holds (start tr) (stop tr) (behind_window p Greatest a b a_in b_in) t) (Robustness (f p) tr) minus_infinity r
          (behind_holds (start tr) (stop tr) p Greatest a b a_in b_in t) (holds_behind (start tr) (stop tr) p Greatest a b a_in b_in t),
    )
best_is f place (N.Historically p a (Some b) a_in b_in) w tr is t r =
    subst (λ (x : Window). (best_over tr (Robustness (f x.of) tr) x t r → Robustness (historically a (Some b) a_in b_in (f p)) tr t r)
    × (Robustness (historically a (Some b) a_in b_in (f p)) tr t r → best_over tr (Robustness (f x.of) tr) x t r)) (sym is) (
      inf_over_alike (Holds (start tr) (stop tr) (behind_window p Least a b a_in b_in) t)
          (Behind (start tr) (stop tr) a (Some b) a_in b_in t) (Robustness (f p) tr) infinity r
          (holds_behind (start tr) (stop tr) p Least a b a_in b_in t) (behind_holds (start tr) (stop tr) p Least a b a_in b_in t),
      inf_over_alike (Behind (start tr) (stop tr) a (Some b) a_in b_in t)
          (Holds (start tr) (stop tr) (behind_window p Least a b a_in b_in) t) (Robustness (f p) tr) infinity r
          (behind_holds (start tr) (stop tr) p Least a b a_in b_in t) (holds_behind (start tr) (stop tr) p Least a b a_in b_in t),
    )
best_is f place _ w tr is t r = absurd is

-- ---- in play

-- over a window ahead
in_play_ahead : (P : Function) (from to : Rational) (p : ℕ) (side : Side) (a b : ℕ) (a_in b_in : Bool) (tau : Rational) (line : Affine)
    → InPlayOver P from to (ahead_window p side a b a_in b_in) tau line → IsInPlay (window_ahead P a b a_in b_in) from to tau line
in_play_ahead P from to p side a b a_in b_in tau line (has, inl h) = ((has.0, holds_ahead from to p side a b a_in b_in tau has.0 has.1), inl h)
in_play_ahead P from to p side a b a_in b_in tau line (has, inr (inl (u, point, inside, v, f, constant))) = (
  (has.0, holds_ahead from to p side a b a_in b_in tau has.0 has.1),
  inr (inl (u, point, holds_ahead from to p side a b a_in b_in tau u inside, v, f, constant)),
)
in_play_ahead P from to p side a b a_in b_in tau line (has, inr (inr (u, point, closes, v, sides, constant))) = (
  (has.0, holds_ahead from to p side a b a_in b_in tau has.0 has.1),
  inr (inr (u, point, holds_ahead from to p side a b true true tau u closes, v, sides, constant)),
)

-- the sides from which a window behind goes on
sides_behind : (P : Function) (from to : Rational) (a b : ℕ) (tau u : Rational) (v : Extended)
    → ((from <ʳ u) × (shifted tau (neg_ℤ (pos b)) <ʳ u) × IsLeftLimit P u v) ⊎ ((u <ʳ to) × (u <ʳ shifted tau (neg_ℤ (pos a))) × IsRightLimit P u v)
    → ((from <ʳ u) × (tau <ʳ shifted u (pos b)) × IsLeftLimit P u v) ⊎ ((u <ʳ to) × (shifted u (pos a) <ʳ tau) × IsRightLimit P u v)
sides_behind P from to a b tau u v (inl h) = inl (h.0, lt_of_lt_of_le (after_back false tau u b h.1) (ge_of_same (shifted_pos u b)), h.2)
sides_behind P from to a b tau u v (inr h) = inr (h.0, lt_of_le_of_lt (le_of_same (shifted_pos u a)) (before_back false tau u a h.1), h.2)

-- over a window behind
in_play_behind : (P : Function) (from to : Rational) (p : ℕ) (side : Side) (a b : ℕ) (a_in b_in : Bool) (tau : Rational) (line : Affine)
    → InPlayOver P from to (behind_window p side a b a_in b_in) tau line → IsInPlay (window_behind P a (Some b) a_in b_in) from to tau line
in_play_behind P from to p side a b a_in b_in tau line (has, inl (k, is, old, inside, part, moved)) =
    ((has.0, holds_behind from to p side a b a_in b_in tau has.0 has.1), inl (k, by_end is, old, inside, part, moved))
  where
    by_end : (k ≡ neg_ℤ (pos b)) ⊎ (k ≡ neg_ℤ (pos a)) → (k ≡ neg_ℤ (pos a)) ⊎ (k ≡ neg_ℤ (pos b))
    by_end (inl e) = inr e
    by_end (inr e) = inl e
in_play_behind P from to p side a b a_in b_in tau line (has, inr (inl (u, point, inside, v, f, constant))) = (
  (has.0, holds_behind from to p side a b a_in b_in tau has.0 has.1),
  inr (inl (u, point, holds_behind from to p side a b a_in b_in tau u inside, v, f, constant)),
)
in_play_behind P from to p side a b a_in b_in tau line (has, inr (inr (u, point, closes, v, sides, constant))) = (
  (has.0, holds_behind from to p side a b a_in b_in tau has.0 has.1),
  inr (inr (u, point, holds_behind from to p side a b true true tau u closes, v, sides_behind P from to a b tau u v sides, constant)),
)

-- at the node of the window
pub in_play_is : (f : ℕ → Subformula) (place : ℕ) (n : Node) (w : Window) (tr : Trace) → IsWindowOf n w → (tau : Rational) (line : Affine)
    → InPlayOver (Robustness (f w.of) tr) (start tr) (stop tr) w tau line → IsInPlayAt (tree_of f place n) (margin_setting tr) tau line
in_play_is f place (N.Eventually p a b a_in b_in) w tr is tau line h =
    in_play_ahead (Robustness (f p) tr) (start tr) (stop tr) p Greatest a b a_in b_in tau line
    (subst (λ (x : Window). InPlayOver (Robustness (f x.of) tr) (start tr) (stop tr) x tau line) is h)
in_play_is f place (N.Always p a b a_in b_in) w tr is tau line h =
    in_play_ahead (Robustness (f p) tr) (start tr) (stop tr) p Least a b a_in b_in tau line
    (subst (λ (x : Window). InPlayOver (Robustness (f x.of) tr) (start tr) (stop tr) x tau line) is h)
in_play_is f place (N.Once p a (Some b) a_in b_in) w tr is tau line h =
    in_play_behind (Robustness (f p) tr) (start tr) (stop tr) p Greatest a b a_in b_in tau line
    (subst (λ (x : Window). InPlayOver (Robustness (f x.of) tr) (start tr) (stop tr) x tau line) is h)
in_play_is f place (N.Historically p a (Some b) a_in b_in) w tr is tau line h =
    in_play_behind (Robustness (f p) tr) (start tr) (stop tr) p Least a b a_in b_in tau line
    (subst (λ (x : Window). InPlayOver (Robustness (f x.of) tr) (start tr) (stop tr) x tau line) is h)
in_play_is f place _ w tr is tau line h = absurd is

-- ---- constants that are settled

settled_ahead : (ended : Bool) (now : ℤ) (p : Subformula) (tr : Trace) {of : ℕ} {side : Side} (a b : ℕ) (a_in b_in : Bool) (tau : Rational) (line : Affine)
    → SettledOver (Robustness p tr) (start tr) (stop tr) (whole (front_at ended now p)) (ahead_window of side a b a_in b_in) tau line
    → AheadConstant ended now p (margin_setting tr) a b a_in b_in tau line
settled_ahead ended now p tr {of} {side} a b a_in b_in tau line (inl (u, point, (inside, before), v, f, constant)) =
    inl (u, point, (holds_ahead (start tr) (stop tr) of side a b a_in b_in tau u inside, before), v, f, constant)
settled_ahead ended now p tr {of} {side} a b a_in b_in tau line (inr (u, point, (closes, before), v, sides, constant)) =
    inr (u, point, (holds_ahead (start tr) (stop tr) of side a b true true tau u closes, before), v, sides, constant)

settled_behind : (ended : Bool) (now : ℤ) (p : Subformula) (tr : Trace) {of : ℕ} {side : Side} (a b : ℕ) (a_in b_in : Bool) (tau : Rational) (line : Affine)
    → SettledOver (Robustness p tr) (start tr) (stop tr) (whole (front_at ended now p)) (behind_window of side a b a_in b_in) tau line
    → BehindConstant ended now p (margin_setting tr) a (Some b) a_in b_in tau line
settled_behind ended now p tr {of} {side} a b a_in b_in tau line (inl (u, point, (inside, before), v, f, constant)) =
    inl (u, point, (holds_behind (start tr) (stop tr) of side a b a_in b_in tau u inside, before), v, f, constant)
settled_behind ended now p tr {of} {side} a b a_in b_in tau line (inr (u, point, (closes, before), v, sides, constant)) =
    inr (
      u,
      point,
      (holds_behind (start tr) (stop tr) of side a b true true tau u closes, before),
      v,
      sides_behind (Robustness p tr) (start tr) (stop tr) a b tau u v sides,
      constant,
    )

-- at the node of the window, before the input's number
pub settled_is : (f : ℕ → Subformula) (place : ℕ) (n : Node) (w : Window) (tr : Trace) (ended : Bool) (now : ℤ) → IsWindowOf n w
    → (tau : Rational) (line : Affine)
    → SettledOver (Robustness (f w.of) tr) (start tr) (stop tr) (whole (front_at ended now (f w.of))) w tau line
    → IsSettledConstant ended now (tree_of f place n) (margin_setting tr) tau line
settled_is f place (N.Eventually p a b a_in b_in) w tr ended now is tau line h =
    settled_ahead ended now (f p) tr a b a_in b_in tau line
    (subst (λ (x : Window). SettledOver (Robustness (f x.of) tr) (start tr) (stop tr) (whole (front_at ended now (f x.of))) x tau line) is h)
settled_is f place (N.Always p a b a_in b_in) w tr ended now is tau line h =
    settled_ahead ended now (f p) tr a b a_in b_in tau line
    (subst (λ (x : Window). SettledOver (Robustness (f x.of) tr) (start tr) (stop tr) (whole (front_at ended now (f x.of))) x tau line) is h)
settled_is f place (N.Once p a (Some b) a_in b_in) w tr ended now is tau line h =
    settled_behind ended now (f p) tr a b a_in b_in tau line
    (subst (λ (x : Window). SettledOver (Robustness (f x.of) tr) (start tr) (stop tr) (whole (front_at ended now (f x.of))) x tau line) is h)
settled_is f place (N.Historically p a (Some b) a_in b_in) w tr ended now is tau line h =
    settled_behind ended now (f p) tr a b a_in b_in tau line
    (subst (λ (x : Window). SettledOver (Robustness (f x.of) tr) (start tr) (stop tr) (whole (front_at ended now (f x.of))) x tau line) is h)
settled_is f place _ w tr ended now is tau line h = absurd is
