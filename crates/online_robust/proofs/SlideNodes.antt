-- The window of a node, with a far bound or without: what is so of the node, and that the best over the window is its margin.
use Rattle.std.proofs.Common.{◌≡◌, ◌⊎◌, inl, inr, ℕ, ◌≤◌, Bool, true, false, refl, sym, subst, ◌∙◌, arith, Some, ℤ, pos, ◌+ℤ◌, ◌≤ℤ◌}
use Rattle.std.specs.Prelude.{neg_ℤ, int_lt, cond}
use Rattle.std.proofs.lemmas.Int.{ints}
use Rattle.rational.specs.Time.{Rational, whole, ◌≤ʳ◌}
use Rattle.rational.specs.Extended.{Affine, Extended}
use Rattle.rational.proofs.Tests.{int_order}
use Rattle.stl_syntax.specs.Trace.{Trace, start, stop}
use Rattle.stl_syntax.specs.Formula.{Subformula, horizon, tree_of}
use Rattle.stl_syntax.specs.SupInf.{Robustness, margin_setting}
use Rattle.stl_syntax.specs.Limits.{own_reach}
use Rattle.stl_syntax.specs.WellFormed.{HasBounds}
use Rattle.stl_syntax.specs.WideCause.{IsInPlayAt}
use Rattle.stl_syntax.specs.declared.node.Node.{Node}
use Rattle.stl_syntax.specs.declared.node.Node.TheVariants as N
use Rattle.online_nodes.specs.Network.{reach_back}
use Rattle.online_nodes.specs.Needed.{IsReader}
use Rattle.online_nodes.specs.StreamedWide.{IsSettledConstant, front_at}
use Rattle.online_robust.specs.Held.{Held, edge_at}
use Rattle.online_robust.specs.Slides.{back_offset}
use Rattle.online_robust.specs.Standing.{IsSlideOf, IsWindowOf}
use Rattle.online_robust.specs.Steps.{seen_by}
use Rattle.online_robust.specs.Windows.{InPlayOver, IsOwned, SettledOver, best_over}
use Rattle.online_robust.specs.declared.slide.Window.{Window}
use Rattle.online_robust.proofs.BestPasts.{best_past, in_play_past, settled_past}
use Rattle.online_robust.proofs.BestWindows.{best_is, in_play_is, settled_is}
use Rattle.online_robust.proofs.PastNodes.{past_node}
use Rattle.online_robust.proofs.WindowNodes.{window_node}

-- what is so of the window's node
pub record IsSlideNode (f : ℕ → Subformula) (place : ℕ) (n : Node) (w : Window) : Type 0 where
  -- the input is read on the left
  pub reads : IsReader n true w.of
  -- there is no other
  pub only : (j : ℕ) (left : Bool) → IsReader n left j → (j ≡ w.of) × (left ≡ true)
  -- it is looked back into by that offset
  pub back : reach_back n true ≡ back_offset w
  -- the window keeps within the node's reach
  pub own : IsOwned w (own_reach n)
  -- and does not pass its horizon
  pub far : (pos (horizon (f w.of)) +ℤ w.high) ≤ℤ pos (horizon (tree_of f place n))
  -- it looks ahead or behind
  pub aside : (pos 0 ≤ℤ w.low) ⊎ (w.high ≤ℤ pos 0)
  -- its ends are in order
  pub order : w.low ≤ℤ w.high
  -- what is kept is what its edge has read
  pub seen : (e : Held) → seen_by n e ≡ (edge_at e w.of).seen

-- the ends of a node's window are in order
pub window_order : (n : Node) (w : Window) → IsWindowOf n w → HasBounds n → w.low ≤ℤ w.high
window_order (N.Eventually p a b a_in b_in) w is h = subst (λ (x : Window). x.low ≤ℤ x.high) (sym is) (omega (arith, ints, h))
window_order (N.Always p a b a_in b_in) w is h = subst (λ (x : Window). x.low ≤ℤ x.high) (sym is) (omega (arith, ints, h))
window_order (N.Once p a (Some b) a_in b_in) w is (h, k) = subst (λ (x : Window). x.low ≤ℤ x.high) (sym is) (omega (arith, ints, h))
window_order (N.Historically p a (Some b) a_in b_in) w is (h, k) = subst (λ (x : Window). x.low ≤ℤ x.high) (sym is) (omega (arith, ints, h))
window_order _ w is h = absurd is

-- by its low end a window needs its input no more, where it has one
back_low : (w : Window) → neg_ℤ (pos 4294967295) ≤ℤ w.low → back_offset w ≡ w.low
back_low w from = by_test (int_lt w.low (neg_ℤ (pos 4294967295))) refl
  where
    by_test : (b : Bool) → int_lt w.low (neg_ℤ (pos 4294967295)) ≡ b → cond b w.high w.low ≡ w.low
    by_test false e = refl
    by_test true e = let lt = int_order w.low (neg_ℤ (pos 4294967295)) true e in absurd (omega (arith, ints, from, lt))

-- else by its high end
back_high : (w : Window) → w.low ≡ neg_ℤ (pos 4294967296) → back_offset w ≡ w.high
back_high w is = by_test (int_lt w.low (neg_ℤ (pos 4294967295))) refl
  where
    by_test : (b : Bool) → int_lt w.low (neg_ℤ (pos 4294967295)) ≡ b → cond b w.high w.low ≡ w.high
    by_test true e = refl
    by_test false e = let le = int_order w.low (neg_ℤ (pos 4294967295)) false e in absurd (omega (arith, ints, is, le))

-- a node with a window is such
pub slide_node : (f : ℕ → Subformula) (place : ℕ) (n : Node) (w : Window) → IsSlideOf n w → HasBounds n → own_reach n ≤ 4294967295 → IsSlideNode f place n w
slide_node f place n w (inl is) bounds small =
    let k = window_node f place n w is (window_order n w is bounds) in
    let low = k.from in record {
      reads = k.reads;
      only = k.only;
      back = k.back ∙ sym (back_low w (omega (arith, ints, low, small)));
      own = k.own;
      far = k.far;
      aside = k.aside;
      order = window_order n w is bounds;
      seen = k.seen;
    }
slide_node f place n w (inr is) bounds small =
    let k = past_node f place n w is in
    let low = k.low in
    let from = k.own.high_from in record {
      reads = k.reads;
      only = k.only;
      back = k.back ∙ sym (back_high w k.low);
      own = k.own;
      far = k.far;
      aside = inr k.behind;
      order = omega (arith, ints, low, from, small);
      seen = k.seen;
    }

module _ (f : ℕ → Subformula) (place : ℕ) (n : Node) (w : Window) (tr : Trace) (is : IsSlideOf n w) where
  -- up to a time of 32 bits the best over the window is the node's margin
  pub slide_best : whole (pos 0) ≤ʳ start tr → (t : Rational) (r : Extended) → t ≤ʳ whole (pos 4294967295)
      → best_over tr (Robustness (f w.of) tr) w t r → Robustness (tree_of f place n) tr t r
  slide_best first t r last h = by_kind is
    where
      by_kind : IsSlideOf n w → Robustness (tree_of f place n) tr t r
      by_kind (inl k) = (best_is f place n w tr k t r).0 h
      by_kind (inr k) = best_past f place n w tr k first t r last h

  -- what is in play over it is in play at the node
  pub slide_plays : whole (pos 0) ≤ʳ start tr → (tau : Rational) (line : Affine) → tau ≤ʳ whole (pos 4294967295)
      → InPlayOver (Robustness (f w.of) tr) (start tr) (stop tr) w tau line → IsInPlayAt (tree_of f place n) (margin_setting tr) tau line
  slide_plays first tau line last h = by_kind is
    where
      by_kind : IsSlideOf n w → IsInPlayAt (tree_of f place n) (margin_setting tr) tau line
      by_kind (inl k) = in_play_is f place n w tr k tau line h
      by_kind (inr k) = in_play_past f place n w tr k first tau line last h

  -- so it is with constants that are settled
  pub slide_settled : (ended : Bool) (now : ℤ) (tau : Rational) (line : Affine)
      → SettledOver (Robustness (f w.of) tr) (start tr) (stop tr) (whole (front_at ended now (f w.of))) w tau line
      → IsSettledConstant ended now (tree_of f place n) (margin_setting tr) tau line
  slide_settled ended now tau line h = by_kind is
    where
      by_kind : IsSlideOf n w → IsSettledConstant ended now (tree_of f place n) (margin_setting tr) tau line
      by_kind (inl k) = settled_is f place n w tr ended now k tau line h
      by_kind (inr k) = settled_past f place n w tr ended now k tau line h
