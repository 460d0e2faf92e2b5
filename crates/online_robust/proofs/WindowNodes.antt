-- What is so of the node of a window, and of what its operator keeps in mind.
use Rattle.std.proofs.Common.{◌≡◌, ◌⊎◌, inl, inr, ℕ, Bool, true, false, refl, sym, subst, arith, Some, pos, ◌+ℤ◌, ◌≤ℤ◌}
use Rattle.std.specs.Prelude.{neg_ℤ}
use Rattle.std.proofs.lemmas.Int.{ints}
use Rattle.pl_signal.specs.declared.joining.Side.TheVariants.{Least, Greatest}
use Rattle.stl_syntax.specs.Formula.{Subformula, horizon, tree_of}
use Rattle.stl_syntax.specs.Limits.{own_reach}
use Rattle.stl_syntax.specs.declared.node.Node.{Node}
use Rattle.stl_syntax.specs.declared.node.Node.TheVariants as N
use Rattle.online_nodes.specs.Network.{reach_back}
use Rattle.online_nodes.specs.Needed.{IsReader}
use Rattle.online_robust.specs.Held.{Held, edge_at}
use Rattle.online_robust.specs.Standing.{IsWindowOf, ahead_window, behind_window}
use Rattle.online_robust.specs.Steps.{seen_by}
use Rattle.online_robust.specs.Windows.{IsOwned}
use Rattle.online_robust.specs.declared.slide.Window.{Window}

-- what is so of the window's node
pub record IsWindowNode (f : ℕ → Subformula) (place : ℕ) (n : Node) (w : Window) : Type 0 where
  -- the input is read on the left
  pub reads : IsReader n true w.of
  -- there is no other
  pub only : (j : ℕ) (left : Bool) → IsReader n left j → (j ≡ w.of) × (left ≡ true)
  -- it is looked back into by the low offset
  pub back : reach_back n true ≡ w.low
  -- the window keeps within the node's reach
  pub own : IsOwned w (own_reach n)
  -- also behind
  pub from : neg_ℤ (pos (own_reach n)) ≤ℤ w.low
  -- and does not pass its horizon
  pub far : (pos (horizon (f w.of)) +ℤ w.high) ≤ℤ pos (horizon (tree_of f place n))
  -- it looks ahead or behind
  pub aside : (pos 0 ≤ℤ w.low) ⊎ (w.high ≤ℤ pos 0)
  -- what is kept is what its edge has read
  pub seen : (e : Held) → seen_by n e ≡ (edge_at e w.of).seen

module _ (f : ℕ → Subformula) (place : ℕ) where
  sole : (p : ℕ) (n : Node) → ((j : ℕ) → IsReader n true j → p ≡ j) → ((j : ℕ) → ¬ IsReader n false j) → (j : ℕ) (left : Bool)
      → IsReader n left j → (j ≡ p) × (left ≡ true)
  sole p n one none j true h = (sym (one j h), refl)
  sole p n one none j false h = absurd (none j h)

  eventually_node : (p a b : ℕ) (a_in b_in : Bool) → pos a ≤ℤ pos b
      → IsWindowNode f place (N.Eventually p a b a_in b_in) (ahead_window p Greatest a b a_in b_in)
  eventually_node p a b a_in b_in order = record {
    reads = refl;
    only = sole p (N.Eventually p a b a_in b_in) (λ j h. h) (λ j h. h);
    back = refl;
    own = record { low = inl (omega (arith, ints), omega (arith, ints, order)); high_from = omega (arith, ints); high_to = omega (arith, ints) };
    from = omega (arith, ints);
    far = omega (arith, ints);
    aside = inl (omega (arith, ints));
    seen = λ e. refl;
  }

  always_node : (p a b : ℕ) (a_in b_in : Bool) → pos a ≤ℤ pos b → IsWindowNode f place (N.Always p a b a_in b_in) (ahead_window p Least a b a_in b_in)
  always_node p a b a_in b_in order = record {
    reads = refl;
    only = sole p (N.Always p a b a_in b_in) (λ j h. h) (λ j h. h);
    back = refl;
    own = record { low = inl (omega (arith, ints), omega (arith, ints, order)); high_from = omega (arith, ints); high_to = omega (arith, ints) };
    from = omega (arith, ints);
    far = omega (arith, ints);
    aside = inl (omega (arith, ints));
    seen = λ e. refl;
  }

  once_node : (p a b : ℕ) (a_in b_in : Bool) → neg_ℤ (pos b) ≤ℤ neg_ℤ (pos a)
      → IsWindowNode f place (N.Once p a (Some b) a_in b_in) (behind_window p Greatest a b a_in b_in)
  once_node p a b a_in b_in order = record {
    reads = refl;
    only = sole p (N.Once p a (Some b) a_in b_in) (λ j h. h) (λ j h. h);
    back = refl;
    own = record { low = inl (omega (arith, ints), omega (arith, ints)); high_from = omega (arith, ints, order); high_to = omega (arith, ints) };
    from = omega (arith, ints);
    far = omega (arith, ints);
    aside = inr (omega (arith, ints));
    seen = λ e. refl;
  }

  historically_node : (p a b : ℕ) (a_in b_in : Bool) → neg_ℤ (pos b) ≤ℤ neg_ℤ (pos a)
      → IsWindowNode f place (N.Historically p a (Some b) a_in b_in) (behind_window p Least a b a_in b_in)
  historically_node p a b a_in b_in order = record {
    reads = refl;
    only = sole p (N.Historically p a (Some b) a_in b_in) (λ j h. h) (λ j h. h);
    back = refl;
    own = record { low = inl (omega (arith, ints), omega (arith, ints)); high_from = omega (arith, ints, order); high_to = omega (arith, ints) };
    from = omega (arith, ints);
    far = omega (arith, ints);
    aside = inr (omega (arith, ints));
    seen = λ e. refl;
  }

  -- a node with a window is such
  pub window_node : (n : Node) (w : Window) → IsWindowOf n w → w.low ≤ℤ w.high → IsWindowNode f place n w
  window_node (N.Eventually p a b a_in b_in) w is order =
      subst (IsWindowNode f place (N.Eventually p a b a_in b_in)) (sym is) (eventually_node p a b a_in b_in (subst (λ (x : Window). x.low ≤ℤ x.high) is order))
  window_node (N.Always p a b a_in b_in) w is order =
      subst (IsWindowNode f place (N.Always p a b a_in b_in)) (sym is) (always_node p a b a_in b_in (subst (λ (x : Window). x.low ≤ℤ x.high) is order))
  window_node (N.Once p a (Some b) a_in b_in) w is order =
      subst (IsWindowNode f place (N.Once p a (Some b) a_in b_in)) (sym is) (once_node p a b a_in b_in (subst (λ (x : Window). x.low ≤ℤ x.high) is order))
  window_node (N.Historically p a (Some b) a_in b_in) w is order =
      subst (IsWindowNode f place (N.Historically p a (Some b) a_in b_in)) (sym is)
      (historically_node p a b a_in b_in (subst (λ (x : Window). x.low ≤ℤ x.high) is order))
  window_node _ w is order = absurd is
