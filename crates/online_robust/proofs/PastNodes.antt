-- What is so of the node of a window without a low end.
use Rattle.std.proofs.Common.{◌≡◌, inr, ℕ, Bool, true, false, refl, sym, subst, arith, None, pos, ◌+ℤ◌, ◌≤ℤ◌}
use Rattle.std.specs.Prelude.{neg_ℤ}
use Rattle.std.proofs.lemmas.Int.{ints}
use Rattle.pl_signal.specs.declared.joining.Side.TheVariants.{Least, Greatest}
use Rattle.stl_syntax.specs.Formula.{Subformula, horizon, tree_of}
use Rattle.stl_syntax.specs.Limits.{own_reach}
use Rattle.stl_syntax.specs.declared.node.Node.{Node}
use Rattle.stl_syntax.specs.declared.node.Node.TheVariants as N
use Rattle.online_nodes.specs.Network.{reach_back}
use Rattle.online_nodes.specs.Needed.{IsReader}
use Rattle.online_robust.specs.Held.{Held, edge_at}
use Rattle.online_robust.specs.Standing.{IsPastOf, past_window}
use Rattle.online_robust.specs.Steps.{seen_by}
use Rattle.online_robust.specs.Windows.{IsOwned}
use Rattle.online_robust.specs.declared.slide.Window.{Window}

-- what is so of the window's node
pub record IsPastNode (f : ℕ → Subformula) (place : ℕ) (n : Node) (w : Window) : Type 0 where
  -- the input is read on the left
  pub reads : IsReader n true w.of
  -- there is no other
  pub only : (j : ℕ) (left : Bool) → IsReader n left j → (j ≡ w.of) × (left ≡ true)
  -- it is looked back into by the high offset
  pub back : reach_back n true ≡ w.high
  -- the window keeps within the node's reach
  pub own : IsOwned w (own_reach n)
  -- and does not pass its horizon
  pub far : (pos (horizon (f w.of)) +ℤ w.high) ≤ℤ pos (horizon (tree_of f place n))
  -- it looks back without end
  pub low : w.low ≡ neg_ℤ (pos 4294967296)
  -- with it
  pub low_in : w.low_in ≡ true
  -- and not ahead
  pub behind : w.high ≤ℤ pos 0
  -- what is kept is what its edge has read
  pub seen : (e : Held) → seen_by n e ≡ (edge_at e w.of).seen

module _ (f : ℕ → Subformula) (place : ℕ) where
  sole : (p : ℕ) (n : Node) → ((j : ℕ) → IsReader n true j → p ≡ j) → ((j : ℕ) → ¬ IsReader n false j) → (j : ℕ) (left : Bool) → IsReader n left j
      → (j ≡ p) × (left ≡ true)
  sole p n one none j true h = (sym (one j h), refl)
  sole p n one none j false h = absurd (none j h)

  once_node : (p a : ℕ) (a_in b_in : Bool) → IsPastNode f place (N.Once p a None a_in b_in) (past_window p Greatest a a_in)
  once_node p a a_in b_in = record {
    reads = refl;
    only = sole p (N.Once p a None a_in b_in) (λ j h. h) (λ j h. h);
    back = refl;
    own = record { low = inr refl; high_from = omega (arith, ints); high_to = omega (arith, ints) };
    far = omega (arith, ints);
    low = refl;
    low_in = refl;
    behind = omega (arith, ints);
    seen = λ e. refl;
  }

  historically_node : (p a : ℕ) (a_in b_in : Bool) → IsPastNode f place (N.Historically p a None a_in b_in) (past_window p Least a a_in)
  historically_node p a a_in b_in = record {
    reads = refl;
    only = sole p (N.Historically p a None a_in b_in) (λ j h. h) (λ j h. h);
    back = refl;
    own = record { low = inr refl; high_from = omega (arith, ints); high_to = omega (arith, ints) };
    far = omega (arith, ints);
    low = refl;
    low_in = refl;
    behind = omega (arith, ints);
    seen = λ e. refl;
  }

  -- a node with a window of the past without a begin is such
  pub past_node : (n : Node) (w : Window) → IsPastOf n w → IsPastNode f place n w
  past_node (N.Once p a None a_in b_in) w is = subst (IsPastNode f place (N.Once p a None a_in b_in)) (sym is) (once_node p a a_in b_in)
  past_node (N.Historically p a None a_in b_in) w is =
      subst (IsPastNode f place (N.Historically p a None a_in b_in)) (sym is) (historically_node p a a_in b_in)
  past_node _ w is = absurd is
