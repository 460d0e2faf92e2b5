-- What the operator of a node does, by the node's view.
use Rattle.std.proofs.Common.{◌≡◌, refl, ap, ◌∙◌, ℕ, ℤ, pos, neg_ℤ, Bool, true, false, Option, Some, None}
use Rattle.stl_syntax.specs.Views.{behind as back, view_of}
use Rattle.stl_syntax.specs.declared.node.Node.{Node}
use Rattle.stl_syntax.specs.declared.node.Node.TheVariants.{Since, Once, Historically}
use Rattle.online_nodes.specs.Operators.{behind, kind_by, kind_of, window_by}
use Rattle.online_nodes.specs.declared.kind.Kind.TheVariants.{Over, Since as SinceOf}
use Rattle.online_nodes.specs.declared.window.Window.{Window}
use Rattle.online_nodes.proofs.ReaderLemmas.{twice_negated}

-- a window with these ends
abbrev window : ℕ → Bool → Bool → Bool → ℤ → ℤ → Window
window p i j s begin end = record { of = p; begin_by = begin; begin_in = i; end_by = end; end_in = j; seeks = s }

-- the window of a view that looks back is that of its node
window_back : (p a : ℕ) (b : Option ℕ) (i j s : Bool) → window_by p (back a b i j) s ≡ behind p a b i j s
window_back p a None i j s = ap (λ (z : ℤ). window p i j s z (pos 8589934592)) (twice_negated a)
window_back p a (Some b) i j s = ap (λ (z : ℤ). window p i j s z (neg_ℤ (neg_ℤ (pos b)))) (twice_negated a)
    ∙ ap (λ (z : ℤ). window p i j s (pos a) z) (twice_negated b)

-- the operator of a node does what that of its view does
pub kind_of_by : (n : Node) → kind_by (view_of n) ≡ kind_of n
kind_of_by (Since p q a b) = ap (λ (w : Window). SinceOf (record { window = w; right = q })) (window_back p a b true true true)
kind_of_by (Once p a b i j) = ap Over (window_back p a b i j true)
kind_of_by (Historically p a b i j) = ap Over (window_back p a b i j false)
kind_of_by _ = refl
