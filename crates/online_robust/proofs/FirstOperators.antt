-- The operator of a node before it gave out anything.
use Rattle.std.proofs.Common.{◌≡◌, inl, inr, ℕ, refl, Some}
use Rattle.stl_syntax.specs.Views.{view_of}
use Rattle.stl_syntax.specs.declared.node.Node.{Node}
use Rattle.stl_syntax.specs.declared.node.Node.TheVariants as N
use Rattle.stl_syntax.specs.declared.operator.Offsets.{Offsets}
use Rattle.stl_syntax.specs.declared.operator.View.{View}
use Rattle.stl_syntax.specs.declared.operator.View.TheVariants as V
use Rattle.stl_syntax.specs.declared.operator.Way.{Way}
use Rattle.online_nodes.specs.StreamedWide.{IsUnstreamed}
use Rattle.online_robust.specs.Operators.{operator_by}
use Rattle.online_robust.specs.Steps.{IsFirstOperator}

-- that of a node's view stands for the node
pub first_operator : (n : Node) → ¬ IsUnstreamed n → IsFirstOperator n (operator_by (view_of n))
first_operator (N.Const b) streamed = tt
first_operator (N.Atom a) streamed = tt
first_operator (N.Not p) streamed = (λ leaf. leaf, λ nodes place tr. (refl, refl))
first_operator (N.And p q) streamed = (λ leaf. leaf, λ nodes place tr. ((refl, refl, refl, refl), refl))
first_operator (N.Or p q) streamed = (λ leaf. leaf, λ nodes place tr. ((refl, refl, refl, refl), refl))
first_operator (N.Implies p q) streamed = (λ leaf. leaf, λ nodes place tr. ((refl, refl, refl, refl), refl))
first_operator (N.Until p q a b) streamed = absurd (streamed tt)
first_operator (N.Eventually p a b a_in b_in) streamed = (λ leaf. leaf, λ nodes place tr. (inl refl, (refl, refl, refl)))
first_operator (N.Always p a b a_in b_in) streamed = (λ leaf. leaf, λ nodes place tr. (inl refl, (refl, refl, refl)))
first_operator (N.Since p q a b) streamed = absurd (streamed tt)
first_operator (N.Once p a (Some b) a_in b_in) streamed = (λ leaf. leaf, λ nodes place tr. (inl refl, (refl, refl, refl)))
first_operator (N.Historically p a (Some b) a_in b_in) streamed = (λ leaf. leaf, λ nodes place tr. (inl refl, (refl, refl, refl)))
first_operator _ streamed = (λ leaf. leaf, λ nodes place tr. (inr refl, (refl, refl, refl)))

-- the view of until and since
abbrev pub IsReach : View → Type 0
IsReach (V.Reach way w p q) = Unit {0}
IsReach v = ⊥

-- a node with such a view has no operator
pub unstreamed_by : (n : Node) → IsReach (view_of n) → IsUnstreamed n
unstreamed_by (N.Const b) is = is
unstreamed_by _ is = is

-- and one that has none has such a view
pub reach_of : (n : Node) → IsUnstreamed n → IsReach (view_of n)
reach_of (N.Const b) is = is
reach_of _ is = is

-- what is none of these is no such view
pub not_reach : (v : View) → ((way : Way) (w : Offsets) (p q : ℕ) → v ≡ V.Reach way w p q → ⊥) → ¬ IsReach v
not_reach (V.Reach way w p q) none is = none way w p q refl
not_reach _ none is = is
