-- The operands of a node, as the code has them.
use Rattle.std.proofs.Common.{◌≡◌, ℕ, ◌<◌, ◌⊎◌, inl, inr, Option, Some, None, ap, refl, sym, ◌∙◌}
use Rattle.std.specs.Prelude.{IfSome}
use Rattle.std.proofs.lemmas.Option.{same_Some, none-some}
use Rattle.stl_syntax.specs.Formula.{HasChildrenBelow}
use Rattle.stl_syntax.specs.Views.{first_of, second_of, view_of}
use Rattle.stl_syntax.specs.declared.node.Node.{Node}
use Rattle.stl_syntax.proofs.Parents.{child_by}
use Rattle.stl_syntax.proofs.PostOrderLemmas.{child_below}
use Rattle.implicants.specs.Upward.{AreOperands}

-- what holds of any place that there is holds of the one that is meant
of_each : (P : ℕ → Type 0) (o : Option ℕ) → ((p : ℕ) → o ≡ Some p → P p) → IfSome o P
of_each P None h = tt
of_each P (Some p) h = h p refl

-- the first operand of a node stands before it
pub first_below : (n : Node) (m : ℕ) (o : Option ℕ) → o ≡ first_of (view_of n) → HasChildrenBelow m n → IfSome o (λ p. p < m)
first_below n m o is below = of_each (λ p. p < m) o (λ p e. child_below m p n below ((child_by n p).1 (inl (sym is ∙ e))))

-- and the second
pub second_below : (n : Node) (m : ℕ) (o : Option ℕ) → o ≡ second_of (view_of n) → HasChildrenBelow m n → IfSome o (λ p. p < m)
second_below n m o is below = of_each (λ p. p < m) o (λ p e. child_below m p n below ((child_by n p).1 (inr (sym is ∙ e))))

-- the one operand is the node at place k
pub one_operand : (n : Node) (p k : ℕ) (other : Option ℕ) → first_of (view_of n) ≡ Some p → second_of (view_of n) ≡ None → p ≡ k → AreOperands n k other
one_operand n p k other first second e = (
  (child_by n k).1 (inl (first ∙ ap Some e)),
  λ i c. elim ((child_by n i).0 c) [
    | inl d ↦ inl (sym (same_Some p i (sym first ∙ d)) ∙ e)
    | inr d ↦ absurd (none-some i (sym second ∙ d))
  ],
)

-- one of the two is
pub two_operands : (n : Node) (p q k : ℕ) (other : Option ℕ) → first_of (view_of n) ≡ Some p → second_of (view_of n) ≡ Some q
    → ((p ≡ k) ⊎ (q ≡ k)) × ((i : ℕ) → (p ≡ i) ⊎ (q ≡ i) → (i ≡ k) ⊎ (other ≡ Some i)) → AreOperands n k other
two_operands n p q k other first second h = (
  (child_by n k).1 (elim h.0 [ inl e ↦ inl (first ∙ ap Some e) | inr e ↦ inr (second ∙ ap Some e) ]),
  λ i c. h.1 i (elim ((child_by n i).0 c) [ inl d ↦ inl (same_Some p i (sym first ∙ d)) | inr d ↦ inr (same_Some q i (sym second ∙ d)) ]),
)
