-- Signs that are put from the root down.
use Rattle.std.proofs.Common.{◌≡◌, ◌⊎◌, inl, inr, ℕ, ◌+◌, ◌≤◌, Bool, List, ◌∷◌, ◌++◌, Option, Some, None, refl, ap, sym, ◌∙◌, subst, arith}
use Rattle.std.specs.Prelude.{IfSome, option_to_list, slice_get}
use Rattle.std.proofs.lemmas.Option.{same_Some}
use Rattle.stl_syntax.specs.Cells.{IsChild}
use Rattle.stl_syntax.specs.PostOrder.{children, IsPostOrder}
use Rattle.stl_syntax.specs.Views.{first_of, second_of, view_of}
use Rattle.stl_syntax.specs.declared.node.Node.{Node}
use Rattle.stl_syntax.proofs.Parents.{child_by, one_parent}
use Rattle.stl_syntax.proofs.PostOrderLemmas.{child_below, inputs_apart, placed}
use Rattle.stl_syntax.proofs.ViewLaw.{children_by}
use Rattle.implicants.specs.Signs.{sign_at, first_sign, AreApart, AreSigned}

-- the operands of a node are two nodes
pub operands_apart : (nodes : List Node) → IsPostOrder nodes → (i : ℕ) (n : Node) → slice_get nodes i ≡ Some n
    → AreApart (first_of (view_of n)) (second_of (view_of n))
operands_apart nodes order i n at = by_operands (first_of (view_of n)) (second_of (view_of n)) (children_by n)
  where
    by_operands : (o r : Option ℕ) → option_to_list o ++ option_to_list r ≡ children n → AreApart o r
    by_operands None r e = tt
    by_operands (Some p) r e = λ s.
        inputs_apart nodes i n p p order at (subst (λ q. children n ≡ p ∷ option_to_list q) s (sym e)) refl

-- the operands of a node keep their signs, and so does it
signed_still : (n : Node) (h : Bool) (old new : List Bool) → ((p : ℕ) → IsChild n p → sign_at new p ≡ sign_at old p) → AreSigned old n h → AreSigned new n h
signed_still n h old new still s = record {
  first = by_operand (first_of (view_of n)) (first_sign (view_of n) h) (λ p e. still p ((child_by n p).1 (inl e))) s.first;
  second = by_operand (second_of (view_of n)) h (λ p e. still p ((child_by n p).1 (inr e))) s.second;
}
  where
    by_operand : (o : Option ℕ) (g : Bool) → ((p : ℕ) → o ≡ Some p → sign_at new p ≡ sign_at old p) → IfSome o (λ p. sign_at old p ≡ g)
        → IfSome o (λ p. sign_at new p ≡ g)
    by_operand None g same put = tt
    by_operand (Some p) g same put = same p refl ∙ put

-- where the operands of the nodes behind place j have their signs, and those of the one there are put, all from there on have theirs
pub signed_down : (nodes : List Node) (old new : List Bool) (j : ℕ) (m : Node) → IsPostOrder nodes → slice_get nodes j ≡ Some m
    → AreSigned new m (sign_at old j) → ((k : ℕ) → ¬ IsChild m k → sign_at new k ≡ sign_at old k)
    → ((k : ℕ) (n : Node) → j + 1 ≤ k → slice_get nodes k ≡ Some n → AreSigned old n (sign_at old k))
    → (k : ℕ) (n : Node) → j ≤ k → slice_get nodes k ≡ Some n → AreSigned new n (sign_at new k)
signed_down nodes old new j m order at here others behind k n l there = by_place (here_or_behind k l)
  where
    -- a node from place j on is no child of the one there
    stays : (k : ℕ) → j ≤ k → sign_at new k ≡ sign_at old k
    stays k l = others k (λ c. let b = child_below j k m (placed nodes j m order at) c in omega (arith, b, l))

    here_or_behind : (k : ℕ) → j ≤ k → (k ≡ j) ⊎ (j + 1 ≤ k)
    here_or_behind k l = grind (arith, l)

    by_place : (k ≡ j) ⊎ (j + 1 ≤ k) → AreSigned new n (sign_at new k)
    by_place (inr b) = subst (AreSigned new n) (sym (stays k l))
        (signed_still n (sign_at old k) old new
        (λ p c. others p (λ d. one_parent nodes order j k p m n (λ e. omega (arith, b, e)) at there d c)) (behind k n b there))
    by_place (inl e) =
        let same : n ≡ m = same_Some _ _ (sym there ∙ ap (slice_get nodes) e ∙ at) in
        subst (λ i. AreSigned new n (sign_at new i)) (sym e)
        (subst (AreSigned new n) (sym (stays j (omega arith))) (subst (λ x. AreSigned new x (sign_at old j)) (sym same) here))
