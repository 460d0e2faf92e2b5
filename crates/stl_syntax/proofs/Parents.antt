-- The children of a node are its operands, and each node is a child of one node at most.
use Rattle.std.proofs.Common.{◌≡◌, ◌≢◌, ◌⊎◌, inl, inr, ℕ, ◌<◌, true, false, List, [], ◌∷◌, ◌++◌, take, Option, Some, None, ap, sym, ◌∙◌, subst, arith}
use Rattle.std.specs.Prelude.{◌==◌, ◌↔◌, All, option_to_list, slice_get}
use Rattle.std.specs.List.{list_any}
use Rattle.std.proofs.lemmas.Bool.{cases_eq, cases_order, eq-eqb, or_left, or_right}
use Rattle.std.proofs.lemmas.List.{get_or-take, length-take-le}
use Rattle.std.proofs.lemmas.List.Elements.{All-head, All-tail}
use Rattle.std.proofs.lemmas.List.Folds.{list_any_at}
use Rattle.std.proofs.lemmas.Option.{same_Some, none-some, slice_get_within, get_or_from_slice_get}
use Rattle.stl_syntax.specs.Cells.{IsChild}
use Rattle.stl_syntax.specs.PostOrder.{children, has_child, is_used, IsPostOrder}
use Rattle.stl_syntax.specs.Views.{first_of, second_of, view_of}
use Rattle.stl_syntax.specs.declared.node.Node.{Node}
use Rattle.stl_syntax.specs.declared.node.Node.TheVariants.{Const, Atom as Leaf, Not, And, Or, Implies, Until, Eventually, Always, Since, Once, Historically}
use Rattle.stl_syntax.proofs.PostOrderLemmas.{children_free}
use Rattle.stl_syntax.proofs.ViewLaw.{children_by}

no_child : (i : ℕ) → ⊥ ↔ ((None ≡ Some i) ⊎ (None ≡ Some i))
no_child i = (λ h. absurd h, λ h. elim h [ inl e ↦ none-some i e | inr e ↦ none-some i e ])

one_child : (p i : ℕ) → (p ≡ i) ↔ ((Some p ≡ Some i) ⊎ (None ≡ Some i))
one_child p i = (λ e. inl (ap Some e), λ h. elim h [ inl e ↦ same_Some p i e | inr e ↦ absurd (none-some i e) ])

two_children : (p q i : ℕ) → ((p ≡ i) ⊎ (q ≡ i)) ↔ ((Some p ≡ Some i) ⊎ (Some q ≡ Some i))
two_children p q i = (
  λ h. elim h [ inl e ↦ inl (ap Some e) | inr e ↦ inr (ap Some e) ],
  λ h. elim h [ inl e ↦ inl (same_Some p i e) | inr e ↦ inr (same_Some q i e) ],
)

-- the children of a node are its operands
pub child_by : (n : Node) (i : ℕ) → IsChild n i ↔ ((first_of (view_of n) ≡ Some i) ⊎ (second_of (view_of n) ≡ Some i))
child_by (Const b) i = no_child i
child_by (Leaf a) i = no_child i
child_by (And p q) i = two_children p q i
child_by (Or p q) i = two_children p q i
child_by (Implies p q) i = two_children p q i
child_by (Until p q a b) i = two_children p q i
child_by (Since p q a b) i = two_children p q i
child_by (Not p) i = one_child p i
child_by (Eventually p a b a_in b_in) i = one_child p i
child_by (Always p a b a_in b_in) i = one_child p i
child_by (Once p a b a_in b_in) i = one_child p i
child_by (Historically p a b a_in b_in) i = one_child p i

-- a node is a child of another or is not
pub child_or_not : (p : ℕ) (n : Node) → IsChild n p ⊎ ¬ (IsChild n p)
child_or_not p n = by_operands (is_it (first_of (view_of n))) (is_it (second_of (view_of n)))
  where
    is_it : (o : Option ℕ) → (o ≡ Some p) ⊎ (o ≢ Some p)
    is_it None = inr (λ e. none-some p e)
    is_it (Some q) = elim (cases_eq q p) [ inl e ↦ inl (ap Some e) | inr d ↦ inr (λ e. d (same_Some q p e)) ]

    by_operands : (first_of (view_of n) ≡ Some p) ⊎ (first_of (view_of n) ≢ Some p) → (second_of (view_of n) ≡ Some p) ⊎ (second_of (view_of n) ≢ Some p)
        → IsChild n p ⊎ ¬ (IsChild n p)
    by_operands (inl e) other = inl ((child_by n p).1 (inl e))
    by_operands (inr d) (inl e) = inl ((child_by n p).1 (inr e))
    by_operands (inr d) (inr f) = inr (λ c. elim ((child_by n p).0 c) [ inl e ↦ d e | inr e ↦ f e ])

-- what holds of all children of a node holds of each
pub child_of_all : (P : ℕ → Type 0) (p : ℕ) (n : Node) → All P (children n) → IsChild n p → P p
child_of_all P p n all c = by_operands (first_of (view_of n)) (second_of (view_of n)) (subst (All P) (sym (children_by n)) all) ((child_by n p).0 c)
  where
    by_operands : (o r : Option ℕ) → All P (option_to_list o ++ option_to_list r) → (o ≡ Some p) ⊎ (r ≡ Some p) → P p
    by_operands (Some q) r all (inl e) = subst P (same_Some q p e) (All-head P q (option_to_list r) all)
    by_operands None r all (inl e) = absurd (none-some p e)
    by_operands (Some q) (Some s) all (inr e) = subst P (same_Some s p e) (All-head P s [] (All-tail P q (s ∷ []) all))
    by_operands None (Some s) all (inr e) = subst P (same_Some s p e) (All-head P s [] all)
    by_operands o None all (inr e) = absurd (none-some p e)

-- a child is among the places of its parent's children
pub child_has : (p : ℕ) (n : Node) → IsChild n p → has_child p n ≡ true
child_has p n c =
    subst (λ ps. list_any (λ q. q == p) ps ≡ true) (children_by n) (by_operands (first_of (view_of n)) (second_of (view_of n)) ((child_by n p).0 c))
  where
    by_operands : (o r : Option ℕ) → (o ≡ Some p) ⊎ (r ≡ Some p) → list_any (λ q. q == p) (option_to_list o ++ option_to_list r) ≡ true
    by_operands (Some q) r (inl e) = or_left _ _ (eq-eqb q p (same_Some q p e))
    by_operands None r (inl e) = absurd (none-some p e)
    by_operands (Some q) (Some s) (inr e) = or_right _ _ (or_left _ _ (eq-eqb s p (same_Some s p e)))
    by_operands None (Some s) (inr e) = or_left _ _ (eq-eqb s p (same_Some s p e))
    by_operands o None (inr e) = absurd (none-some p e)

module _ (nodes : List Node) (order : IsPostOrder nodes) where
  one_before : (i j p : ℕ) (n m : Node) → i < j → slice_get nodes i ≡ Some n → slice_get nodes j ≡ Some m → IsChild n p → IsChild m p → ⊥
  one_before i j p n m l at here c d =
      let within = slice_get_within nodes j m here in
      let inside = length-take-le j nodes (omega (arith, within)) in
      let used : is_used (take j nodes) p ≡ true = list_any_at (has_child p) (take j nodes) i n (omega (arith, l, inside))
      (ap (has_child p) (get_or-take j nodes i n l ∙ get_or_from_slice_get nodes i n n at) ∙ child_has p n c) in
      let free : is_used (take j nodes) p ≡ false =
      child_of_all (λ q. is_used (take j nodes) q ≡ false) p m (children_free (take j nodes) m (order.follows j m here)) d in
      (let z : true ≡ false = sym used ∙ free in cc)

  -- no node is a child of two
  pub one_parent : (i j p : ℕ) (n m : Node) → i ≢ j → slice_get nodes i ≡ Some n → slice_get nodes j ≡ Some m → IsChild n p → IsChild m p → ⊥
  one_parent i j p n m apart at here c d = elim (cases_order i j) [
    | inl e ↦ apart e
    | inr (inl l) ↦ one_before i j p n m l at here c d
    | inr (inr l) ↦ one_before j i p m n l here at d c
  ]
