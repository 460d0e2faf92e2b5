-- The atoms of a subformula stand at their places among the nodes.
use Rattle.std.proofs.Common.{◌≡◌, ℕ, zero, suc, ◌<◌, ◌≤◌, List, length, arith, ◌⊎◌, inl, inr, get_or}
use Rattle.std.specs.Prelude.{Some, None, slice_get}
use Rattle.std.proofs.lemmas.Option.{slice_get_cases}
use Rattle.stl_syntax.specs.Formula.{subformula, tree_of, HasChildrenBelow, StandsIn}
use Rattle.stl_syntax.specs.PostOrder.{IsPostOrder}
use Rattle.stl_syntax.specs.declared.node.Node.{Node}
use Rattle.stl_syntax.specs.declared.node.Node.TheVariants.{Const, Atom as Leaf, Not, And, Or, Implies, Until, Eventually, Always, Since, Once, Historically}
use Rattle.stl_syntax.proofs.FormulaLemmas.{subformula-at}
use Rattle.stl_syntax.proofs.PostOrderLemmas.{placed}

-- where the trees at the places below stand so, the tree of the node does
stands_above : (nodes : List Node) (i : ℕ) (n : Node) → subformula nodes i ≡ tree_of (subformula nodes) i n → HasChildrenBelow i n
    → ((k : ℕ) → k < i → StandsIn nodes (subformula nodes k)) → StandsIn nodes (tree_of (subformula nodes) i n)
stands_above nodes i (Const b) e c h = tt
stands_above nodes i (Leaf a) e c h = e
stands_above nodes i (Not p) e c h = h p c
stands_above nodes i (And p q) e c h = (h p c.0, h q c.1)
stands_above nodes i (Or p q) e c h = (h p c.0, h q c.1)
stands_above nodes i (Implies p q) e c h = (h p c.0, h q c.1)
stands_above nodes i (Until p q a b) e c h = (h p c.0, h q c.1)
stands_above nodes i (Eventually p a b a_in b_in) e c h = h p c
stands_above nodes i (Always p a b a_in b_in) e c h = h p c
stands_above nodes i (Since p q a b) e c h = (h p c.0, h q c.1)
stands_above nodes i (Once p a b a_in b_in) e c h = h p c
stands_above nodes i (Historically p a b a_in b_in) e c h = h p c

stands_below : (m : ℕ) (nodes : List Node) (i : ℕ) → IsPostOrder nodes → i < m → i < length nodes → StandsIn nodes (subformula nodes i)
stands_below zero nodes i ok h l = absurd (omega arith)
stands_below (suc m) nodes i ok h l = by_node (λ k j e. stands_below m nodes k ok j e) (slice_get_cases nodes i).1
  where
    by_node : ((k : ℕ) → k < m → k < length nodes → StandsIn nodes (subformula nodes k))
        → ((n : Node) × (i < length nodes) × (slice_get nodes i ≡ Some n) × (get_or nodes i n ≡ n))
        ⊎ ((length nodes ≤ i) × (slice_get nodes i ≡ None))
        → StandsIn nodes (subformula nodes i)
    by_node all (inr (past, e)) = absurd (omega arith)
    by_node all (inl (n, k, here, e)) =
        let below = placed nodes i n ok here in
        let made = subformula-at nodes i n here below in
        rw made (stands_above nodes i n made below (λ k j. all k (omega arith) (omega arith)))

-- the tree at a place stands among the nodes
pub stands : (nodes : List Node) (i : ℕ) → IsPostOrder nodes → i < length nodes → StandsIn nodes (subformula nodes i)
stands nodes i ok l = stands_below (suc i) nodes i ok (omega arith) l
