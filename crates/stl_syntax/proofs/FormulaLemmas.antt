-- The tree at a place is made of the trees at its children's places.
use Rattle.std.proofs.Common.{◌≡◌, ℕ, zero, suc, ◌+◌, ◌<◌, ◌≤◌, List, [], ◌∷◌, ◌++◌, length, refl, sym, ◌∙◌, arith, length-append, add-zero}
use Rattle.std.specs.Prelude.{Some, slice_get, false}
use Rattle.std.proofs.Math.ListN.{get_or-append}
use Rattle.std.proofs.Math.Seq.{get_or-append_seam}
use Rattle.stl_syntax.specs.Formula.{Subformula, constant, tree_of, tree_at, trees_after, subformula, HasChildrenBelow}
use Rattle.stl_syntax.specs.declared.node.Node.{Node}
use Rattle.stl_syntax.specs.declared.node.Node.TheVariants.{Const, Atom as Leaf, Not, And, Or, Implies, Until, Eventually, Always, Since, Once, Historically}

-- a tree that stands already stays
kept : (trees : List Subformula) (nodes : List Node) (i : ℕ) → i < length trees → tree_at (trees_after trees nodes) i ≡ tree_at trees i
kept trees [] i h = refl
kept trees (n ∷ nodes) i h =
    let t : Subformula = tree_of (tree_at trees) (length trees) n in
    let longer : i < length (trees ++ t ∷ []) = omega (arith, length-append trees (t ∷ [])) in
    kept (trees ++ t ∷ []) nodes i longer ∙ get_or-append trees (t ∷ []) (constant false) i h

-- a node's tree depends on its children's alone
tree_of-agrees : (f g : ℕ → Subformula) (i : ℕ) (n : Node) → HasChildrenBelow i n → ((k : ℕ) → k < i → f k ≡ g k) → tree_of f i n ≡ tree_of g i n
tree_of-agrees f g i (Const b) c h = refl
tree_of-agrees f g i (Leaf a) c h = refl
tree_of-agrees f g i (Not p) c h = rw (h p c)
tree_of-agrees f g i (And p q) c h = rw (h p c.0, h q c.1)
tree_of-agrees f g i (Or p q) c h = rw (h p c.0, h q c.1)
tree_of-agrees f g i (Implies p q) c h = rw (h p c.0, h q c.1)
tree_of-agrees f g i (Until p q a b) c h = rw (h p c.0, h q c.1)
tree_of-agrees f g i (Eventually p a b a_in b_in) c h = rw (h p c)
tree_of-agrees f g i (Always p a b a_in b_in) c h = rw (h p c)
tree_of-agrees f g i (Since p q a b) c h = rw (h p c.0, h q c.1)
tree_of-agrees f g i (Once p a b a_in b_in) c h = rw (h p c)
tree_of-agrees f g i (Historically p a b a_in b_in) c h = rw (h p c)

made : (trees : List Subformula) (nodes : List Node) (j i : ℕ) (n : Node) → i ≡ length trees + j → slice_get nodes j ≡ Some n → HasChildrenBelow i n
    → tree_at (trees_after trees nodes) i ≡ tree_of (tree_at (trees_after trees nodes)) i n
made trees [] j i n at e c = absurd (elim j as (λ j. slice_get [] j ≡ Some n → ⊥) [ zero ↦ λ e. cc | suc j ↦ λ e. cc ] e)
made trees (m ∷ nodes) zero i n at e c =
    let here : i ≡ length trees = at ∙ add-zero (length trees) in
    let t : Subformula = tree_of (tree_at trees) (length trees) m in
    let shorter : length trees < length (trees ++ t ∷ []) = omega (arith, length-append trees (t ∷ [])) in
    let same : m ≡ n = cc in
    let first : tree_at (trees_after (trees ++ t ∷ []) nodes) (length trees) ≡ t =
    kept (trees ++ t ∷ []) nodes (length trees) shorter ∙ get_or-append_seam trees t [] (constant false) in
    let stay : (k : ℕ) → k < length trees → tree_at trees k ≡ tree_at (trees_after (trees ++ t ∷ []) nodes) k = λ k h. sym (kept trees (m ∷ nodes) k h) in
    rw (here, ← same) (first ∙ tree_of-agrees (tree_at trees) (tree_at (trees_after (trees ++ t ∷ []) nodes)) (length trees) m (rw (← here, same) c) stay)
made trees (m ∷ nodes) (suc j) i n at e c =
    let t : Subformula = tree_of (tree_at trees) (length trees) m in
    made (trees ++ t ∷ []) nodes j i n (omega (arith, at, length-append trees (t ∷ []))) e c

-- a node whose children stand below a place has them below each later place
pub below_later : (i k : ℕ) (n : Node) → i ≤ k → HasChildrenBelow i n → HasChildrenBelow k n
below_later i k (Const b) h c = tt
below_later i k (Leaf a) h c = tt
below_later i k (And p q) h c = (omega (arith, h, c.0), omega (arith, h, c.1))
below_later i k (Or p q) h c = (omega (arith, h, c.0), omega (arith, h, c.1))
below_later i k (Implies p q) h c = (omega (arith, h, c.0), omega (arith, h, c.1))
below_later i k (Until p q a b) h c = (omega (arith, h, c.0), omega (arith, h, c.1))
below_later i k (Since p q a b) h c = (omega (arith, h, c.0), omega (arith, h, c.1))
below_later i k _ h c = omega (arith, h, c)

-- a subformula is made of those at its children's places
pub subformula-at : (nodes : List Node) (i : ℕ) (n : Node) → slice_get nodes i ≡ Some n → HasChildrenBelow i n
    → subformula nodes i ≡ tree_of (subformula nodes) i n
unfolding subformula
subformula-at nodes i n e c = made [] nodes i i n (omega arith) e c
